-- Stores inside a body, of a key, of the individual address and of the flags keep a sheet accepted.
use Rattle.octets.proofs.Kit.{ℕ, ◌+◌, ◌-◌, ◌<◌, ◌≤◌, ◌≡◌, ◌∙◌, ap, ap₂, List, [], ◌∷◌, ◌⊎◌, inl, inr, length, get_or, dec_lt, arith}
use Rattle.octets.{specs.{Bytes.num_at, Splice.splice}, proofs.{Numbers.{num_same, num_one}, Splices.{length_splice, splice_in, splice_below, splice_above, splice_num_outside}}}
use Rattle.sheet.specs.{Kind.{properties, groups}, Layout.{Field, ◌of◌}, Entries.{count, place, contents, entry, body_at, InBody}, Agree.Agree, Rules.Accepted}
use Rattle.sheet.specs.Stores.{Inside, Fit, count_at}
use Rattle.sheet.specs.Head as head
use Rattle.sheet.specs.Property as property
use Rattle.sheet.specs.Group as group
use Rattle.sheet.proofs.{rules.Good.{Good, good}, places.BodyPlaces.{inside_at, inside_within, after_contents, disjoint, end_is}, alike.Sparing.{mild, count_stood, six_stood}}
use Rattle.sheet.proofs.places.Standing.{after_head, place_in}

-- A STORE AFTER THE CONTENTS, over one body or several: a code-0 byte is below 64
pub bodies_store :
    {s : List ℕ} → Accepted s → (o : ℕ) (ds : List ℕ) → contents s ≤ o → o + length ds ≤ length s →
    ((j p : ℕ) → InBody s groups j p → o ≤ p → p < o + length ds → group.code of entry s groups j ≡ 0 → get_or ds (p - o) 0 < 64) →
    Agree s (splice s o ds)
bodies_store {s} ok o ds low room fit =
    mild g
    (record {
      long = length_splice s o ds room;
      front = λ p h. early p (omega arith);
      byte15 = field head.byte15 (omega arith);
      rules = field head.rules (omega arith);
      zero31 = field head.zero31 (omega arith);
      flags = rw (field head.flags (omega arith)) g.zeros.0;
      entries = λ k i j hk hi hj f. early (place s k i + j) (omega (arith, place_in s k i hk hi));
      counts = λ i h.
          rw (num_early (count_at s i) (property.count).width (omega (arith, place_in s properties i (omega arith) h))) (count_stood g i h);
      six = λ j h c. six j h c (dec_lt (body_at s groups j) o) (dec_lt (body_at s groups j) (o + length ds));
    })
  where
    g : Good s
    g = good s ok

    early : (p : ℕ) → p < contents s → get_or (splice s o ds) p 0 ≡ get_or s p 0
    early p h = splice_below s o ds room p (omega arith)

    num_early : (p w : ℕ) → p + w ≤ contents s → num_at (splice s o ds) p w ≡ num_at s p w
    num_early p w h = num_same (splice s o ds) s p p w (λ j l. early (p + j) (omega arith))

    field : (f : Field) → f.at + f.width ≤ head.size → f of splice s o ds ≡ f of s
    field f h = num_early f.at f.width (omega arith)

    first : (j : ℕ) → j < count s groups → InBody s groups j (body_at s groups j)
    first j h = record { kind = omega arith; below = h; from = omega arith; to = omega (arith, end_is s groups j) }

    six : (j : ℕ) → j < count s groups → group.code of entry s groups j ≡ 0 → Dec (body_at s groups j < o) → Dec (body_at s groups j < o + length ds)
        → num_at (splice s o ds) (body_at s groups j) 1 < 64
    six j h c (yes l) d = rw (splice_num_outside s o ds room (body_at s groups j) 1 (inl (omega arith))) (six_stood g j h c)
    six j h c (no l) (no m) =
        rw (splice_num_outside s o ds room (body_at s groups j) 1 (inr (omega arith))) (six_stood g j h c)
    six j h c (no l) (yes m) =
        let p : ℕ = body_at s groups j in
        let q : o + (p - o) ≡ p = omega arith in
        let new : get_or ds (p - o) 0 < 64 = fit j p (first j h) (omega arith) m c in
        omega
        (arith, num_one (splice s o ds) p, ap (λ (x : ℕ). get_or (splice s o ds) x 0) q, splice_in s o ds room (p - o) (omega arith))

-- A STORE INSIDE ONE BODY
pub body_store :
    {s : List ℕ} → Accepted s → (k i o : ℕ) (ds : List ℕ) → Inside s k i o (length ds) → Fit s k i ds → Agree s (splice s o ds)
body_store {s} ok k i o ds inside fit =
    let g = good s ok in
    bodies_store ok o ds (omega (arith, inside.from, after_contents g k i inside.kind inside.below)) (inside_within g inside)
    (λ j p b f t c.
    let e = disjoint g k i groups j p (inside_at inside p f t) b in
    fit e.0 (ap₂ (λ (x y : ℕ). group.code of entry s x y) e.0 e.1 ∙ c) (p - o) (omega arith))

-- a store to the head that misses what the rules read there, but for the flags
head_store :
    {s : List ℕ} → Good s → (o : ℕ) (ds : List ℕ) → (head.serial).at ≤ o → o + length ds ≤ (head.rules).at →
    ((head.address).at ≤ o) ⊎ (o + length ds ≤ (head.byte15).at) → head.flags of splice s o ds ≤ 3 → Agree s (splice s o ds)
head_store {s} g o ds low high miss flags =
    mild g
    (record {
      long = length_splice s o ds room;
      front = λ p h. splice_below s o ds room p (omega arith);
      byte15 = splice_num_outside s o ds room (head.byte15).at (head.byte15).width miss;
      rules = splice_num_outside s o ds room (head.rules).at (head.rules).width (inr high);
      zero31 = splice_num_outside s o ds room (head.zero31).at (head.zero31).width (inr (omega arith));
      flags = flags;
      entries = λ k i j hk hi hj f. splice_above s o ds room (place s k i + j) (omega (arith, after_head s k i hk hi));
      counts = λ i h.
          rw (splice_num_outside s o ds room (count_at s i) (property.count).width (inr (omega (arith, after_head s properties i (omega arith) h)))) (count_stood g i h);
      six = λ i h c.
          rw (splice_num_outside s o ds room (body_at s groups i) 1 (inr (omega (arith, after_contents g groups i (omega arith) h)))) (six_stood g i h c);
    })
  where
    room : o + length ds ≤ length s
    room = omega (arith, g.framed)

module _ {s : List ℕ} (ok : Accepted s) where
  g : Good s
  g = good s ok

  -- a store after the flags
  later_store : (o : ℕ) (ds : List ℕ) → (head.address).at ≤ o → o + length ds ≤ (head.rules).at → Agree s (splice s o ds)
  later_store o ds low high =
      head_store g o ds (omega arith) high (inl low)
      (rw (splice_num_outside s o ds (omega (arith, g.framed)) (head.flags).at (head.flags).width (inl (omega arith))) g.zeros.0)

  -- A NEW KEY OF A LEVEL
  pub key_store : (l : ℕ) (ds : List ℕ) → l < 3 → length ds ≡ (head.key l).width → Agree s (splice s (head.key l).at ds)
  key_store l ds h n = later_store (head.key l).at ds (omega arith) (omega arith)

  -- A NEW INDIVIDUAL ADDRESS
  pub address_store : (ds : List ℕ) → length ds ≡ (head.address).width → Agree s (splice s (head.address).at ds)
  address_store ds n = later_store (head.address).at ds (omega arith) (omega arith)

  -- NEW FLAGS
  pub flags_store : (f : ℕ) → f ≤ 3 → Agree s (splice s (head.flags).at (f ∷ []))
  flags_store f h =
      head_store g (head.flags).at (f ∷ []) (omega arith) (omega arith) (inr (omega arith))
      (omega (arith, num_one (splice s (head.flags).at (f ∷ [])) (head.flags).at, splice_in s (head.flags).at (f ∷ []) (omega (arith, g.framed)) 0 (omega arith)))
