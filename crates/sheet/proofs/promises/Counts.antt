-- New counts of properties, none above its maximum, keep a sheet accepted.
use Rattle.octets.proofs.Kit.{ℕ, ◌+◌, ◌-◌, ◌<◌, ◌≤◌, ◌≡◌, refl, sym, ◌∙◌, ap, List, ◌⊎◌, inl, inr, length, get_or, dec_lt, ℕ_discrete, arith}
use Rattle.octets.{specs.{Bytes.{num_at, bytes_of}, Splice.splice}, proofs.Numbers.{num_same, length_bytes}}
use Rattle.octets.proofs.Splices.{length_splice, splice_below, splice_above, splice_num, splice_num_outside}
use Rattle.sheet.specs.{Kind.{kinds, properties, groups}, Layout.{Field, ◌of◌}, Entries.{count, size, place, contents, entry, body_at}, Rules.{entry_demands, Accepted}}
use Rattle.sheet.specs.{Agree.{Agree, Fixed}, Stores.{count_at, NoCount}}
use Rattle.sheet.specs.Head as head
use Rattle.sheet.specs.Property as property
use Rattle.sheet.proofs.{rules.Good.{Good, good, accepted}, places.BodyPlaces.after_contents, alike.{Sparing.{mild, count_stood, six_stood}, Sames.place_same}}
use Rattle.sheet.proofs.places.Standing.{field_at, after_head, place_in, one_entry}

-- ANY NUMBER OF NEW COUNTS, none above its maximum
pub counts_store :
    {s : List ℕ} → Accepted s → (s' : List ℕ) → length s' ≡ length s →
    ((p : ℕ) → NoCount s p → get_or s' p 0 ≡ get_or s p 0) →
    ((i : ℕ) → i < count s properties → num_at s' (count_at s i) (property.count).width ≤ property.maximum of entry s properties i)
    → Agree s s'
counts_store {s} ok s' long but low =
    mild g
    (record {
      long = long;
      front = λ p h. early p (omega arith);
      byte15 = field head.byte15 (omega arith);
      rules = field head.rules (omega arith);
      zero31 = field head.zero31 (omega arith);
      flags = rw (field head.flags (omega arith)) g.zeros.0;
      entries = λ k i j hk hi hj f. but (place s k i + j) (apart k i j hk hi hj f);
      counts = low;
      six = λ i h c. rw (late (body_at s groups i) (after_contents g groups i (omega arith) h)) (six_stood g i h c);
    })
  where
    g : Good s
    g = good s ok

    early : (p : ℕ) → p < head.size → get_or s' p 0 ≡ get_or s p 0
    early p h = but p (λ i hi a b. omega (arith, after_head s properties i (omega arith) hi))

    field : (f : Field) → f.at + f.width ≤ head.size → f of s' ≡ f of s
    field f h = num_same s' s f.at f.at f.width (λ j l. early (f.at + j) (omega arith))

    late : (p : ℕ) → contents s ≤ p → num_at s' p 1 ≡ num_at s p 1
    late p h =
        num_same s' s p p 1 (λ j l. but (p + j) (λ i hi a b. omega (arith, place_in s properties i (omega arith) hi)))

    apart : (k i j : ℕ) → k < kinds → i < count s k → j < size k → Fixed k j → NoCount s (place s k i + j)
    apart k i j hk hi hj f m hm a b =
        let q = one_entry s k i j properties m (place s k i + j - place s properties m) (place s k i + j)
        (record { kind = hk; below = hi; short = hj; here = refl })
        (record { kind = omega arith; below = hm; short = omega arith; here = omega arith }) in
        f q.0 (omega (arith, q.2)) (omega (arith, q.2))

-- s with c for the count of property i
abbrev pub with_count : List ℕ → ℕ → ℕ → List ℕ
with_count s i c = splice s (count_at s i) (bytes_of (property.count).width c)

module _
    {s : List ℕ} (g : Good s) (i c : ℕ) (hi : i < count s properties) (low : c ≤ property.maximum of entry s properties i) where
  two : length (bytes_of 2 c) ≡ 2
  two = length_bytes 2 c

  room : count_at s i + length (bytes_of 2 c) ≤ length s
  room = omega (arith, two, place_in s properties i (omega arith) hi, g.framed)

  now : num_at (with_count s i c) (count_at s i) 2 ≡ c
  unfolding entry_demands
  now =
      splice_num s (count_at s i) 2 c (omega (arith, two, room))
      (omega (arith, g.entries properties i (omega arith) hi))

  others : (j : ℕ) → (j ≡ i → ⊥) → num_at (with_count s i c) (count_at s j) 2 ≡ num_at s (count_at s j) 2
  others j n = splice_num_outside s (count_at s i) (bytes_of 2 c) room (count_at s j) 2 (side (dec_lt j i))
    where
      side : Dec (j < i) → (count_at s j + 2 ≤ count_at s i) ⊎ (count_at s i + length (bytes_of 2 c) ≤ count_at s j)
      side (yes l) = inl (omega arith)
      side (no l) = inr (omega (arith, two))

  -- A NEW COUNT OF ONE PROPERTY
  pub count_store : Agree s (with_count s i c)
  count_store =
      counts_store (accepted g) (with_count s i c) (length_splice s (count_at s i) (bytes_of 2 c) room)
      (λ p n. same p n (dec_lt p (count_at s i)) (dec_lt p (count_at s i + 2)))
      (λ j h. counts j h (ℕ_discrete j i))
    where
      same : (p : ℕ) → NoCount s p → Dec (p < count_at s i) → Dec (p < count_at s i + 2) → get_or (with_count s i c) p 0 ≡ get_or s p 0
      same p n (yes l) d = splice_below s (count_at s i) (bytes_of 2 c) room p l
      same p n (no l) (yes m) = absurd (n i hi (omega arith) (omega arith))
      same p n (no l) (no m) = splice_above s (count_at s i) (bytes_of 2 c) room p (omega (arith, two))

      counts : (j : ℕ) → j < count s properties → Dec (j ≡ i) → num_at (with_count s i c) (count_at s j) 2 ≤ property.maximum of entry s properties j
      counts j h (yes e) = rw (e, now) low
      counts j h (no n) = rw (others j n) (count_stood g j h)

  after : (j : ℕ) → property.count of entry (with_count s i c) properties j ≡ num_at (with_count s i c) (count_at s j) 2
  after j =
      field_at (with_count s i c) properties j property.count (omega arith)
      ∙ ap (λ (p : ℕ). num_at (with_count s i c) (p + (property.count).at) 2) (place_same count_store properties j)

  -- the property has it
  pub count_now : property.count of entry (with_count s i c) properties i ≡ c
  count_now = after i ∙ now

  -- the others keep theirs
  pub count_kept : (j : ℕ) → (j ≡ i → ⊥) → property.count of entry (with_count s i c) properties j ≡ property.count of entry s properties j
  count_kept j n = after j ∙ others j n ∙ sym (field_at s properties j property.count (omega arith))
