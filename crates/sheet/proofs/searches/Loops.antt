-- Address ranges found as the code does it: by halves to the first region, then on from region to region.
use Rattle.octets.proofs.Kit.{ℕ, zero, suc, ◌+◌, ◌-◌, ◌≤◌, ◌<◌, ◌≡◌, refl, sym, ◌∙◌, ap, subst, List, dec_lt, arith}
use Rattle.std.specs.Prelude.{None}
use Rattle.sheet.specs.{Kind.{kinds, properties, kind_of}, Layout.◌of◌, Entries.{count, entry}, Lookup.{At, object_at, common, range_of}, Places.region_at, Rules.Accepted}
use Rattle.sheet.specs.{Walk.{Entry, Lower, Goes}, declared.{Memory.Memory, ranges.Reach.Reach}}
use Rattle.sheet.specs.Region as region
use Rattle.sheet.specs.Property as property
use Rattle.sheet.proofs.{rules.{Good.{Good, good}, Entries.few as few-entries}, places.Levels.{common_self, common_again}}
use Rattle.sheet.proofs.{searches.Regions.{starts_at, ends_at, Covered, covers_stands, in_region, regions_apart, region_rows, place_hit}, places.Longer.range_suc}
use Rattle.sheet.proofs.{promises.Runs.range_none, searches.SearchLoops.{ok_framed, key_word}}

-- the object of a property
pub object_of : (s : List ℕ) (i : ℕ) (e : List ℕ) (r : ℕ) → e ≡ entry s properties i → r ≡ property.object of e → r ≡ object_at s i
unfolding object_at
object_of s i e r q p = rw q at p

-- region i of a memory is the next one; the last one ends at `reached` and has an address of the range of n from a on; and the
-- addresses from a to any that it has are the run from o on under l
pub record Along (s : List ℕ) (m : Memory) (a n o i reached l : ℕ) : Type 0 where
  pub last : ℕ
  pub next : i ≡ suc last
  pub below : last < count s (kind_of m)
  pub ends : reached ≡ ends_at s m last
  pub begins : starts_at s m last < a + n
  pub past : a < reached
  pub so : (j : ℕ) → starts_at s m last ≤ a + j → a + j < reached → range_of s m a (suc j) ≡ At o l

-- THE INVARIANT: this of the memory whose regions are the entries of kind k
pub record Going (s : List ℕ) (k a n o i reached l : ℕ) : Type 0 where
  pub few : i ≤ 64
  pub past : a < reached
  pub along : (m : Memory) → k ≡ kind_of m → Along s m a n o i reached l

module _ {s : List ℕ} (g : Good s) (m : Memory) (a : ℕ) where
  -- a run with one address more
  one_more_lem :
      (i j o l : ℕ) → i < count s (kind_of m) → starts_at s m i ≤ a + suc j →
      a + suc j < ends_at s m i → range_of s m a (suc j) ≡ At o l →
      range_of s m a (suc (suc j)) ≡ At o (common l (region.levels of region_at s m i))
  one_more_lem i j o l b f t e = range_suc s m a j ∙ rw (e, place_hit g (in_region (record { below = b; from = f; to = t })))

  -- within one region
  within_one :
      (i : ℕ) → Covered s m i a → (j : ℕ) → a + j < ends_at s m i →
      range_of s m a (suc j) ≡ At (region.offset of region_at s m i + (a - starts_at s m i)) (region.levels of region_at s m i)
  within_one i c zero h = unfold range_of in place_hit g (in_region c)
  within_one i c (suc j) h =
      let l : ℕ = region.levels of region_at s m i in
      let o : ℕ = region.offset of region_at s m i + (a - starts_at s m i) in
      one_more_lem i j o l c.below (omega (arith, c.from)) h (within_one i c j (omega arith)) ∙ ap (At o) (common_self l)

  module _ {n o i reached l : ℕ} (u : Along s m a n o i reached l) where
    -- over the end of one region into the next
    into_next :
        i < count s (kind_of m) → starts_at s m i ≡ reached → (j : ℕ) → reached ≤ a + j →
        a + j < ends_at s m i →
        range_of s m a (suc j) ≡ At o (common l (region.levels of region_at s m i))
    into_next b e zero h t = absurd (omega (arith, u.past))
    into_next b e (suc j) h t = go (dec_lt reached (a + suc j)) (into_next b e j)
      where
        go : Dec (reached < a + suc j) →
            (reached ≤ a + j → a + j < ends_at s m i → range_of s m a (suc j) ≡ At o (common l (region.levels of region_at s m i))) →
            range_of s m a (suc (suc j)) ≡ At o (common l (region.levels of region_at s m i))
        go (yes d) ih =
            one_more_lem i j o (common l (region.levels of region_at s m i)) b (omega (arith, e)) t (ih (omega arith) (omega arith)) ∙ ap (At o) (common_again l (region.levels of region_at s m i))
        go (no d) ih =
            one_more_lem i j o l b (omega (arith, e)) t (u.so j (omega (arith, u.ends, region_rows g m u.last u.below)) (omega arith))

    -- the regions end before the range does, and none goes on where the last one ends
    stops : reached < a + n → ((j : ℕ) → i ≤ j → j < count s (kind_of m) → reached < starts_at s m j) → None ≡ range_of s m a n
    stops h f =
        sym (range_none s m a n (reached - a, omega (arith, u.past), λ p l b. go b.index (covers_stands b) (dec_lt b.index i) (dec_lt b.index u.last)))
      where
        go : (j : ℕ) → Covered s m j (a + (reached - a)) → Dec (j < i) → Dec (j < u.last) → ⊥
        go j c (no d) e = omega (arith, c.from, u.past, f j (omega arith) c.below)
        go j c (yes d) (yes e) = omega (arith, c.to, u.past, u.ends, regions_apart g m j u.last e u.below)
        go j c (yes d) (no e) =
            let q : j ≡ u.last = omega (arith, u.next) in
            let t : a + (reached - a) < ends_at s m u.last = subst (λ (x : ℕ). a + (reached - a) < ends_at s m x) q c.to in
            omega (arith, t, u.past, u.ends)

-- k is the kind of a memory
module _ (s : List ℕ) (ok : Accepted s) (m : Memory) (k : ℕ) (kind : k ≡ kind_of m) (a n : ℕ) where
  at_kind : (e : List ℕ) (i : ℕ) → e ≡ entry s k i → e ≡ region_at s m i
  at_kind e i q = q ∙ ap (λ (x : ℕ). entry s x i) kind

  address_is : (e : List ℕ) (i : ℕ) → e ≡ entry s k i → region.address of e ≡ starts_at s m i
  address_is e i q = ap (λ (x : List ℕ). region.address of x) (at_kind e i q)

  end_is : (e : List ℕ) (i z : ℕ) → e ≡ entry s k i → z ≡ region.address of e + region.length of e → z ≡ ends_at s m i
  end_is e i z q p = p ∙ ap (λ (x : List ℕ). region.address of x + region.length of x) (at_kind e i q)

  -- the regions before i begin at the address or below, those from i on past it
  module _ (i : ℕ) (low : Lower s k (a + 1) i) where
    few : i ≤ count s (kind_of m)
    few = rw kind at low.within

    before : (j : ℕ) → j < i → starts_at s m j ≤ a
    before j h = omega (arith, low.before j h, key_word s k j, address_is (entry s k j) j refl)

    from : (j : ℕ) → i ≤ j → j < count s (kind_of m) → a < starts_at s m j
    from j h b = omega (arith, low.from j h (rw kind b), key_word s k j, address_is (entry s k j) j refl)

    -- so the last before i alone can have it
    alone : (j : ℕ) → Covered s m j a → suc j ≡ i
    alone j c = go (dec_lt j i) (dec_lt (suc j) i)
      where
        go : Dec (j < i) → Dec (suc j < i) → suc j ≡ i
        go (no h) d = absurd (omega (arith, c.from, from j (omega arith) c.below))
        go (yes h) (yes l) = absurd (omega (arith, c.to, before (suc j) l, regions_apart (good s ok) m j (suc j) (omega arith) (omega (arith, few))))
        go (yes h) (no l) = omega arith

    nowhere : 0 < n → ((j : ℕ) → suc j ≡ i → Covered s m j a → ⊥) → None ≡ range_of s m a n
    nowhere h f =
        let e : a + 0 ≡ a = omega arith in
        sym (range_none s m a n (0, h, λ p l b. let d : Covered s m b.index a = subst (Covered s m b.index) e (covers_stands b) in f b.index (alone b.index d) d))

    pub none_begins : (n ≡ 0 → ⊥) → i ≡ 0 → None ≡ range_of s m a n
    none_begins h z = nowhere (omega arith) (λ j e c. omega arith)

    pub none_reaches :
        (e : List ℕ) → e ≡ entry s k (i - 1) → (z : ℕ) → z ≡ region.address of e + region.length of e → (n ≡ 0 → ⊥) → z ≤ a → None ≡ range_of s m a n
    none_reaches e ee z ez h l =
        nowhere (omega arith) (λ j q c.
        let b : j ≡ i - 1 = omega arith in
        let t : Covered s m (i - 1) a = rw b at c in
        omega (arith, t.to, end_is e (i - 1) z ee ez))

    along_begins :
        (i ≡ 0 → ⊥) → (e : List ℕ) → e ≡ entry s k (i - 1) → (z : ℕ) → z ≡ region.address of e + region.length of e → (n ≡ 0 → ⊥) → a < z → (o l : ℕ) →
        o ≡ region.offset of e + (a - region.address of e) → l ≡ region.levels of e → Along s m a n o i z l
    along_begins pos e ee z ez h t o l eo el =
        let r = end_is e (i - 1) z ee ez in
        let c : Covered s m (i - 1) a = record { below = omega (arith, few); from = before (i - 1) (omega arith); to = omega (arith, r) } in
        record {
          last = i - 1;
          next = omega arith;
          below = omega (arith, few);
          ends = r;
          begins = omega (arith, c.from);
          past = t;
          so = λ j f b.
              within_one (good s ok) m a (i - 1) c j (omega (arith, r)) ∙ rw (eo, el, at_kind e (i - 1) ee) refl;
        }

  -- from region to region
  module _ (o i reached l : ℕ) (u : Along s m a n o i reached l) (short : reached < a + n) where
    none_there : (i < count s k → region.address of entry s k i ≡ reached → ⊥) → None ≡ range_of s m a n
    none_there f =
        stops (good s ok) m a u short (λ j h c. go j h c (dec_lt i j))
      where
        past : i < count s (kind_of m) → reached < starts_at s m i
        past b =
            let apart = regions_apart (good s ok) m u.last i (omega (arith, u.next)) b in
            let d : (starts_at s m i ≡ reached → ⊥) = λ q. f (rw kind b) (address_is (entry s k i) i refl ∙ q) in
            omega (arith, u.ends, apart)

        go : (j : ℕ) → i ≤ j → j < count s (kind_of m) → Dec (i < j) → reached < starts_at s m j
        go j h c (yes r) = omega (arith, past (omega arith), regions_apart (good s ok) m i j r c)
        go j h c (no r) = let p : j ≡ i = omega arith in rw p (past (omega arith))

    along_on : (r : Reach) → Goes s k i reached l r → Along s m a n o (i + 1) r.end r.levels
    along_on r w =
        let there : i < count s (kind_of m) = rw kind at w.there in
        let b : starts_at s m i ≡ reached = sym (address_is (entry s k i) i refl) ∙ w.begins in
        let t = end_is (entry s k i) i r.end refl w.ends in
        record {
          last = i;
          next = omega arith;
          below = there;
          ends = t;
          begins = omega (arith, b);
          past = omega (arith, u.past, t, b);
          so = λ j h d.
              into_next (good s ok) m a u there b j (omega (arith, b)) (omega (arith, t)) ∙ rw (w.rights, at_kind (entry s k i) i refl) refl;
        }

  -- all of the range
  all_along : (o i reached l : ℕ) → Along s m a n o i reached l → (n ≡ 0 → ⊥) → a + n ≤ reached → At o l ≡ range_of s m a n
  all_along o i reached l u h b =
      let e : suc (n - 1) ≡ n = omega arith in
      rw e at (sym (u.so (n - 1) (omega (arith, u.begins)) (omega arith)))

-- no address is no range
pub range_empty : (s : List ℕ) (m : Memory) (a n : ℕ) → n ≡ 0 → None ≡ range_of s m a n
range_empty s m a n h = rw h (unfold range_of in refl)

-- the first region: the last that begins at the address or below
module _ (s : List ℕ) (ok : Accepted s) (k : ℕ) (known : k < kinds) (a i : ℕ) (low : Lower s k (a + 1) i) (pos : i ≡ 0 → ⊥) where
  pub first_there : Entry s k (i - 1)
  first_there = record { framed = ok_framed s ok; kind = known; below = omega (arith, low.within) }

  module _ (e : List ℕ) (ee : e ≡ entry s k (i - 1)) where
    pub first_from : region.address of e ≤ a
    first_from = omega (arith, low.before (i - 1) (omega arith), key_word s k (i - 1), ap (λ (x : List ℕ). region.address of x) ee)

    pub range_begins :
        (z : ℕ) → z ≡ region.address of e + region.length of e → (n : ℕ) → (n ≡ 0 → ⊥) → a < z → (o l : ℕ) →
        o ≡ region.offset of e + (a - region.address of e) → l ≡ region.levels of e → Going s k a n o i z l
    range_begins z ez n h t o l eo el =
        record { few = omega (arith, few-entries first_there); past = t; along = λ m kind. along_begins s ok m k kind a n i low pos e ee z ez h t o l eo el }

-- the next ones
module _ (s : List ℕ) (ok : Accepted s) (k : ℕ) (known : k < kinds) (a n o i z l : ℕ) (u : Going s k a n o i z l) where
  module _ (m : Memory) (kind : k ≡ kind_of m) where
    pub no_next : z < a + n → (i < count s k → region.address of entry s k i ≡ z → ⊥) → None ≡ range_of s m a n
    no_next short f = none_there s ok m k kind a n o i z l (u.along m kind) short f

    pub all_found : (n ≡ 0 → ⊥) → a + n ≤ z → At o l ≡ range_of s m a n
    all_found h b = all_along s ok m k kind a n o i z l (u.along m kind) h b

  pub goes_on : (r : Reach) → z < a + n → Goes s k i z l r → Going s k a n o (i + 1) r.end r.levels
  goes_on r short g =
      record {
        few = omega (arith, few-entries (record { framed = ok_framed s ok; kind = known; below = g.there }));
        past = omega (arith, u.past, g.begins, g.ends);
        along = λ m kind. along_on s ok m k kind a n o i z l (u.along m kind) short r g;
      }
