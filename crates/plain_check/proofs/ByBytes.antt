-- The tests over the bytes of an entry say what its rows say, S6 to S8, and what those of its body say, S9.
use Rattle.octets.proofs.Kit.{ℕ, zero, suc, ◌+◌, ◌-◌, ◌≤◌, ◌<◌, ◌≡◌, refl, ap, ◌∙◌, Bool, List, ◌⊎◌, inl, inr, dec_lt, arith, le-leb, lt-leb}
use Rattle.octets.specs.Bytes.{num_at}
use Rattle.sheet.specs.{Demand.Met, Layout.{Field, field, ◌of◌}, Entries.{size, place, entry, floor, offset_of, reached, six_bits}}
use Rattle.sheet.{specs.Rules.{region_demands, property_demands, group_demands, entry_demands, body_demands}, proofs.places.Standing.field_at}
use Rattle.plain_check.specs.{declared.Kind.{Kind, TheVariants.{Regions, Properties, Groups, Users}}, Kind.number_of}
use Rattle.sheet.specs.Region as region
use Rattle.sheet.specs.Property as property
use Rattle.sheet.specs.Group as group
use Rattle.plain_check.specs.{Says.Says, Tests.{Placed, RegionAt, PropertyAt, GroupAt, BodyAt, entry_at}}
use Rattle.plain_check.proofs.{Saying.says_map, Placing.number_in}

module _ (s : List ℕ) where
  none_before : (k : ℕ) → floor s k 0 ≡ 0
  unfolding floor
  none_before k = refl

  -- a field of an entry that stands at `at`, and its first word
  module _ (k i at : ℕ) (there : at ≡ place s k i) where
    read : (f : Field) → f.at + f.width ≤ size k → f of entry s k i ≡ num_at s (at + f.at) f.width
    read f h = rw there (field_at s k i f h)

    word : 2 ≤ size k → num_at (entry s k i) 0 2 ≡ num_at s at 2
    word h = read (field 0 2) h ∙ ap (λ (p : ℕ). num_at s p 2) (omega arith)

  -- the regions of a memory: those of kind k
  module _ (k : ℕ) (fits : 8 ≤ size k) (next : (j : ℕ) → place s k (suc j) ≡ place s k j + 8)
      (after : (j : ℕ) → floor s k (suc j) ≡ region.address of entry s k j + region.length of entry s k j) where
    -- where the region before ends, by the bytes
    before : (j at : ℕ) → at ≡ place s k (suc j) → num_at s (at - 8) 2 + num_at s (at - 6) 2 ≡ floor s k (suc j)
    before j at e =
        let p : at - 8 ≡ place s k j = omega (arith, next j) in
        let q : at - 6 ≡ place s k j + 2 = omega (arith, next j) in
        let a = word k j (place s k j) refl (omega arith) in
        let l = read k j (place s k j) refl region.length (omega arith) in
        let x : num_at s (at - 8) 2 ≡ num_at s (place s k j) 2 = ap (λ (n : ℕ). num_at s n 2) p in
        let y : num_at s (at - 6) 2 ≡ num_at s (place s k j + 2) 2 = ap (λ (n : ℕ). num_at s n 2) q in
        omega (arith, after j)

    region_to : (i at : ℕ) → at ≡ place s k i → RegionAt s at i → Met (region_demands (floor s k i) (entry s k i))
    region_to zero at e m =
        let a = word k 0 at e (omega arith) in
        let l = read k 0 at e region.length (omega arith) in
        let v = read k 0 at e region.levels (omega arith) in
        let z = read k 0 at e region.zero (omega arith) in
        omega (arith, none_before k, m.0.0.0, m.0.1, m.1)
    region_to (suc j) at e ((((x, y), inl q), w), u) = absurd (omega arith)
    region_to (suc j) at e ((((x, y), inr q), w), u) =
        let a = word k (suc j) at e (omega arith) in
        let l = read k (suc j) at e region.length (omega arith) in
        let v = read k (suc j) at e region.levels (omega arith) in
        let z = read k (suc j) at e region.zero (omega arith) in
        omega (arith, before j at e)

    region_from_lem : (i at : ℕ) → at ≡ place s k i → Met (region_demands (floor s k i) (entry s k i)) → RegionAt s at i
    region_from_lem i at e m =
        let a = word k i at e (omega arith) in
        let l = read k i at e region.length (omega arith) in
        let v = read k i at e region.levels (omega arith) in
        let z = read k i at e region.zero (omega arith) in
        ((((omega arith, omega arith), ordered i e m a), omega arith), omega arith)
      where
        ordered : (i : ℕ) → at ≡ place s k i → Met (region_demands (floor s k i) (entry s k i)) → num_at (entry s k i) 0 2 ≡ num_at s at 2
            → (i ≡ 0) ⊎ (num_at s (at - 8) 2 + num_at s (at - 6) 2 ≤ num_at s at 2)
        ordered zero e m a = inl refl
        ordered (suc j) e m a = inr (omega (arith, before j at e))

    pub region_says : (i at : ℕ) (r : Bool) → at ≡ place s k i → Says (RegionAt s at i) r → Says (Met (region_demands (floor s k i) (entry s k i))) r
    region_says i at r e h = says_map (region_to i at e) (region_from_lem i at e) h

  -- what stands before a property or a group object
  property_before : (j at : ℕ) → at ≡ place s 1 (suc j) → num_at s (at - 12) 2 + 1 ≡ floor s 1 (suc j)
  unfolding floor
  property_before j at e =
      let p : at - 12 ≡ place s 1 j = omega arith in
      let x : num_at s (at - 12) 2 ≡ num_at s (place s 1 j) 2 = ap (λ (n : ℕ). num_at s n 2) p in
      let a = word 1 j (place s 1 j) refl (omega arith) in
      omega arith

  group_before : (j at : ℕ) → at ≡ place s 2 (suc j) → num_at s (at - 8) 2 + 1 ≡ floor s 2 (suc j)
  unfolding floor
  group_before j at e =
      let p : at - 8 ≡ place s 2 j = omega arith in
      let x : num_at s (at - 8) 2 ≡ num_at s (place s 2 j) 2 = ap (λ (n : ℕ). num_at s n 2) p in
      let a = word 2 j (place s 2 j) refl (omega arith) in
      omega arith

  -- (i is 0, or the word before is below) says that the first word is at least the floor
  rising : (k i p w : ℕ) → ((j : ℕ) → i ≡ suc j → p + 1 ≡ floor s k (suc j)) → (i ≡ 0) ⊎ (p < w) → floor s k i ≤ w
  rising k zero p w f t = omega (arith, none_before k)
  rising k (suc j) p w f (inl q) = absurd (omega arith)
  rising k (suc j) p w f (inr q) = omega (arith, f j refl)

  risen : (k i p w : ℕ) → ((j : ℕ) → i ≡ suc j → p + 1 ≡ floor s k (suc j)) → floor s k i ≤ w → (i ≡ 0) ⊎ (p < w)
  risen k zero p w f h = inl refl
  risen k (suc j) p w f h = inr (omega (arith, f j refl))

  module _ (i at : ℕ) (e : at ≡ place s 1 i) where
    before_property : (j : ℕ) → i ≡ suc j → num_at s (at - 12) 2 + 1 ≡ floor s 1 (suc j)
    before_property j q = property_before j at (rw q at e)

    property_to : PropertyAt s at i → Met (property_demands (floor s 1 i) (entry s 1 i))
    property_to m =
        let f = rising 1 i (num_at s (at - 12) 2) (num_at s at 2) before_property m.0.0.0.0.0.0.0.0.1 in
        let a = word 1 i at e (omega arith) in
        let b = read 1 i at e property.id (omega arith) in
        let c = read 1 i at e property.typ (omega arith) in
        let d = read 1 i at e property.element (omega arith) in
        let g = read 1 i at e property.maximum (omega arith) in
        let h = read 1 i at e property.count (omega arith) in
        let v = read 1 i at e property.levels (omega arith) in
        let z = read 1 i at e property.zero (omega arith) in
        omega (arith, m.0.0.0.0.0.0.0.0.0, m.0.0.0.0.0.0.0.1, m.0.0.0.0.0.0.1, m.0.0.0.0.0.1, m.0.0.0.0.1, m.0.0.0.1, m.0.0.1, m.0.1, m.1)

    property_from_lem : Met (property_demands (floor s 1 i) (entry s 1 i)) → PropertyAt s at i
    property_from_lem m =
        let a = word 1 i at e (omega arith) in
        let b = read 1 i at e property.id (omega arith) in
        let c = read 1 i at e property.typ (omega arith) in
        let d = read 1 i at e property.element (omega arith) in
        let g = read 1 i at e property.maximum (omega arith) in
        let h = read 1 i at e property.count (omega arith) in
        let v = read 1 i at e property.levels (omega arith) in
        let z = read 1 i at e property.zero (omega arith) in
        let f = risen 1 i (num_at s (at - 12) 2) (num_at s at 2) before_property (omega arith) in
        (((((((((omega arith, f), omega arith), omega arith), omega arith), omega arith), omega arith), omega arith), omega arith), omega arith)

  module _ (i at : ℕ) (e : at ≡ place s 2 i) where
    before_group : (j : ℕ) → i ≡ suc j → num_at s (at - 8) 2 + 1 ≡ floor s 2 (suc j)
    before_group j q = group_before j at (rw q at e)

    group_to : GroupAt s at i → Met (group_demands (floor s 2 i) (entry s 2 i))
    group_to m =
        let f = rising 2 i (num_at s (at - 8) 2) (num_at s at 2) before_group m.0.0.0.1 in
        let a = word 2 i at e (omega arith) in
        let b = read 2 i at e group.code (omega arith) in
        let c = read 2 i at e group.flags (omega arith) in
        let z = read 2 i at e group.zeros (omega arith) in
        omega (arith, m.0.0.0.0, m.0.0.1, m.0.1, m.1)

    group_from_lem : Met (group_demands (floor s 2 i) (entry s 2 i)) → GroupAt s at i
    group_from_lem m =
        let a = word 2 i at e (omega arith) in
        let b = read 2 i at e group.code (omega arith) in
        let c = read 2 i at e group.flags (omega arith) in
        let z = read 2 i at e group.zeros (omega arith) in
        let f = risen 2 i (num_at s (at - 8) 2) (num_at s at 2) before_group (omega arith) in
        ((((omega arith, f), omega arith), omega arith), omega arith)

  -- AN ENTRY, by the test of its kind
  module _ (k : Kind) (i at : ℕ) (r : Bool) (p : Placed s (number_of k) i at) where
    pub property_kept : k ≡ Properties → Says (PropertyAt s at i) r → Says (Met (entry_demands s (number_of k) i)) r
    unfolding entry_demands
    property_kept q h =
        let e : at ≡ place s 1 i = rw q at p.is in
        rw q (says_map (property_to i at e) (property_from_lem i at e) h)

    pub group_kept : k ≡ Groups → Says (GroupAt s at i) r → Says (Met (entry_demands s (number_of k) i)) r
    unfolding entry_demands
    group_kept q h =
        let e : at ≡ place s 2 i = rw q at p.is in
        rw q (says_map (group_to i at e) (group_from_lem i at e) h)

  pub region_kept : (k : Kind) (i at : ℕ) (r : Bool) → Placed s (number_of k) i at → (k ≡ Regions) ⊎ (k ≡ Users) → Says (RegionAt s at i) r → Says (Met (entry_demands s (number_of k) i)) r
  unfolding entry_demands floor
  region_kept Regions i at r p e h = region_says 0 (omega arith) (λ j. omega arith) (λ j. refl) i at r p.is h
  region_kept Properties i at r p (inl q) h = absurd (cc)
  region_kept Properties i at r p (inr q) h = absurd (cc)
  region_kept Groups i at r p (inl q) h = absurd (cc)
  region_kept Groups i at r p (inr q) h = absurd (cc)
  region_kept Users i at r p e h = region_says 3 (omega arith) (λ j. omega arith) (λ j. refl) i at r p.is h

  -- the byte of a group object of code 0
  abbrev Six : ℕ → ℕ → ℕ → Type 0
  Six k at z = ((((k ≡ 2) → ⊥) ⊎ (1 ≤ num_at s (at + 2) 1)) ⊎ (num_at s z 1 < 64))

  six_to : (k at z : ℕ) → offset_of k (entry_at s k at) ≡ z → Six k at z → six_bits s k (entry_at s k at) ≤ 63
  unfolding six_bits
  six_to zero at z e t = omega arith
  six_to (suc zero) at z e t = omega arith
  six_to (suc (suc zero)) at z e t = go (dec_lt (group.code of entry_at s 2 at) 1) t
    where
      go : Dec (group.code of entry_at s 2 at < 1) → Six 2 at z → six_bits s 2 (entry_at s 2 at) ≤ 63
      go (no l) t = rw (le-leb 1 (group.code of entry_at s 2 at) (omega arith)) (omega arith)
      go (yes l) (inl (inl q)) = absurd (q refl)
      go (yes l) (inl (inr q)) = absurd (omega (arith, number_in s 2 at 2 1 (omega arith)))
      go (yes l) (inr q) = rw (lt-leb 1 (group.code of entry_at s 2 at) l, e) (omega arith)
  six_to (suc (suc (suc k))) at z e t = omega arith

  six_from : (k at z : ℕ) → offset_of k (entry_at s k at) ≡ z → six_bits s k (entry_at s k at) ≤ 63 → Six k at z
  unfolding six_bits
  six_from zero at z e h = inl (inl (λ q. omega arith))
  six_from (suc zero) at z e h = inl (inl (λ q. omega arith))
  six_from (suc (suc zero)) at z e h = go (dec_lt (group.code of entry_at s 2 at) 1)
    where
      go : Dec (group.code of entry_at s 2 at < 1) → Six 2 at z
      go (yes l) = inr (let x = rw (lt-leb 1 (group.code of entry_at s 2 at) l, e) at h in omega (arith, x))
      go (no l) = inl (inr (omega (arith, number_in s 2 at 2 1 (omega arith))))
  six_from (suc (suc (suc k))) at z e h = inl (inl (λ q. omega arith))

  -- A BODY, where the one before ended at z
  pub body_kept : (k i at z : ℕ) (r : Bool) → at ≡ place s k i → z ≡ reached s k i → Says (BodyAt s k at z) r → Says (Met (body_demands s k i)) r
  unfolding body_demands entry
  body_kept k i at z r e f h =
      rw (← e, ← f) (says_map (λ m. (m.0, (six_to k at z m.0 m.1, tt))) (λ m. (m.0, six_from k at z m.0 m.1.0)) h)
