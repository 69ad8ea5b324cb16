-- LAWS of where locations stand: each at one position, no two at the same, and every position a location's, a group object's or a field's.
use Rattle.octets.proofs.Kit.{ℕ, zero, suc, ◌+◌, ◌*◌, ◌-◌, ◌/◌, ◌%◌, ◌<◌, ◌≤◌, ◌≡◌, refl, sym, ◌∙◌, ap, ap₂, subst, subst⁻¹, ◌⊎◌, inl, inr, List, length, dec_lt, dec_le, arith}
use Rattle.sheet.specs.{Kind.{properties, groups, kind_of}, Layout.◌of◌, Entries.{count, place, contents, entry, key_of, body_at, body_end, InBody}}
use Rattle.sheet.specs.{Places.{Position, in_head, in_entry, in_body, region_at, Stands, PropertyWith}, Agree.Fixed, declared.Memory.{Memory, TheVariants.{Device, User}}}
use Rattle.sheet.proofs.{rules.Good.{Good, accepted}, places.{BodyPlaces.{within, after_contents, disjoint}, Standing.{InEntry, after_head, place_in, one_entry}}}
use Rattle.sheet.proofs.{promises.{Positions.position, Keys.{key_once, key_is}}, places.RegionBodies.{kind_once, no_property_lem, no_group_lem as no-group-region, stands_in, stands_back}}
use Rattle.sheet.proofs.promises.Runs.{stands_once}
use Rattle.sheet.specs.Head as head
use Rattle.sheet.specs.Region as region
use Rattle.sheet.specs.Property as property
use Rattle.history.specs.{Location.{Location, memory, key, Place, of_memory, of_body, of_counter, of_key}, Sort.{Sort, is_location, is_group, is_field, location, group_body, being_of}}

-- byte j of a property's body lies in it, and byte j of its count in its entry
pub body_in :
    {s : List ℕ} {object id i j p : ℕ} → PropertyWith s object id i →
    j < property.element of entry s properties i * property.maximum of entry s properties i → p ≡ body_at s properties i + j → InBody s properties i p
unfolding body_at body_end
body_in q h e = record { kind = omega arith; below = q.there; from = omega arith; to = omega arith }

pub counter_in :
    {s : List ℕ} {object id i j p : ℕ} → PropertyWith s object id i → j < (property.count).width →
    p ≡ place s properties i + (property.count).at + j → InEntry s properties i ((property.count).at + j) p
counter_in q h e = record { kind = omega arith; below = q.there; short = omega arith; here = omega arith }

module _ {s : List ℕ} (g : Good s) where
  -- one property at most has an object and an id
  pub property_once : {object id i j : ℕ} → PropertyWith s object id i → PropertyWith s object id j → i ≡ j
  unfolding key_of
  property_once {object} {id} {i} {j} a b =
      key_once s (accepted g) properties (omega arith) i j a.there b.there
      (let p = key_is (entry s properties i) in let q = key_is (entry s properties j) in omega (arith, a.same_object, a.same_id, b.same_object, b.same_id))

  -- locations stand in the keys, in the entries, or after them
  pub in_contents : {i j p : ℕ} → InEntry s properties i j p → (head.size ≤ p) × (p < contents s)
  in_contents {i} h =
      let a = after_head s properties i h.kind h.below in
      let b = place_in s properties i h.kind h.below in
      omega (arith, h.short, h.here)

  pub past_contents : {k i p : ℕ} → InBody s k i p → contents s ≤ p
  past_contents {k} {i} b = omega (arith, b.from, after_contents g k i b.kind b.below)

  same_property : {o d o' d' i i' : ℕ} → PropertyWith s o d i → PropertyWith s o' d' i' → i ≡ i' → (o ≡ o') × (d ≡ d')
  same_property {i = i} {i'} a b e = (
    sym a.same_object ∙ ap (λ (n : ℕ). property.object of entry s properties n) e ∙ b.same_object,
    sym a.same_id ∙ ap (λ (n : ℕ). property.id of entry s properties n) e ∙ b.same_id,
  )

  -- no two locations stand at one position
  pub location_once : {x y : Location} {p : ℕ} → Place s x p → Place s y p → x ≡ y
  location_once {p = p} (of_memory {m = m} a) (of_memory {m = n} {y = y} {levels = l} b) =
      let e : m ≡ n = kind_once m n (disjoint g (kind_of m) a.index (kind_of n) b.index p (stands_in g a) (stands_in g b)).0 in
      let c : Stands s m y p l = subst⁻¹ (λ (k : Memory). Stands s k y p l) e b in
      ap₂ memory e (stands_back g a c)
  location_once {p = p} (of_memory {m = n} a) (of_body m b l f) =
      absurd (no_property_lem n (disjoint g (kind_of n) a.index properties m p (stands_in g a) (body_in b l f)).0)
  location_once (of_memory a) (of_counter m b l f) =
      absurd (omega (arith, past_contents (stands_in g a), in_contents (counter_in b l f)))
  location_once (of_memory a) (of_key l j f) = absurd (omega (arith, past_contents (stands_in g a)))
  location_once {p = p} (of_body i a h e) (of_memory {m = n} b) =
      absurd (no_property_lem n (disjoint g (kind_of n) b.index properties i p (stands_in g b) (body_in a h e)).0)
  location_once {p = p} (of_body {j = j} i a h e) (of_body {j = n} m b l f) =
      let q : i ≡ m = (disjoint g properties i properties m p (body_in a h e) (body_in b l f)).1 in
      let z : body_at s properties i ≡ body_at s properties m = ap (body_at s properties) q in
      let w : j ≡ n = omega arith in
      rw ((same_property a b q).0, (same_property a b q).1, w)
  location_once (of_body i a h e) (of_counter m b l f) =
      absurd (omega (arith, past_contents (body_in a h e), in_contents (counter_in b l f)))
  location_once (of_body i a h e) (of_key l j f) = absurd (omega (arith, past_contents (body_in a h e)))
  location_once (of_counter i a h e) (of_memory b) =
      absurd (omega (arith, past_contents (stands_in g b), in_contents (counter_in a h e)))
  location_once (of_counter i a h e) (of_body m b l f) =
      absurd (omega (arith, past_contents (body_in b l f), in_contents (counter_in a h e)))
  location_once {p = p} (of_counter {j = j} i a h e) (of_counter {j = n} m b l f) =
      let q = one_entry s properties i ((property.count).at + j) properties m ((property.count).at + n) p (counter_in a h e) (counter_in b l f) in
      let w : j ≡ n = omega (arith, q.2) in
      rw ((same_property a b q.1).0, (same_property a b q.1).1, w)
  location_once (of_counter i a h e) (of_key l j f) = absurd (omega (arith, in_contents (counter_in a h e)))
  location_once (of_key h k e) (of_memory b) = absurd (omega (arith, past_contents (stands_in g b)))
  location_once (of_key h k e) (of_body m b l f) = absurd (omega (arith, past_contents (body_in b l f)))
  location_once (of_key h k e) (of_counter m b l f) = absurd (omega (arith, in_contents (counter_in b l f)))
  location_once (of_key {l = l} {j = j} h k e) (of_key {l = m} {j = n} c d f) =
      let q : l ≡ m = omega arith in
      let w : j ≡ n = omega arith in
      rw (q, w)

  -- and each stands at one alone
  pub place_once : {x : Location} {p q : ℕ} → Place s x p → Place s x q → p ≡ q
  place_once (of_memory a) (of_memory b) = (stands_once (accepted g) a b).0
  place_once (of_body i a h e) (of_body m b l f) = let z = ap (body_at s properties) (property_once a b) in omega arith
  place_once (of_counter i a h e) (of_counter m b l f) = let z = property_once a b in omega arith
  place_once (of_key h k e) (of_key c d f) = omega arith

  -- a location stands within the sheet, and clear of the address, the flags and the group objects' bodies
  pub place_within : {x : Location} {p : ℕ} → Place s x p → p < length s
  place_within (of_memory a) = let b = stands_in g a in omega (arith, b.to, within g _ _ b.kind b.below)
  place_within (of_body i a h e) = let b = body_in a h e in omega (arith, b.to, within g _ _ b.kind b.below)
  place_within (of_counter i a h e) = omega (arith, in_contents (counter_in a h e), g.framed)
  place_within (of_key h k e) = omega (arith, g.framed)

  pub place_after : {x : Location} {p : ℕ} → Place s x p → (head.key 0).at ≤ p
  place_after (of_memory a) = omega (arith, past_contents (stands_in g a))
  place_after (of_body i a h e) = omega (arith, past_contents (body_in a h e))
  place_after (of_counter i a h e) = omega (arith, in_contents (counter_in a h e))
  place_after (of_key h k e) = omega arith

  pub no_group_lem : {x : Location} {p i : ℕ} → Place s x p → InBody s groups i p → ⊥
  no_group_lem {p = p} {i} (of_memory {m = n} a) b = no-group-region n (disjoint g (kind_of n) a.index groups i p (stands_in g a) b).0
  no_group_lem {p = p} {i} (of_body m a h e) b = omega (arith, (disjoint g properties m groups i p (body_in a h e) b).0)
  no_group_lem (of_counter m a h e) b = omega (arith, in_contents (counter_in a h e), past_contents b)
  no_group_lem (of_key h k e) b = omega (arith, past_contents b)

  -- a byte of an entry is a location's only if it is one of a count
  pub no_entry_lem : {x : Location} {k i j p : ℕ} → InEntry s k i j p → Fixed k j → Place s x p → ⊥
  no_entry_lem {k = k} {i} h f (of_memory a) =
      omega (arith, past_contents (stands_in g a), place_in s k i h.kind h.below, h.short, h.here)
  no_entry_lem {k = k} {i} h f (of_body m a l e) =
      omega (arith, past_contents (body_in a l e), place_in s k i h.kind h.below, h.short, h.here)
  no_entry_lem {k = k} {i} {j} {p} h f (of_counter {j = n} m a l e) =
      let q = one_entry s k i j properties m ((property.count).at + n) p h (counter_in a l e) in
      f q.0 (omega (arith, q.2)) (omega (arith, q.2))
  no_entry_lem {k = k} {i} h f (of_key l m e) = omega (arith, after_head s k i h.kind h.below, h.here)

  -- and one of the head only if it is one of a key
  pub no_head : {x : Location} {p : ℕ} → p < head.size → (p < (head.key 0).at) ⊎ ((head.rules).at ≤ p) → Place s x p → ⊥
  no_head h o (of_memory a) = omega (arith, past_contents (stands_in g a))
  no_head h o (of_body m a l e) = omega (arith, past_contents (body_in a l e))
  no_head h o (of_counter m a l e) = omega (arith, in_contents (counter_in a l e))
  no_head h (inl o) (of_key l m e) = omega arith
  no_head h (inr o) (of_key l m e) = omega arith

  module _ (p : ℕ) where
    in_head_lem : p < head.size → Dec ((head.key 0).at ≤ p) → Dec (p < (head.rules).at) → Sort s p
    in_head_lem h (yes a) (yes b) =
        is_location (key ((p - (head.key 0).at) / 4) ((p - (head.key 0).at) % 4))
        (of_key {l = (p - (head.key 0).at) / 4} {j = (p - (head.key 0).at) % 4} {p = p} (omega arith) (omega arith) (omega arith))
    in_head_lem h (yes a) (no b) = is_field {p = p} (omega arith) (λ x. no_head h (inr (omega arith)))
    in_head_lem h (no a) b = is_field {p = p} (omega arith) (λ x. no_head h (inl (omega arith)))

    in_entry_lem : (k i j : ℕ) → InEntry s k i j p → Sort s p
    in_entry_lem k i j h = go (dec_lt 0 k) (dec_lt k 2) (dec_le (property.count).at j) (dec_lt j ((property.count).at + (property.count).width))
      where
        early : p < contents s
        early = omega (arith, place_in s k i h.kind h.below, h.short, h.here)

        go : Dec (0 < k) → Dec (k < 2) → Dec ((property.count).at ≤ j) → Dec (j < (property.count).at + (property.count).width) → Sort s p
        go (no a) b c d = is_field early (λ x. no_entry_lem h (λ e l m. omega arith))
        go (yes a) (no b) c d = is_field early (λ x. no_entry_lem h (λ e l m. omega arith))
        go (yes a) (yes b) (no c) d = is_field early (λ x. no_entry_lem h (λ e l m. omega arith))
        go (yes a) (yes b) (yes c) (no d) = is_field early (λ x. no_entry_lem h (λ e l m. omega arith))
        go (yes a) (yes b) (yes c) (yes d) =
            let q : k ≡ properties = omega arith in
            let r : InEntry s properties i j p = subst (λ (n : ℕ). InEntry s n i j p) q h in
            is_location _
            (of_counter {j = j - (property.count).at} {p = p} i (record { there = r.below; same_object = refl; same_id = refl }) (omega arith) (omega (arith, r.here)))

    -- a byte of a region's body
    of_memory_lem :
        (m : Memory) (i : ℕ) → i < count s (kind_of m) → region.offset of region_at s m i ≤ p →
        p < region.offset of region_at s m i + region.length of region_at s m i → Sort s p
    of_memory_lem m i h l u =
        let a : Stands s m (region.address of region_at s m i + (p - region.offset of region_at s m i)) p (region.levels of region_at s m i) =
        record { index = i; below = h; from = omega arith; to = omega arith; here = omega arith; under = refl } in
        is_location _ (of_memory a)

    in_body_lem : (k i : ℕ) → InBody s k i p → Sort s p
    unfolding body_at body_end
    in_body_lem zero i b = of_memory_lem Device i b.below b.from b.to
    in_body_lem (suc zero) i b =
        is_location _
        (of_body {j = p - body_at s properties i} {p = p} i (record { there = b.below; same_object = refl; same_id = refl }) (omega (arith, b.from, b.to)) (omega (arith, b.from)))
    in_body_lem (suc (suc zero)) i b = is_group i b
    in_body_lem (suc (suc (suc zero))) i b = of_memory_lem User i b.below b.from b.to
    in_body_lem (suc (suc (suc (suc k)))) i b = absurd (omega (arith, b.kind))

    -- every position is a location's, a group object's or a field's
    pub sort : p < length s → Sort s p
    sort h = from (position (accepted g) p h)
      where
        from : Position s p → Sort s p
        from (in_head l) = in_head_lem l (dec_le (head.key 0).at p) (dec_lt p (head.rules).at)
        from (in_entry k i j hk hi hj e) = in_entry_lem k i j (record { kind = hk; below = hi; short = hj; here = e })
        from (in_body k i b) = in_body_lem k i b

    -- and no two of them
    pub sort_once : (a b : Sort s p) → being_of a ≡ being_of b
    sort_once (is_location x a) (is_location y b) = ap location (location_once a b)
    sort_once (is_location x a) (is_group i b) = absurd (no_group_lem a b)
    sort_once (is_location x a) (is_field h f) = absurd (f x a)
    sort_once (is_group i a) (is_location y b) = absurd (no_group_lem b a)
    sort_once (is_group i a) (is_group m b) = ap group_body (disjoint g groups i groups m p a b).1
    sort_once (is_group i a) (is_field h f) = absurd (omega (arith, past_contents a))
    sort_once (is_field h f) (is_location y b) = absurd (f y b)
    sort_once (is_field h f) (is_group m b) = absurd (omega (arith, past_contents b))
    sort_once (is_field h f) (is_field l o) = refl
