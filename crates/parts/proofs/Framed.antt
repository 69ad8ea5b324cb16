-- A sheet whose head alone has changed.
use Rattle.octets.proofs.Kit.{ℕ, ◌+◌, ◌*◌, ◌-◌, ◌/◌, ◌%◌, ◌^◌, ◌≤◌, ◌<◌, ◌≡◌, sym, ap, ap₂, subst, ◌∙◌, List, cond, ◌⊎◌, inl, inr, arith, dec_lt, eqb, length, get_or, set, length-set}
use Rattle.octets.proofs.Kit.{get_or-set_same, get_or-set_other}
use Rattle.octets.{specs.{Bytes.{num_at, bytes_of}, Splice.splice, Octets.Octets}, proofs.Numbers.{num_one, length_bytes}}
use Rattle.octets.proofs.Splices.{length_splice, splice_below, splice_above, splice_num, splice_num_outside}
use Rattle.sheet.specs.{Kind.{properties, groups, users}, Layout.◌of◌, Entries.base}
use Rattle.sheet.specs.Head as head
use Rattle.parts.specs.{declared.{Head.Head, Parts.Parts}, Records.{IsRegion, IsProperty, IsGroup, IsHead, Taken, no_region, no_property, no_group}}
use Rattle.parts.specs.With.{with_head, with_key, with_address, cleared}
use Rattle.parts.proofs.Changed.{region_same, group_same, property_kept}

module _ (s s' : List ℕ) (f : (p : ℕ) → 32 ≤ p → get_or s' p 0 ≡ get_or s p 0) where
  above : (at : ℕ) → 32 ≤ at → (k j : ℕ) → j < k → get_or s' (at + j) 0 ≡ get_or s (at + j) 0
  above at h k j l = f (at + j) (omega arith)

  module _ (long : length s' ≡ length s) (low : (p : ℕ) → p < 6 → get_or s' p 0 ≡ get_or s p 0) (mid : get_or s' 15 0 ≡ get_or s 15 0) where
    byte_kept : (p : ℕ) → p < 6 → num_at s p 1 ≡ num_at s' p 1
    byte_kept p h = num_one s p ∙ sym (low p h) ∙ sym (num_one s' p)

    users_kept : head.users s ≡ head.users s'
    users_kept =
        ap₂ (λ (e n : ℕ). cond (eqb e 2) n 0) (byte_kept 0 (omega arith)) (num_one s 15 ∙ sym mid ∙ sym (num_one s' 15))

    -- THE PARTS WITH THE NEW HEAD are those of the changed sheet
    pub head_changed : (u : Parts) (h : Head) → Taken s u → IsHead h s' → Taken s' (with_head u h)
    head_changed u h t ih =
        let r = byte_kept 1 (omega arith) in
        let p = byte_kept 2 (omega arith) in
        let g = byte_kept 3 (omega arith) in
        let z = t.counts in
        record {
          front = ih;
          counts =
              record {
                regions = z.regions ∙ r;
                properties = z.properties ∙ p;
                groups = z.groups ∙ g;
                users = z.users ∙ users_kept;
                few_regions = z.few_regions;
                few_properties = z.few_properties;
                few_groups = z.few_groups;
                few_users = z.few_users;
                fits = omega (arith, z.fits, long);
                short = omega (arith, z.short, long);
              };
          regions = λ i k. region_same s s' (32 + 8 * i) (above (32 + 8 * i) (omega arith) 8) _ (t.regions i (omega (arith, r)));
          properties =
              λ i k.
              let m : base s properties + 12 * i ≡ base s' properties + 12 * i = omega (arith, r) in
              property_kept s s' (base s' properties + 12 * i) (above (base s' properties + 12 * i) (omega arith) 12) _
              (subst (λ (n : ℕ). IsProperty (get_or u.properties i no_property) s n) m (t.properties i (omega (arith, p))));
          groups =
              λ i k.
              let m : base s groups + 8 * i ≡ base s' groups + 8 * i = omega (arith, r, p) in
              group_same s s' (base s' groups + 8 * i) (above (base s' groups + 8 * i) (omega arith) 8) _
              (subst (λ (n : ℕ). IsGroup (get_or u.groups i no_group) s n) m (t.groups i (omega (arith, g))));
          users =
              λ i k.
              let m : base s users + 8 * i ≡ base s' users + 8 * i = omega (arith, r, p, g) in
              region_same s s' (base s' users + 8 * i) (above (base s' users + 8 * i) (omega arith) 8) _
              (subst (λ (n : ℕ). IsRegion (get_or u.users i no_region) s n) m (t.users i (omega (arith, users_kept))));
          bodies = λ q a b. t.bodies q (omega (arith, r, p, g, users_kept)) (omega (arith, long)) ∙ sym (f q (omega arith));
          long = t.long ∙ sym long;
          many = t.many;
          room = t.room;
        }

-- A NUMBER STORED IN THE HEAD, behind the sheet's length and beside byte 15: the parts with a head that has it
module _ (s : List ℕ) (u : Parts) (t : Taken s u) (at w x : ℕ) (low : 6 ≤ at) (high : at + w ≤ 32) (beside : (at + w ≤ 15) ⊎ (16 ≤ at)) where
  room : at + length (bytes_of w x) ≤ length s
  room = omega (arith, t.counts.fits, length_bytes w x)

  pub outside : (p v : ℕ) → (p + v ≤ at) ⊎ (at + w ≤ p) → num_at s p v ≡ num_at (splice s at (bytes_of w x)) p v
  outside p v (inl h) = sym (splice_num_outside s at (bytes_of w x) room p v (inl h))
  outside p v (inr h) = sym (splice_num_outside s at (bytes_of w x) room p v (inr (omega (arith, length_bytes w x))))

  pub inside : x < 256 ^ w → x ≡ num_at (splice s at (bytes_of w x)) at w
  inside h = sym (splice_num s at w x (omega (arith, room, length_bytes w x)) h)

  byte15 : (at + w ≤ 15) ⊎ (16 ≤ at) → get_or (splice s at (bytes_of w x)) 15 0 ≡ get_or s 15 0
  byte15 (inl h) = splice_above s at (bytes_of w x) room 15 (omega (arith, length_bytes w x))
  byte15 (inr h) = splice_below s at (bytes_of w x) room 15 (omega arith)

  pub head_stored : (h : Head) → IsHead h (splice s at (bytes_of w x)) → Taken (splice s at (bytes_of w x)) (with_head u h)
  head_stored h i =
      head_changed s (splice s at (bytes_of w x)) (λ p k. splice_above s at (bytes_of w x) room p (omega (arith, length_bytes w x)))
      (length_splice s at (bytes_of w x) room) (λ p k. splice_below s at (bytes_of w x) room p (omega arith)) (byte15 beside) u h t i

module _ (s : List ℕ) (u : Parts) (t : Taken s u) where
  -- A NEW KEY
  module _ (i key : ℕ) (hi : i < 3) (hk : key < 256 ^ 4) where
    out : (p v : ℕ) → (p + v ≤ 18 + 4 * i) ⊎ (18 + 4 * i + 4 ≤ p) → num_at s p v ≡ num_at (splice s (18 + 4 * i) (bytes_of 4 key)) p v
    out = outside s u t (18 + 4 * i) 4 key (omega arith) (omega arith) (inr (omega arith))

    one_key : (j : ℕ) → j < 3 → get_or u.head.keys j 0 ≡ num_at s (18 + 4 * j) 4 → get_or (set u.head.keys i key) j 0 ≡ num_at (splice s (18 + 4 * i) (bytes_of 4 key)) (18 + 4 * j) 4
    one_key j hj e = go (dec_lt j i) (dec_lt i j)
      where
        go : Dec (j < i) → Dec (i < j) → get_or (set u.head.keys i key) j 0 ≡ num_at (splice s (18 + 4 * i) (bytes_of 4 key)) (18 + 4 * j) 4
        go (yes a) b = get_or-set_other u.head.keys i j key 0 (λ q. omega arith) ∙ e ∙ out (18 + 4 * j) 4 (inl (omega arith))
        go (no a) (yes b) = get_or-set_other u.head.keys i j key 0 (λ q. omega arith) ∙ e ∙ out (18 + 4 * j) 4 (inr (omega arith))
        go (no a) (no b) =
            let q : i ≡ j = omega arith in
            subst (λ (m : ℕ). get_or (set u.head.keys i key) m 0 ≡ num_at (splice s (18 + 4 * i) (bytes_of 4 key)) (18 + 4 * m) 4) q
            (get_or-set_same u.head.keys i key 0 (omega (arith, t.front.three))
            ∙ inside s u t (18 + 4 * i) 4 key (omega arith) (omega arith) (inr (omega arith)) hk)

    pub key_stored : Taken (splice s (18 + 4 * i) (bytes_of 4 key)) (with_key u i key)
    key_stored =
        let h = t.front in
        head_stored s u t (18 + 4 * i) 4 key (omega arith) (omega arith) (inr (omega arith)) _
        record {
          serial = h.serial ∙ out 6 6 (inl (omega arith));
          mask = h.mask ∙ out 12 2 (inl (omega arith));
          programming = h.programming ∙ ap (λ (x : ℕ). eqb (x % 2) 1) (out 14 1 (inl (omega arith)));
          verify = h.verify ∙ ap (λ (x : ℕ). eqb (x / 2 % 2) 1) (out 14 1 (inl (omega arith)));
          address = h.address ∙ out 16 2 (inl (omega arith));
          three = length-set u.head.keys i key ∙ h.three;
          key0 = one_key 0 (omega arith) h.key0;
          key1 = one_key 1 (omega arith) h.key1;
          key2 = one_key 2 (omega arith) h.key2;
          rules = h.rules ∙ out 30 1 (inr (omega arith));
        }

  -- A NEW INDIVIDUAL ADDRESS
  pub address_stored : (a : ℕ) → a < 256 ^ 2 → Taken (splice s 16 (bytes_of 2 a)) (with_address u a)
  address_stored a ha =
      let h = t.front in
      let out : (p v : ℕ) → (p + v ≤ 16) ⊎ (18 ≤ p) → num_at s p v ≡ num_at (splice s 16 (bytes_of 2 a)) p v =
      outside s u t 16 2 a (omega arith) (omega arith) (inr (omega arith)) in
      head_stored s u t 16 2 a (omega arith) (omega arith) (inr (omega arith)) _
      record {
        serial = h.serial ∙ out 6 6 (inl (omega arith));
        mask = h.mask ∙ out 12 2 (inl (omega arith));
        programming = h.programming ∙ ap (λ (x : ℕ). eqb (x % 2) 1) (out 14 1 (inl (omega arith)));
        verify = h.verify ∙ ap (λ (x : ℕ). eqb (x / 2 % 2) 1) (out 14 1 (inl (omega arith)));
        address = inside s u t 16 2 a (omega arith) (omega arith) (inr (omega arith)) ha;
        three = h.three;
        key0 = h.key0 ∙ out 18 4 (inr (omega arith));
        key1 = h.key1 ∙ out 22 4 (inr (omega arith));
        key2 = h.key2 ∙ out 26 4 (inr (omega arith));
        rules = h.rules ∙ out 30 1 (inr (omega arith));
      }

  -- PROGRAMMING MODE CLEARED, verify as it was
  pub programming_cleared :
      Octets s → Taken (splice s 14 (bytes_of 1 (head.flags of s - head.programming s))) (cleared u)
  programming_cleared o =
      let h = t.front in
      let f : ℕ = head.flags of s in
      let x : ℕ = f - f % 2 in
      let out : (p v : ℕ) → (p + v ≤ 14) ⊎ (15 ≤ p) → num_at s p v ≡ num_at (splice s 14 (bytes_of 1 x)) p v =
      outside s u t 14 1 x (omega arith) (omega arith) (inl (omega arith)) in
      let small : x < 256 = omega (arith, num_one s 14, o 14) in
      let new : x ≡ num_at (splice s 14 (bytes_of 1 x)) 14 1 = inside s u t 14 1 x (omega arith) (omega arith) (inl (omega arith)) (omega (arith, small)) in
      let even : x % 2 ≡ 0 = omega arith in
      let half : f / 2 ≡ x / 2 = omega arith in
      head_stored s u t 14 1 x (omega arith) (omega arith) (inl (omega arith)) _
      record {
        serial = h.serial ∙ out 6 6 (inl (omega arith));
        mask = h.mask ∙ out 12 2 (inl (omega arith));
        programming = sym (ap (λ (y : ℕ). eqb (y % 2) 1) (sym new) ∙ ap (λ (y : ℕ). eqb y 1) even);
        verify = h.verify ∙ ap (λ (y : ℕ). eqb (y % 2) 1) half ∙ ap (λ (y : ℕ). eqb (y / 2 % 2) 1) new;
        address = h.address ∙ out 16 2 (inr (omega arith));
        three = h.three;
        key0 = h.key0 ∙ out 18 4 (inr (omega arith));
        key1 = h.key1 ∙ out 22 4 (inr (omega arith));
        key2 = h.key2 ∙ out 26 4 (inr (omega arith));
        rules = h.rules ∙ out 30 1 (inr (omega arith));
      }
