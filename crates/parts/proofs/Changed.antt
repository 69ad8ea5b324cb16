-- A sheet whose entries or bodies have changed, and its head not.
use Rattle.octets.proofs.Kit.{ℕ, ◌+◌, ◌*◌, ◌-◌, ◌/◌, ◌%◌, ◌≤◌, ◌<◌, ◌≡◌, sym, ap, ap₂, subst, ◌∙◌, List, cond, ◌⊎◌, inl, inr, arith, dec_lt, eqb, length, get_or, set, length-set, get_or-set_same}
use Rattle.octets.proofs.Kit.{get_or-set_other}
use Rattle.octets.{specs.{Bytes.{num_at, bytes_of}, Splice.splice}, proofs.{Numbers.{num_same, length_bytes}, Splices.{length_splice, splice_in, splice_below, splice_above, splice_num}}}
use Rattle.sheet.specs.{Kind.{regions, properties, groups, users}, Entries.{count, base, contents}}
use Rattle.sheet.specs.Head as head
use Rattle.parts.specs.declared.{Region.Region, Property.Property, Group.Group, Head.Head, Parts.Parts}
use Rattle.parts.specs.{Records.{IsRegion, IsProperty, IsGroup, IsHead, Taken, no_region, no_property, no_group}, With.{with_bodies, with_properties, with_count, counting}}

-- entries of which no byte has changed
module _ (s s' : List ℕ) (at : ℕ) where
  module _ (f : (j : ℕ) → j < 8 → get_or s' (at + j) 0 ≡ get_or s (at + j) 0) where
    at8 : (k w : ℕ) → k + w ≤ 8 → num_at s (at + k) w ≡ num_at s' (at + k) w
    at8 k w h = num_same s s' (at + k) (at + k) w (λ j l. ap (λ (n : ℕ). get_or s n 0) (omega arith) ∙ sym (f (k + j) (omega arith)) ∙ ap (λ (n : ℕ). get_or s' n 0) (omega arith))

    at8_first : (w : ℕ) → w ≤ 8 → num_at s at w ≡ num_at s' at w
    at8_first w h = num_same s s' at at w (λ j l. sym (f j (omega arith)))

    pub region_same : (e : Region) → IsRegion e s at → IsRegion e s' at
    region_same e i =
        record {
          address = i.address ∙ at8_first 2 (omega arith);
          long = i.long ∙ at8 2 2 (omega arith);
          offset = i.offset ∙ at8 4 2 (omega arith);
          read = i.read ∙ ap (λ (x : ℕ). x / 16) (at8 6 1 (omega arith));
          write = i.write ∙ ap (λ (x : ℕ). x % 16) (at8 6 1 (omega arith));
        }

    pub group_same : (e : Group) → IsGroup e s at → IsGroup e s' at
    group_same e i =
        record {
          address = i.address ∙ at8_first 2 (omega arith);
          code = i.code ∙ at8 2 1 (omega arith);
          read = i.read ∙ ap (λ (x : ℕ). eqb (x % 2) 1) (at8 3 1 (omega arith));
          write = i.write ∙ ap (λ (x : ℕ). eqb (x / 2 % 2) 1) (at8 3 1 (omega arith));
          response = i.response ∙ ap (λ (x : ℕ). eqb (x / 4 % 2) 1) (at8 3 1 (omega arith));
          offset = i.offset ∙ at8 4 2 (omega arith);
        }

  -- the count may have changed
  module _ (f : (j : ℕ) → j < 12 → (j < 6) ⊎ (8 ≤ j) → get_or s' (at + j) 0 ≡ get_or s (at + j) 0) where
    at12 : (k w : ℕ) → k + w ≤ 12 → (k + w ≤ 6) ⊎ (8 ≤ k) → num_at s (at + k) w ≡ num_at s' (at + k) w
    at12 k w h side =
        num_same s s' (at + k) (at + k) w
        (λ j l. ap (λ (n : ℕ). get_or s n 0) (omega arith) ∙ sym (f (k + j) (omega arith) (over j l side)) ∙ ap (λ (n : ℕ). get_or s' n 0) (omega arith))
      where
        over : (j : ℕ) → j < w → (k + w ≤ 6) ⊎ (8 ≤ k) → (k + j < 6) ⊎ (8 ≤ k + j)
        over j l (inl a) = inl (omega arith)
        over j l (inr a) = inr (omega arith)

    pub property_same : (e : Property) (c : ℕ) → IsProperty e s at → c ≡ num_at s' (at + 6) 2 → IsProperty (counting e c) s' at
    property_same e c i ec =
        record {
          object = i.object ∙ num_same s s' at at 1 (λ j l. sym (f j (omega arith) (inl (omega arith))));
          id = i.id ∙ at12 1 1 (omega arith) (inl (omega arith));
          writable = i.writable ∙ ap (λ (x : ℕ). eqb (x / 128) 1) (at12 2 1 (omega arith) (inl (omega arith)));
          typ = i.typ ∙ ap (λ (x : ℕ). x % 128) (at12 2 1 (omega arith) (inl (omega arith)));
          size = i.size ∙ at12 3 1 (omega arith) (inl (omega arith));
          maximum = i.maximum ∙ at12 4 2 (omega arith) (inl (omega arith));
          count = ec;
          offset = i.offset ∙ at12 8 2 (omega arith) (inr (omega arith));
          read = i.read ∙ ap (λ (x : ℕ). x / 16) (at12 10 1 (omega arith) (inr (omega arith)));
          write = i.write ∙ ap (λ (x : ℕ). x % 16) (at12 10 1 (omega arith) (inr (omega arith)));
        }

  pub property_kept : ((j : ℕ) → j < 12 → get_or s' (at + j) 0 ≡ get_or s (at + j) 0) → (e : Property) → IsProperty e s at → IsProperty e s' at
  property_kept f e i =
      property_same (λ j h side. f j h) e e.count i
      (i.count ∙ num_same s s' (at + 6) (at + 6) 2 (λ j l. ap (λ (n : ℕ). get_or s n 0) (omega arith) ∙ sym (f (6 + j) (omega arith)) ∙ ap (λ (n : ℕ). get_or s' n 0) (omega arith)))

-- THE HEAD IS AS IT WAS: so are all numbers of it
module _ (s s' : List ℕ) (long : length s' ≡ length s) (low : (p : ℕ) → p < 32 → get_or s' p 0 ≡ get_or s p 0) where
  num_low : (at w : ℕ) → at + w ≤ 32 → num_at s at w ≡ num_at s' at w
  num_low at w h = num_same s s' at at w (λ j l. sym (low (at + j) (omega arith)))

  users_low : head.users s ≡ head.users s'
  users_low = ap₂ (λ (e n : ℕ). cond (eqb e 2) n 0) (num_low 0 1 (omega arith)) (num_low 15 1 (omega arith))

  pub property_base : base s properties ≡ base s' properties
  property_base = omega (arith, num_low 1 1 (omega arith))

  pub property_count_lem : count s properties ≡ count s' properties
  property_count_lem = num_low 2 1 (omega arith)

  pub same_contents : contents s ≡ contents s'
  same_contents = omega (arith, num_low 1 1 (omega arith), num_low 2 1 (omega arith), num_low 3 1 (omega arith), users_low)

  head_same : (h : Head) → IsHead h s → IsHead h s'
  head_same h i =
      record {
        serial = i.serial ∙ num_low 6 6 (omega arith);
        mask = i.mask ∙ num_low 12 2 (omega arith);
        programming = i.programming ∙ ap (λ (x : ℕ). eqb (x % 2) 1) (num_low 14 1 (omega arith));
        verify = i.verify ∙ ap (λ (x : ℕ). eqb (x / 2 % 2) 1) (num_low 14 1 (omega arith));
        address = i.address ∙ num_low 16 2 (omega arith);
        three = i.three;
        key0 = i.key0 ∙ num_low 18 4 (omega arith);
        key1 = i.key1 ∙ num_low 22 4 (omega arith);
        key2 = i.key2 ∙ num_low 26 4 (omega arith);
        rules = i.rules ∙ num_low 30 1 (omega arith);
      }

  -- the parts with other properties and bodies, the places being those of s
  pub rest_changed :
      (u : Parts) (ps : List Property) (b : List ℕ) → Taken s u →
      ((i : ℕ) → i < count s regions → (j : ℕ) → j < 8 → get_or s' (base s regions + 8 * i + j) 0 ≡ get_or s (base s regions + 8 * i + j) 0) →
      ((i : ℕ) → i < count s properties → IsProperty (get_or ps i no_property) s' (base s properties + 12 * i)) →
      ((i : ℕ) → i < count s groups → (j : ℕ) → j < 8 → get_or s' (base s groups + 8 * i + j) 0 ≡ get_or s (base s groups + 8 * i + j) 0) →
      ((i : ℕ) → i < count s users → (j : ℕ) → j < 8 → get_or s' (base s users + 8 * i + j) 0 ≡ get_or s (base s users + 8 * i + j) 0) →
      ((p : ℕ) → contents s ≤ p → p < length s → get_or b p 0 ≡ get_or s' p 0) →
      length ps ≡ 64 → length b ≡ 16384 → Taken s' (with_properties (with_bodies u b) ps)
  rest_changed u ps b t fr fp fg fu fb lp lb =
      let r = num_low 1 1 (omega arith) in
      let p = num_low 2 1 (omega arith) in
      let g = num_low 3 1 (omega arith) in
      let z = t.counts in
      record {
        front = head_same u.head t.front;
        counts =
            record {
              regions = z.regions ∙ r;
              properties = z.properties ∙ p;
              groups = z.groups ∙ g;
              users = z.users ∙ users_low;
              few_regions = z.few_regions;
              few_properties = z.few_properties;
              few_groups = z.few_groups;
              few_users = z.few_users;
              fits = omega (arith, z.fits, long);
              short = omega (arith, z.short, long);
            };
        regions = λ i k. region_same s s' (32 + 8 * i) (fr i (omega (arith, r))) _ (t.regions i (omega (arith, r)));
        properties =
            λ i k.
            let m : base s properties + 12 * i ≡ base s' properties + 12 * i = omega (arith, r) in
            subst (λ (n : ℕ). IsProperty (get_or ps i no_property) s' n) m (fp i (omega (arith, p)));
        groups =
            λ i k.
            let m : base s groups + 8 * i ≡ base s' groups + 8 * i = omega (arith, r, p) in
            let h : i < count s groups = omega (arith, g) in
            subst (λ (n : ℕ). IsGroup (get_or u.groups i no_group) s' n) m (group_same s s' (base s groups + 8 * i) (fg i h) _ (t.groups i h));
        users =
            λ i k.
            let m : base s users + 8 * i ≡ base s' users + 8 * i = omega (arith, r, p, g) in
            let h : i < count s users = omega (arith, users_low) in
            subst (λ (n : ℕ). IsRegion (get_or u.users i no_region) s' n) m (region_same s s' (base s users + 8 * i) (fu i h) _ (t.users i h));
        bodies = λ q a c. fb q (omega (arith, same_contents)) (omega (arith, long));
        long = t.long ∙ sym long;
        many = lp;
        room = lb;
      }

-- NEW BYTES AFTER THE CONTENTS: a run of the bodies
module _ (s : List ℕ) (u : Parts) (t : Taken s u) (at : ℕ) (ds : List ℕ) (low : contents s ≤ at) (fits : at + length ds ≤ length s) where
  early : (p : ℕ) → p < contents s → get_or (splice s at ds) p 0 ≡ get_or s p 0
  early p h = splice_below s at ds fits p (omega arith)

  small : contents s ≤ length s
  small = omega (arith, fits)

  room : at + length ds ≤ length u.bodies
  room = omega (arith, t.room, t.counts.short, fits)

  same_byte : (p : ℕ) → contents s ≤ p → p < length s → Dec (p < at) → Dec (p < at + length ds) → get_or (splice u.bodies at ds) p 0 ≡ get_or (splice s at ds) p 0
  same_byte p a b (yes h) d =
      splice_below u.bodies at ds room p h ∙ t.bodies p a b ∙ sym (splice_below s at ds fits p h)
  same_byte p a b (no h) (no k) =
      splice_above u.bodies at ds room p (omega arith) ∙ t.bodies p a b ∙ sym (splice_above s at ds fits p (omega arith))
  same_byte p a b (no h) (yes k) =
      let e : p ≡ at + (p - at) = omega arith in
      ap (λ (n : ℕ). get_or (splice u.bodies at ds) n 0) e
      ∙ splice_in u.bodies at ds room (p - at) (omega arith)
      ∙ sym (splice_in s at ds fits (p - at) (omega arith))
      ∙ ap (λ (n : ℕ). get_or (splice s at ds) n 0) (sym e)

  pub bodies_changed : Taken (splice s at ds) (with_bodies u (splice u.bodies at ds))
  bodies_changed =
      rest_changed s (splice s at ds) (length_splice s at ds fits) (λ p h. early p (omega arith)) u u.properties (splice u.bodies at ds) t
      (λ i h j k. early _ (omega arith))
      (λ i h. property_kept s (splice s at ds) (base s properties + 12 * i) (λ j k. early _ (omega arith)) _ (t.properties i h))
      (λ i h j k. early _ (omega arith))
      (λ i h j k. early _ (omega arith))
      (λ p a b. same_byte p a b (dec_lt p at) (dec_lt p (at + length ds)))
      t.many
      (length_splice u.bodies at ds room ∙ t.room)

-- A NEW COUNT of property i
module _ (s : List ℕ) (u : Parts) (t : Taken s u) (i c : ℕ) (h : i < count s properties) (small : c < 65536) where
  abbrev at : ℕ
  at = base s properties + 12 * i + 6

  fits : at + length (bytes_of 2 c) ≤ length s
  fits = omega (arith, t.counts.fits, t.counts.regions, t.counts.properties, length_bytes 2 c)

  elsewhere : (p : ℕ) → (p < at) ⊎ (at + 2 ≤ p) → get_or (splice s at (bytes_of 2 c)) p 0 ≡ get_or s p 0
  elsewhere p (inl a) = splice_below s at (bytes_of 2 c) fits p a
  elsewhere p (inr a) = splice_above s at (bytes_of 2 c) fits p (omega (arith, length_bytes 2 c))

  other : (j : ℕ) → j < count s properties → Dec (j < i) → Dec (i < j) →
      IsProperty (get_or (set u.properties i (counting (get_or u.properties i no_property) c)) j no_property) (splice s at (bytes_of 2 c)) (base s properties + 12 * j)
  other j k (yes a) d =
      subst (λ (e : Property). IsProperty e (splice s at (bytes_of 2 c)) (base s properties + 12 * j)) (sym (get_or-set_other u.properties i j _ no_property (λ (q : j ≡ i). omega arith)))
      (property_kept s (splice s at (bytes_of 2 c)) _ (λ m l. elsewhere _ (inl (omega arith))) _ (t.properties j k))
  other j k (no a) (yes b) =
      subst (λ (e : Property). IsProperty e (splice s at (bytes_of 2 c)) (base s properties + 12 * j)) (sym (get_or-set_other u.properties i j _ no_property (λ (q : j ≡ i). omega arith)))
      (property_kept s (splice s at (bytes_of 2 c)) _ (λ m l. elsewhere _ (inr (omega arith))) _ (t.properties j k))
  other j k (no a) (no b) =
      let q : i ≡ j = omega arith in
      subst (λ (m : ℕ). IsProperty (get_or (set u.properties i (counting (get_or u.properties i no_property) c)) m no_property) (splice s at (bytes_of 2 c)) (base s properties + 12 * m)) q
      (subst (λ (e : Property). IsProperty e (splice s at (bytes_of 2 c)) (base s properties + 12 * i))
      (sym (get_or-set_same u.properties i (counting (get_or u.properties i no_property) c) no_property (omega (arith, t.many, t.counts.few_properties, t.counts.properties))))
      (property_same s (splice s at (bytes_of 2 c)) (base s properties + 12 * i) (λ m l side. elsewhere _ (beside m side)) _ c (t.properties i h)
      (sym (splice_num s at 2 c (omega (arith, fits, length_bytes 2 c)) small))))
    where
      beside : (m : ℕ) → (m < 6) ⊎ (8 ≤ m) → (base s properties + 12 * i + m < at) ⊎ (at + 2 ≤ base s properties + 12 * i + m)
      beside m (inl a) = inl (omega arith)
      beside m (inr a) = inr (omega arith)

  pub count_changed : Taken (splice s at (bytes_of 2 c)) (with_count u i c)
  count_changed =
      rest_changed s (splice s at (bytes_of 2 c)) (length_splice s at (bytes_of 2 c) fits) (λ p k. elsewhere p (inl (omega arith))) u
      (set u.properties i (counting (get_or u.properties i no_property) c)) u.bodies t
      (λ j k m l. elsewhere _ (inl (omega arith)))
      (λ j k. other j k (dec_lt j i) (dec_lt i j))
      (λ j k m l. elsewhere _ (inr (omega arith)))
      (λ j k m l. elsewhere _ (inr (omega arith)))
      (λ p a b. t.bodies p a b ∙ sym (elsewhere p (inr (omega arith))))
      (length-set u.properties i _ ∙ t.many)
      t.room
