-- A value lookup hands back the whole body of the entry that is asked for, and else nothing.
use Rattle.octets.proofs.Kit.{ℕ, ◌+◌, ◌*◌, ◌<◌, ◌≤◌, ◌≡◌, refl, sym, ◌∙◌, List, [], length, get_or, take, drop, length-take, length-drop, get_or-take, get_or-drop, dec_lt, arith, eq-eqb, ne_eqb}
use Rattle.octets.proofs.Kit.{lt-ltb, le-ltb}
use Rattle.octets.proofs.Numbers.{num_below}
use Rattle.sheet.specs.{Kind.{kinds, regions, properties, groups, users, kind_of}, Entries.{count, place, entry, key_of, offset_of, length_of, body_at, body_end}}
use Rattle.sheet.specs.Rules.{verdict_of, Accepted, is_accepted}
use Rattle.sheet.specs.Lookup.{index_of, body_of, body_from, lookup, lookup_from, region_of, region_from, user_region_of, user_region_from, property_of, property_from, group_of, group_from}
use Rattle.sheet.specs.{Places.PropertyWith, declared.Memory.{Memory, TheVariants.{Device, User}}, Values.{IsBody, RegionWith, GroupWith, Handed, body, nothing, unaccepted}}
use Rattle.sheet.specs.Property as property
use Rattle.sheet.proofs.{rules.Good.good, promises.Keys.{index_hit, index_key, key_is, key_parts}, places.{BodyPlaces.within, Standing.field_at}}

module _ (s : List ℕ) (k i : ℕ) where
  cut : List ℕ
  cut = take (length_of k (entry s k i)) (drop (offset_of k (entry s k i)) s)

  -- what is cut out there is the body
  cut_is : body_end s k i ≤ length s → IsBody s k i cut
  unfolding cut body_at body_end
  cut_is h =
      let a : ℕ = offset_of k (entry s k i) in
      let z : ℕ = length_of k (entry s k i) in
      let l : z ≡ length (take z (drop a s)) = simp (length-take, length-drop) (omega arith) in
      record { long = omega arith; bytes = λ j m. get_or-take z (drop a s) j 0 (omega arith) ∙ get_or-drop a s j 0 }

  -- that, and from there, if the entry is there
  there : Accepted s → i < count s k → (lookup s k i ≡ cut) × (lookup_from s k i ≡ body_at s k i)
  unfolding cut lookup lookup_from is_accepted body_of body_from body_at
  there ok h = (simp (eq-eqb (verdict_of s) 0 ok, lt-ltb i (count s k) h), simp (eq-eqb (verdict_of s) 0 ok, lt-ltb i (count s k) h))

  -- nothing if not, and nothing of a sheet that is not accepted
  missing : Accepted s → count s k ≤ i → (lookup s k i ≡ []) × (lookup_from s k i ≡ 0)
  unfolding lookup lookup_from is_accepted body_of body_from
  missing ok h = (simp (eq-eqb (verdict_of s) 0 ok, le-ltb i (count s k) h), simp (eq-eqb (verdict_of s) 0 ok, le-ltb i (count s k) h))

  rejected : (Accepted s → ⊥) → (lookup s k i ≡ []) × (lookup_from s k i ≡ 0)
  unfolding lookup lookup_from is_accepted
  rejected n = (simp (ne_eqb (verdict_of s) 0 n), simp (ne_eqb (verdict_of s) 0 n))

  -- OF ANY KIND, i being the one entry that is asked for, or none
  handed :
      (Asked : ℕ → Type 0) → k < kinds → (Accepted s → i < count s k → Asked i) →
      (Accepted s → (j : ℕ) → Asked j → (j < count s k) × (j ≡ i)) → Handed s k Asked (lookup s k i) (lookup_from s k i)
  handed Asked hk is only = go (dec_lt 0 (verdict_of s)) (dec_lt i (count s k))
    where
      go : Dec (0 < verdict_of s) → Dec (i < count s k) → Handed s k Asked (lookup s k i) (lookup_from s k i)
      go (yes h) d = let e = rejected (λ z. omega arith) in rw (e.0, e.1) (unaccepted (λ z. omega arith))
      go (no h) (yes l) =
          let ok : Accepted s = omega arith in
          let e = there ok l in
          rw (e.0, e.1) (body i ok (is ok l) (λ j a. (only ok j a).1) (cut_is (within (good s ok) k i hk l)))
      go (no h) (no l) =
          let ok : Accepted s = omega arith in
          let e = missing ok (omega arith) in
          rw (e.0, e.1) (nothing ok (λ j a. let q = only ok j a in omega arith))

module _ (s : List ℕ) where
  -- THE LOOKUP OF A REGION BY ITS NUMBER
  region_of_lem : (m : Memory) → kind_of m < kinds → (number : ℕ) → Handed s (kind_of m) (RegionWith s m number) (lookup s (kind_of m) number) (lookup_from s (kind_of m) number)
  region_of_lem m h number =
      handed s (kind_of m) number (RegionWith s m number) h (λ ok h. record { there = h; same_number = refl })
      (λ ok j a. (a.there, a.same_number))

  pub region_handed : (number : ℕ) → Handed s regions (RegionWith s Device number) (region_of s number) (region_from s number)
  region_handed number = region_of_lem Device (omega arith) number

  -- AND OF A USER REGION BY ITS NUMBER
  pub user_region_handed : (number : ℕ) → Handed s users (RegionWith s User number) (user_region_of s number) (user_region_from s number)
  user_region_handed number = region_of_lem User (omega arith) number

  -- THE LOOKUP OF A GROUP OBJECT BY ITS ADDRESS
  pub group_handed : (address : ℕ) → Handed s groups (GroupWith s address) (group_of s address) (group_from s address)
  unfolding key_of
  group_handed address =
      handed s groups (index_of s groups address) (GroupWith s address) (omega arith)
      (λ ok h. record { there = h; same_address = index_key s groups address h })
      (λ ok j a. (a.there, sym (index_hit s ok groups (omega arith) j address a.there a.same_address)))

  -- a property by a number that holds its object and id
  by_number :
      (x object id : ℕ) → ((i : ℕ) → get_or s i 0 < 256) → id < 256 → x ≡ object * 256 + id →
      Handed s properties (PropertyWith s object id) (lookup s properties (index_of s properties x)) (lookup_from s properties (index_of s properties x))
  unfolding key_of
  by_number x object id bytes low e =
      handed s properties (index_of s properties x) (PropertyWith s object id) (omega arith) found
      (λ ok j a. (a.there, sym (index_hit s ok properties (omega arith) j x a.there (omega (arith, key_is (entry s properties j), a.same_object, a.same_id)))))
    where
      found : Accepted s → index_of s properties x < count s properties → PropertyWith s object id (index_of s properties x)
      found ok h =
          let i : ℕ = index_of s properties x in
          let b = num_below s (place s properties i + (property.id).at) (property.id).width bytes in
          let q = key_parts (entry s properties i) object id (omega (arith, field_at s properties i property.id (omega arith))) low (index_key s properties x h ∙ e) in
          record { there = h; same_object = q.0; same_id = q.1 }

  -- THE LOOKUP OF A PROPERTY BY ITS OBJECT AND ID
  pub property_handed :
      (object id : ℕ) → ((i : ℕ) → get_or s i 0 < 256) → id < 256 →
      Handed s properties (PropertyWith s object id) (property_of s object id) (property_from s object id)
  property_handed object id bytes low = by_number _ object id bytes low (omega arith)
