-- A property by its object and id, and by its first word.
use Rattle.octets.proofs.Kit.{ℕ, ◌+◌, ◌*◌, ◌<◌, ◌≡◌, ap, List, [], ◌∷◌, arith, length}
use Rattle.octets.{specs.Bytes.num_at, proofs.Numbers.{num_one, num_two, num_below}}
use Rattle.sheet.{specs.{Kind.properties, Entries.{place, entry}, Places.PropertyWith}, proofs.{promises.Keys.{key_is, key_parts}, places.Standing.entry_at}}
use Rattle.sheet.specs.Property as property
use Rattle.pdu.{specs.{Item.{Value, the, Id}, declared.Pdu.TheVariants.{PropertyValueRead, PropertyValueWrite, PropertyDescriptionRead}}, proofs.promises.Readings.Reading}
use Rattle.judge.proofs.PropertyCases.{Keyed}
use Rattle.device.specs.{Octets.Octets, Asked.Asked}

pub keyed : (x : Asked) (object id i : ℕ) → PropertyWith x.sheet object id i → Keyed x.sheet object id i
keyed x object id i p =
    let e : List ℕ = entry x.sheet properties i in
    record { there = p.there; key = omega (arith, key_is e, p.same_object, p.same_id) }

-- a byte of a property's entry is one
pub entry_byte_lem : (s : List ℕ) (i j : ℕ) → j < property.size → Octets s → num_at (entry s properties i) j 1 < 256
entry_byte_lem s i j l h =
    omega (arith, num_one (entry s properties i) j, entry_at s properties i j l, h (place s properties i + j))

-- where ids are bytes, the first word says both
pub unkeyed : (x : Asked) (object id i : ℕ) → Octets x.sheet → id < 256 → Keyed x.sheet object id i → PropertyWith x.sheet object id i
unkeyed x object id i h l k =
    let e : List ℕ = entry x.sheet properties i in
    let p = key_parts e object id (entry_byte_lem x.sheet i (property.id).at (omega arith) h) l k.key in
    record { there = k.there; same_object = p.0; same_id = p.1 }

-- an id of a request is a byte
module _ (a : List ℕ) (h : Octets a) (object id : ℕ) where
  pub read_id : (n s : ℕ) → Reading a (PropertyValueRead object id n s) → id < 256
  read_id n s r =
      let e : id ≡ num_at a 3 1 = ap (λ (v : List Value). the v Id) r.fields in
      omega (arith, num_below a 3 1 h)

  pub write_id : (n s : ℕ) → Reading a (PropertyValueWrite object id n s) → id < 256
  write_id n s r =
      let e : id ≡ num_at a 3 1 = ap (λ (v : List Value). the v Id) r.fields in
      omega (arith, num_below a 3 1 h)

  pub describe_id : (index : ℕ) → Reading a (PropertyDescriptionRead object id index) → id < 256
  describe_id index r =
      let e : id ≡ num_at a 3 1 = ap (λ (v : List Value). the v Id) r.fields in
      omega (arith, num_below a 3 1 h)

-- two bytes that are the number 0
pub two_zeros : (d : List ℕ) → length d ≡ 2 → num_at d 0 2 ≡ 0 → d ≡ 0 ∷ 0 ∷ []
two_zeros [] l e = absurd (omega arith)
two_zeros (a ∷ []) l e = absurd (omega arith)
two_zeros (a ∷ b ∷ []) l e =
    let n : a * 256 + b ≡ 0 = omega (arith, num_two (a ∷ b ∷ []) 0) in
    let p : a ≡ 0 = omega arith in
    let q : b ≡ 0 = omega arith in
    rw (p, q)
two_zeros (a ∷ b ∷ c ∷ d) l e = absurd (omega arith)
