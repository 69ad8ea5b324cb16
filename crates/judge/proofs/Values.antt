-- Reads and writes of a property, from what their parts ensure.
use Rattle.std.proofs.Common.{Option, Some, None}
use Rattle.octets.proofs.Kit.{arith, ℕ, ◌+◌, ◌*◌, ◌-◌, ◌/◌, ◌≤◌, max, ◌≡◌, sym, ◌∙◌, List, Bool, true, false, ◌&&◌, not, leb, eqb, length, lt-ltb, le-ltb, leb-true, not-true, not-false}
use Rattle.octets.{specs.Bytes.num_at, proofs.Truths.{first_true, second_true}}
use Rattle.sheet.specs.{Kind.properties, Entries.{count, place, entry}, Lookup.{Finds, rank}, Places.IsProperty, declared.PropertyEntry.PropertyEntry}
use Rattle.sheet.specs.Property as property
use Rattle.pdu.specs.declared.Pdu.{Pdu}
use Rattle.pdu.specs.declared.Pdu.TheVariants.{PropertyValueResponse, PropertyDescriptionResponse}
use Rattle.judge.specs.{declared.{Store.Store, Decision.Decision}, Decisions.{denied, answered, written}, Memory.{may_read, may_write}}
use Rattle.judge.specs.Properties.{elements, counted, element_at, jumped, most, no_value, property_at, read_in, property_read_of, write_in, property_write_of, described_at, description_of}
use Rattle.judge.specs.declared.Store.TheVariants as store
use Rattle.judge.specs.declared.Answer.TheVariants as answer

module _
    (e : PropertyEntry) (t : List ℕ) (i : ℕ) (p : IsProperty t i e) (level object id n s : ℕ) (r : Decision) (w : Bool)
    (w-is : w ≡ may_read level e.levels)
  where
    pub read_low : not w ≡ true → r ≡ no_value object id s → r ≡ read_in (entry t properties i) level object id n s
    unfolding read_in
    read_low h g = simp (← p.levels, ← w-is, not-true w h) g

    module _ (l : not w ≡ false) (c : Bool) (c_is : c ≡ counted n s) where
      pub read_count_lem :
          c ≡ true → (x : Pdu) → x ≡ PropertyValueResponse object id n s → r ≡ answered (answer.Number x 2 e.count) →
          r ≡ read_in (entry t properties i) level object id n s
      unfolding read_in
      read_count_lem h x x-is g = simp (← p.levels, ← p.count, ← w-is, not-false w l, sym c_is ∙ h, ← x-is) g

      module _ (m : c ≡ false) (z : ℕ) (z-is : z ≡ n * e.element) (b : Bool) (b-is : b ≡ (elements n s e.count && leb z most)) where
        pub read_elements :
            (at : ℕ) → b ≡ true → at ≡ element_at e.offset e.element s → (x : Pdu) → x ≡ PropertyValueResponse object id n s →
            r ≡ answered (answer.Sheet x at z) → r ≡ read_in (entry t properties i) level object id n s
        unfolding read_in
        read_elements at h k x x-is g =
            simp (← p.levels, ← p.count, ← p.element, ← p.offset, ← w-is, not-false w l, sym c_is ∙ m, ← z-is, sym b-is ∙ h, ← k, ← x-is) g

        pub read_none : b ≡ false → r ≡ no_value object id s → r ≡ read_in (entry t properties i) level object id n s
        unfolding read_in
        read_none h g = simp (← p.levels, ← p.count, ← p.element, ← w-is, not-false w l, sym c_is ∙ m, ← z-is, sym b-is ∙ h) g

-- the run of a write: j elements as zeros, then the data
pub run_is :
    (c s z o j zeros at : ℕ) (r : Store) → j ≡ jumped c s → zeros ≡ j * z → at ≡ element_at o z (s - j) → r ≡ store.Data zeros at →
    r ≡ store.Data (jumped c s * z) (element_at o z (s - jumped c s))
run_is c s z o j zeros at r e f g h = rw (← e, ← f, ← g) h

-- what elements says of the numbers
module _ (n s m : ℕ) (u b : Bool) (e : b ≡ (elements n s m && u)) (h : b ≡ true) where
  both_one : (leb 1 s && leb 1 n) ≡ true
  both_one = first_true _ _ (first_true _ _ (sym e ∙ h))

  pub start_one : 1 ≤ s
  start_one = leb-true 1 s (first_true _ _ both_one)

  pub many_one : 1 ≤ n
  many_one = leb-true 1 n (second_true (leb 1 s) (leb 1 n) both_one)

module _
    (e : PropertyEntry) (t : List ℕ) (i : ℕ) (p : IsProperty t i e) (level object id n s : ℕ) (d : List ℕ) (r : Decision)
    (w : Bool) (w-is : w ≡ (eqb (e.typ / 128) 1 && may_write level e.levels))
  where
    pub write_low : not w ≡ true → r ≡ no_value object id s → r ≡ write_in (entry t properties i) (place t properties i) level object id n s d
    unfolding write_in
    write_low h g = simp (← p.typ, ← p.levels, ← w-is, not-true w h) g

    module _
        (l : not w ≡ false) (c : Bool) (c_is : c ≡ (counted n s && eqb (length d) 2 && eqb (num_at d 0 2) 0)) (o : ℕ) (o_is : o ≡ e.place + (property.count).at)
      where
        pub write_count_lem :
            c ≡ true → (y : Pdu) → y ≡ PropertyValueResponse object id n s → r ≡ written (store.Fill o 2 0) store.Nothing (answer.Echo y) →
            r ≡ write_in (entry t properties i) (place t properties i) level object id n s d
        unfolding write_in
        write_count_lem h y y-is g = simp (← p.typ, ← p.levels, ← p.place, ← w-is, not-false w l, ← c_is, h, ← o_is, ← y-is) g

        module _ (m : c ≡ false) (z : ℕ) (z-is : z ≡ n * e.element) (b : Bool) (b-is : b ≡ (elements n s e.maximum && eqb (length d) z)) where
          pub write_elements :
              (x : ℕ) (u : Store) → b ≡ true → x ≡ max e.count (s + n - 1) →
              u ≡ store.Data (jumped e.count s * e.element) (element_at e.offset e.element (s - jumped e.count s)) →
              (y : Pdu) → y ≡ PropertyValueResponse object id n s → r ≡ written u (store.Number o 2 x) (answer.Echo y) →
              r ≡ write_in (entry t properties i) (place t properties i) level object id n s d
          unfolding write_in
          write_elements x u h x-is u-is y y-is g =
              simp
              (← p.typ, ← p.levels, ← p.place, ← p.maximum, ← p.element, ← p.offset, ← p.count, ← w-is, not-false w l, ← c_is, m, ← z-is, ← b-is, h, ← o_is, ← x-is, ← u-is, ← y-is)
              g

          pub write_none : b ≡ false → r ≡ no_value object id s → r ≡ write_in (entry t properties i) (place t properties i) level object id n s d
          unfolding write_in
          write_none h g =
              simp (← p.typ, ← p.levels, ← p.maximum, ← p.element, ← w-is, not-false w l, ← c_is, m, ← z-is, ← b-is, h) g

-- the property is looked for
module _ (t : List ℕ) (level object id n s : ℕ) (d : List ℕ) (f : Option ℕ) (r : Decision) (f-is : Finds (count t properties) (property_at t object id) f) where
  pub read_missing : f ≡ None → r ≡ no_value object id s → r ≡ property_read_of t level object id n s
  unfolding property_read_of
  read_missing h g = let e = rw h at f-is in simp (le-ltb (property_at t object id) (count t properties) (omega (arith, e))) g

  pub write_missing : f ≡ None → r ≡ no_value object id s → r ≡ property_write_of t level object id n s d
  unfolding property_write_of
  write_missing h g = let e = rw h at f-is in simp (le-ltb (property_at t object id) (count t properties) (omega (arith, e))) g

  module _ (i : ℕ) (h : f ≡ Some i) (e : PropertyEntry) (e-is : IsProperty t i e) where
    pub read_there :
        ((t : List ℕ) (i : ℕ) → IsProperty t i e → r ≡ read_in (entry t properties i) level object id n s) →
        r ≡ property_read_of t level object id n s
    unfolding property_read_of
    read_there g = let k = rw h at f-is in simp (← k.0, lt-ltb i (count t properties) (omega (arith, k))) (g t i e-is)

    pub write_there :
        ((t : List ℕ) (i : ℕ) → IsProperty t i e → r ≡ write_in (entry t properties i) (place t properties i) level object id n s d) →
        r ≡ property_write_of t level object id n s d
    unfolding property_write_of
    write_there g = let k = rw h at f-is in simp (← k.0, lt-ltb i (count t properties) (omega (arith, k))) (g t i e-is)

module _ (t : List ℕ) (object id index : ℕ) (f : Option ℕ) (r : Decision) (f-is : Finds (count t properties) (described_at t object id index) f) where
  pub describe_missing :
      f ≡ None → r ≡ denied (PropertyDescriptionResponse object id index 0 0 0) → r ≡ description_of t object id index
  unfolding description_of
  describe_missing h g = let e = rw h at f-is in simp (le-ltb (described_at t object id index) (count t properties) (omega (arith, e))) g

  pub describe_there :
      (i : ℕ) → f ≡ Some i → (e : PropertyEntry) (x : ℕ) → IsProperty t i e → x ≡ rank t e.object i →
      r ≡ answered (answer.Plain (PropertyDescriptionResponse e.object e.id x e.typ e.maximum e.levels)) →
      r ≡ description_of t object id index
  unfolding description_of
  describe_there i h e x p x-is g =
      let k = rw h at f-is in
      simp
      (← k.0, lt-ltb i (count t properties) (omega (arith, k)), ← p.object, ← p.id, ← p.typ, ← p.maximum, ← p.levels, ← x-is)
      g
