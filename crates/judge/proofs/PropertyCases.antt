-- What is decided about a property, case by case.
use Rattle.octets.proofs.Kit.{ℕ, ◌+◌, ◌*◌, ◌-◌, ◌/◌, ◌%◌, ◌<◌, ◌≤◌, max, ◌≡◌, ◌∙◌, true, cond, ◌&&◌, List, ltb, leb, eqb, length, arith, lt-ltb, le-leb, eq-eqb, ne_eqb, leb-true, eqb-true}
use Rattle.octets.{specs.Bytes.num_at, proofs.{Truths.and_is, Walks.{by_lt, by_le, by_eq, by_both, by_test}}}
use Rattle.sheet.{specs.{Kind.properties, Layout.◌of◌, Entries.{count, place, entry, key_of}, Lookup.{nth_of, rank, object_at}}, proofs.rules.Good.{Good, accepted}}
use Rattle.sheet.proofs.promises.{Keys.{index_hit, index_key}, Ranks.{nth_hit, nth_is}}
use Rattle.sheet.specs.Property as property
use Rattle.pdu.specs.declared.Pdu.TheVariants.{PropertyValueResponse, PropertyDescriptionResponse}
use Rattle.judge.specs.{declared.{Store.Store, Decision.Decision}, Decisions.{denied, answered, written}}
use Rattle.judge.specs.Properties.{elements, counted, element_at, jumped, no_value, property_at, read_in, property_read_of, write_in, property_write_of, described_at, description_of}
use Rattle.judge.specs.declared.Store.TheVariants as store
use Rattle.judge.specs.declared.Answer.TheVariants as answer

-- property i has the object and the id
pub record Keyed (s : List ℕ) (object id i : ℕ) : Type 0 where
  pub there : i < count s properties
  pub key : property.object_id of entry s properties i ≡ object * 256 + id

-- n elements from element s on, counted from 1, are among the first m
pub record Among (n s m : ℕ) : Type 0 where
  pub start : 1 ≤ s
  pub some : 1 ≤ n
  pub end : s + n - 1 ≤ m

among : (n s m : ℕ) → elements n s m ≡ true → Among n s m
among n s m e =
    let h = (and_is (leb 1 s && leb 1 n) (leb (s + n - 1) m)).0 e in
    let k = (and_is (leb 1 s) (leb 1 n)).0 h.0 in
    record { start = leb-true 1 s k.0; some = leb-true 1 n k.1; end = leb-true (s + n - 1) m h.1 }

-- the run of a write from element s on
abbrev pub run_in : List ℕ → ℕ → Store
run_in e s =
    store.Data (jumped (property.count of e) s * property.element of e)
    (element_at (property.offset of e) (property.element of e) (s - jumped (property.count of e) s))

-- the property may be written at a level
pub record Free (e : List ℕ) (level : ℕ) : Type 0 where
  pub bit7 : property.typ of e / 128 ≡ 1
  pub suffices : level ≤ property.levels of e % 16

module _ (sheet : List ℕ) (object id : ℕ) where
  at : ℕ
  at = property_at sheet object id

  found : at < count sheet properties → Keyed sheet object id at
  unfolding at key_of
  found h = record { there = h; key = index_key sheet properties (object * 256 + id) h }

module _ (sheet : List ℕ) (level object id n s : ℕ) (P : Decision → Type 0) where
  pub property_read_cases :
      ((i : ℕ) → Keyed sheet object id i → level ≤ property.levels of entry sheet properties i / 16 → s ≡ 0 → n ≡ 1 →
      P (answered (answer.Number (PropertyValueResponse object id n s) 2 (property.count of entry sheet properties i)))) →
      ((i : ℕ) → Keyed sheet object id i → level ≤ property.levels of entry sheet properties i / 16 →
      Among n s (property.count of entry sheet properties i) → n * property.element of entry sheet properties i ≤ 10 →
      P
      (answered
      (answer.Sheet (PropertyValueResponse object id n s)
      (element_at (property.offset of entry sheet properties i) (property.element of entry sheet properties i) s)
      (n * property.element of entry sheet properties i)))) →
      P (no_value object id s) → P (property_read_of sheet level object id n s)
  unfolding property_read_of read_in at
  property_read_cases f g h =
      let i : ℕ = at sheet object id in
      let e : List ℕ = entry sheet properties i in
      by_lt P i (count sheet properties) _ _
      (λ l. by_le P level (property.levels of e / 16) _ _
      (λ r. by_test P (counted n s) _ _
      (λ c. let k = (and_is (eqb s 0) (eqb n 1)).0 c in f i (found sheet object id l) r (eqb-true s 0 k.0) (eqb-true n 1 k.1))
      (λ c. by_both P (elements n s (property.count of e)) (leb (n * property.element of e) 10) _ _
      (λ a b. g i (found sheet object id l) r (among n s (property.count of e) a) (leb-true _ 10 b)) h))
      (λ r. h))
      (λ l. h)

  module _ (d : List ℕ) where
    pub property_write_cases :
        ((i : ℕ) → Keyed sheet object id i → Free (entry sheet properties i) level → s ≡ 0 → n ≡ 1 → length d ≡ 2 → num_at d 0 2 ≡ 0 →
        P
        (written (store.Fill (place sheet properties i + (property.count).at) 2 0) store.Nothing (answer.Echo (PropertyValueResponse object id n s)))) →
        ((i : ℕ) → Keyed sheet object id i → Free (entry sheet properties i) level →
        Among n s (property.maximum of entry sheet properties i) → length d ≡ n * property.element of entry sheet properties i →
        P
        (written (run_in (entry sheet properties i) s)
        (store.Number (place sheet properties i + (property.count).at) 2 (max (property.count of entry sheet properties i) (s + n - 1)))
        (answer.Echo (PropertyValueResponse object id n s)))) →
        P (no_value object id s) → P (property_write_of sheet level object id n s d)
    unfolding property_write_of write_in at
    property_write_cases f g h =
        let i : ℕ = at sheet object id in
        let e : List ℕ = entry sheet properties i in
        by_lt P i (count sheet properties) _ _
        (λ l. by_both P (eqb (property.typ of e / 128) 1) (leb level (property.levels of e % 16)) _ _
        (λ k r.
        let w : Free e level = record { bit7 = eqb-true _ 1 k; suffices = leb-true level _ r } in
        by_test P (counted n s && eqb (length d) 2 && eqb (num_at d 0 2) 0) _ _
        (λ c.
        let u = (and_is (counted n s && eqb (length d) 2) (eqb (num_at d 0 2) 0)).0 c in
        let v = (and_is (counted n s) (eqb (length d) 2)).0 u.0 in
        let m = (and_is (eqb s 0) (eqb n 1)).0 v.0 in
        f i (found sheet object id l) w (eqb-true s 0 m.0) (eqb-true n 1 m.1) (eqb-true (length d) 2 v.1) (eqb-true (num_at d 0 2) 0 u.1))
        (λ c. by_both P (elements n s (property.maximum of e)) (eqb (length d) (n * property.element of e)) _ _
        (λ a b. g i (found sheet object id l) w (among n s (property.maximum of e) a) (eqb-true (length d) _ b)) h))
        h)
        (λ l. h)

-- what describes property i
abbrev pub describes : List ℕ → ℕ → Decision
describes sheet i =
    answered
    (answer.Plain
    (PropertyDescriptionResponse (property.object of entry sheet properties i) (property.id of entry sheet properties i)
    (rank sheet (property.object of entry sheet properties i) i) (property.typ of entry sheet properties i)
    (property.maximum of entry sheet properties i) (property.levels of entry sheet properties i)))

-- property i has the object, and that index within it
pub record Ranked (s : List ℕ) (object index i : ℕ) : Type 0 where
  pub there : i < count s properties
  pub named : property.object of entry s properties i ≡ object
  pub rank : rank s object i ≡ index

module _ (sheet : List ℕ) (object id index : ℕ) (P : Decision → Type 0) where
  pub description_cases :
      ((i : ℕ) → (id ≡ 0 → ⊥) → Keyed sheet object id i → P (describes sheet i)) →
      ((i : ℕ) → id ≡ 0 → Ranked sheet object index i → P (describes sheet i)) →
      P (denied (PropertyDescriptionResponse object id index 0 0 0)) → P (description_of sheet object id index)
  unfolding description_of described_at at object_at
  description_cases f g h =
      by_eq
      (λ (j : ℕ). P (cond (ltb j (count sheet properties)) (describes sheet j) (denied (PropertyDescriptionResponse object id index 0 0 0))))
      id 0 (nth_of sheet object index) (property_at sheet object id)
      (λ z. by_lt P (nth_of sheet object index) (count sheet properties) _ _
      (λ l. let r = nth_is sheet object index l in g _ z (record { there = l; named = r.0; rank = r.1 })) (λ l. h))
      (λ z. by_lt P (property_at sheet object id) (count sheet properties) _ _ (λ l. f _ z (found sheet object id l)) (λ l. h))

-- AND BACK: the property with the object and the id decides
among_back : {n s m : ℕ} → Among n s m → elements n s m ≡ true
among_back {n} {s} {m} a = simp (le-leb 1 s a.start, le-leb 1 n a.some, le-leb (s + n - 1) m a.end)

module _ {sheet : List ℕ} (ok : Good sheet) (object id i : ℕ) (k : Keyed sheet object id i) where
  here : property_at sheet object id ≡ i
  unfolding key_of
  here = index_hit sheet (accepted ok) properties (omega arith) i (object * 256 + id) k.there k.key

  module _ (level n s : ℕ) where
    reads : property_read_of sheet level object id n s ≡ read_in (entry sheet properties i) level object id n s
    unfolding property_read_of
    reads = simp (here, lt-ltb i (count sheet properties) k.there)

    pub property_read_count :
        level ≤ property.levels of entry sheet properties i / 16 → s ≡ 0 → n ≡ 1 →
        property_read_of sheet level object id n s ≡ answered (answer.Number (PropertyValueResponse object id n s) 2 (property.count of entry sheet properties i))
    unfolding read_in
    property_read_count r z o = reads ∙ simp (le-leb level _ r, eq-eqb s 0 z, eq-eqb n 1 o)

    pub property_read_elements :
        level ≤ property.levels of entry sheet properties i / 16 → Among n s (property.count of entry sheet properties i) →
        n * property.element of entry sheet properties i ≤ 10 →
        property_read_of sheet level object id n s
        ≡ answered
        (answer.Sheet (PropertyValueResponse object id n s)
        (element_at (property.offset of entry sheet properties i) (property.element of entry sheet properties i) s)
        (n * property.element of entry sheet properties i))
    unfolding read_in
    property_read_elements r a m =
        reads ∙ simp (le-leb level _ r, ne_eqb s 0 (λ z. omega (arith, a.start)), among_back a, le-leb (n * property.element of entry sheet properties i) 10 m)

    module _ (d : List ℕ) (w : Free (entry sheet properties i) level) where
      writes :
          property_write_of sheet level object id n s d ≡ write_in (entry sheet properties i) (place sheet properties i) level object id n s d
      unfolding property_write_of
      writes = simp (here, lt-ltb i (count sheet properties) k.there)

      pub property_write_clear :
          s ≡ 0 → n ≡ 1 → length d ≡ 2 → num_at d 0 2 ≡ 0 →
          property_write_of sheet level object id n s d
          ≡ written (store.Fill (place sheet properties i + (property.count).at) 2 0) store.Nothing (answer.Echo (PropertyValueResponse object id n s))
      unfolding write_in
      property_write_clear z o l v =
          writes
          ∙ simp (eq-eqb _ 1 w.bit7, le-leb level _ w.suffices, eq-eqb s 0 z, eq-eqb n 1 o, eq-eqb (length d) 2 l, eq-eqb (num_at d 0 2) 0 v)

      pub property_write_elements :
          Among n s (property.maximum of entry sheet properties i) → length d ≡ n * property.element of entry sheet properties i →
          property_write_of sheet level object id n s d
          ≡ written (run_in (entry sheet properties i) s)
          (store.Number (place sheet properties i + (property.count).at) 2 (max (property.count of entry sheet properties i) (s + n - 1)))
          (answer.Echo (PropertyValueResponse object id n s))
      unfolding write_in
      property_write_elements a l =
          writes
          ∙ simp (eq-eqb _ 1 w.bit7, le-leb level _ w.suffices, ne_eqb s 0 (λ z. omega (arith, a.start)), among_back a, eq-eqb (length d) (n * property.element of entry sheet properties i) l)

  pub description_by_id : (index : ℕ) → (id ≡ 0 → ⊥) → description_of sheet object id index ≡ describes sheet i
  unfolding description_of described_at
  description_by_id index z = simp (ne_eqb id 0 z, here, lt-ltb i (count sheet properties) k.there)

pub description_by_index : (sheet : List ℕ) (object id index i : ℕ) → id ≡ 0 → Ranked sheet object index i → description_of sheet object id index ≡ describes sheet i
unfolding description_of described_at object_at
description_by_index sheet object id index i z r =
    simp (eq-eqb id 0 z, nth_hit sheet object index i r.there r.named r.rank, lt-ltb i (count sheet properties) r.there)
