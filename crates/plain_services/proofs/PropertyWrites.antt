-- A property write on parts is that of the first engine.
use Rattle.std.proofs.Common.{Some}
use Rattle.octets.proofs.Kit.{ℕ, ◌+◌, ◌*◌, ◌-◌, ◌≤◌, ◌<◌, max, ◌≡◌, refl, sym, subst, ap, ap₂, ◌∙◌, Bool, true, false, cond, not, ◌&&◌, List, [], arith, mul-le-mul_right, lit<, ltb, leb}
use Rattle.octets.proofs.Kit.{eqb, length, get_or, lt-ltb, le-ltb, le-leb, lt-leb, leb-true, eq-eqb, ne_eqb, eqb-true, ltb-true, ltb-false, ◌⊎◌, inl, inr}
use Rattle.octets.{specs.{Bytes.{num_at, bytes_of}, Splice.splice, Octets.Octets}, proofs.{Numbers.bytes_zero, Splices.{length_splice, splice_below}, Truths.and_is}}
use Rattle.octets.proofs.Tests.{both, not_first_lem, not_second_lem}
use Rattle.sheet.{specs.{Kind.properties, Layout.◌of◌, Entries.{count, place, base, entry, contents, body_at, body_end}, Rules.{Accepted, entry_demands}}, proofs.rules.Good.good}
use Rattle.sheet.proofs.places.BodyPlaces.{within, after_contents}
use Rattle.sheet.specs.Property as property
use Rattle.pdu.specs.declared.Pdu.TheVariants.{PropertyValueResponse}
use Rattle.judge.specs.{declared.{Decision.Decision, Turn.TheVariants.Stays}, Decisions.written}
use Rattle.judge.specs.Properties.{counted, elements, element_at, jumped, no_value, property_at, write_in, property_write_of}
use Rattle.judge.specs.declared.Store.TheVariants as store
use Rattle.judge.specs.declared.Answer.TheVariants as answer
use Rattle.parts.specs.{declared.{Property.Property, Parts.Parts}, Records.{Taken, no_property}, With.{with_count, with_bodies}}
use Rattle.parts.proofs.Changed.{bodies_changed, count_changed, property_base, property_count_lem}
use Rattle.device.{specs.Carry.padded, proofs.leaves.Stores.length_padded}
use Rattle.plain_services.specs.{declared.{Reply.Reply}, Steps.{Held, Gives, Serves}}
use Rattle.plain_services.proofs.{Entry.{Fields, fields}, Joined.{and_assoc, was_no, was_yes}, Agreed.{agreed, by_decision}}

-- the decision in terms of the record
module _ (p : Property) (at level object id n t : ℕ) (d : List ℕ) where
  abbrev pub may_write : Bool
  may_write = p.writable && leb level p.write

  abbrev pub clears : Bool
  clears = counted n t && eqb (length d) 2 && eqb (num_at d 0 2) 0

  abbrev pub fills : Bool
  fills = elements n t p.maximum && eqb (length d) (n * p.size)

  abbrev cleared : Decision
  cleared = written (store.Fill (at + 6) 2 0) store.Nothing (answer.Echo (PropertyValueResponse object id n t))

  abbrev filled : Decision
  filled =
      written (store.Data (jumped p.count t * p.size) (element_at p.offset p.size (t - jumped p.count t)))
      (store.Number (at + 6) 2 (max p.count (t + n - 1))) (answer.Echo (PropertyValueResponse object id n t))

  in_terms : (e : List ℕ) → Fields p e → write_in e at level object id n t d ≡ cond may_write (cond clears cleared (cond fills filled (no_value object id t))) (no_value object id t)
  unfolding write_in
  in_terms e f = rw (f.writable, f.size, f.maximum, f.count, f.offset, f.write) refl

-- the parts of a sheet, and elements of property i
module _ (u : Parts) (i n t : ℕ) (d : List ℕ) where
  abbrev pp : Property
  pp = get_or u.properties i no_property

  there : (s : List ℕ) → Taken s u → i < u.counts.properties → i < count s properties
  there s k h = omega (arith, k.counts.properties)

  -- the elements that are jumped and the data lie in the property's body
  module _ (s : List ℕ) (ok : Accepted s) (k : Taken s u) (h : i < u.counts.properties) (a : elements n t pp.maximum ≡ true) (b : length d ≡ n * pp.size) where
    abbrev from : ℕ
    from = element_at pp.offset pp.size (t - jumped pp.count t)

    abbrev zeros : ℕ
    zeros = jumped pp.count t * pp.size

    among : (1 ≤ t) × (1 ≤ n) × (t + n - 1 ≤ pp.maximum)
    among =
        let x = (and_is (leb 1 t && leb 1 n) (leb (t + n - 1) pp.maximum)).0 a in
        let y = (and_is (leb 1 t) (leb 1 n)).0 x.0 in
        (leb-true 1 t y.0, leb-true 1 n y.1, leb-true _ _ x.1)

    ends : from + (zeros + length d) ≤ pp.offset + pp.size * pp.maximum
    ends =
        let x = among in
        let y : t - jumped pp.count t - 1 + jumped pp.count t + n ≤ pp.maximum = omega (arith, x.0, x.1, x.2) in
        omega (arith, b, mul-le-mul_right pp.size y)

    body : (contents s ≤ pp.offset) × (pp.offset + pp.size * pp.maximum ≤ length s)
    unfolding body_at body_end
    body =
        let g = good s ok in
        let f = fields s u i k (there s k h) in
        let x = after_contents g properties i (lit< tt) (there s k h) in
        let y = within g properties i (lit< tt) (there s k h) in
        let q : property.element of entry s properties i * property.maximum of entry s properties i ≡ pp.size * pp.maximum = rw (f.size, f.maximum) refl in
        (omega (arith, f.offset), omega (arith, f.offset, q))

    pub inside : (contents s ≤ from) × (from + (zeros + length d) ≤ length s)
    inside = (omega (arith, body.0), omega (arith, body.1, ends))

    -- the sheet with the run and the new count
    pub both_stored :
        {v v' : Parts} {c : ℕ} → v ≡ with_bodies u (splice u.bodies from (padded zeros d)) → c ≡ max pp.count (t + n - 1) → v' ≡ with_count v i c →
        Taken (splice (splice s from (padded zeros d)) (place s properties i + 6) (bytes_of 2 (max pp.count (t + n - 1)))) v'
    unfolding entry_demands
    both_stored {v} {v'} {c} ev ec ev' =
        let ds : List ℕ = padded zeros d in
        let l : length ds ≡ zeros + length d = length_padded zeros d in
        let fit : from + length ds ≤ length s = omega (arith, inside.1) in
        let s₁ : List ℕ = splice s from ds in
        let one : Taken s₁ v = subst (λ (x : Parts). Taken s₁ x) (sym ev) (bodies_changed s u k from ds inside.0 fit) in
        let low : (q : ℕ) → q < 32 → get_or s₁ q 0 ≡ get_or s q 0 = λ q b. splice_below s from ds fit q (omega (arith, inside.0)) in
        let lng : length s₁ ≡ length s = length_splice s from ds fit in
        let f = fields s u i k (there s k h) in
        let g = (good s ok).entries properties i (lit< tt) (there s k h) in
        let small : c < 65536 = omega (arith, ec, among, f.maximum, f.count, g) in
        let two = count_changed s₁ v one i c (omega (arith, property_count_lem s s₁ lng low, there s k h)) small in
        let at : base s₁ properties + 12 * i + 6 ≡ place s properties i + 6 = omega (arith, property_base s s₁ lng low) in
        rw (← ec, ev', ← at) two

  -- what carrying it out needs, f being whether the elements are there, and z their bytes
  module _ (f : Bool) (z : ℕ) (ef : f ≡ elements n t pp.maximum) (ez : z ≡ n * pp.size) (y' : not f ≡ false) (q' : not (eqb (length d) z) ≡ false) where
    y : f ≡ true
    y = was_yes f y'

    q : length d ≡ z
    q = eqb-true (length d) z (was_yes (eqb (length d) z) q')

    pub room_for :
        Held u → i < u.counts.properties →
        (length u.bodies ≡ 16384) × (1 ≤ t) × (element_at pp.offset pp.size (t - jumped pp.count t) + (jumped pp.count t * pp.size + length d) ≤ 16384)
    room_for k h =
        let x = inside k.sheet k.ok k.taken h (sym ef ∙ y) (q ∙ ez) in
        let w = among k.sheet k.ok k.taken h (sym ef ∙ y) (q ∙ ez) in
        (k.taken.room, w.0, omega (arith, x.1, k.taken.counts.short))

    pub last_fits : Held u → i < u.counts.properties → (1 ≤ n) × (1 ≤ t) × (t + n - 1 ≤ pp.maximum)
    last_fits k h = let w = among k.sheet k.ok k.taken h (sym ef ∙ y) (q ∙ ez) in (w.1, w.0, w.2)

-- the parts of a sheet
module _ (u : Parts) (i level object id n t : ℕ) (d : List ℕ) (r : Reply) where
  abbrev p : Property
  p = get_or u.properties i no_property

  abbrev decides : List ℕ → Decision
  decides s = write_in (entry s properties i) (place s properties i) level object id n t d

  terms : (s : List ℕ) → Taken s u → i < u.counts.properties →
      decides s ≡ cond (may_write p (place s properties i) level object id n t d)
      (cond (clears p (place s properties i) level object id n t d) (cleared p (place s properties i) level object id n t d)
      (cond (fills p (place s properties i) level object id n t d) (filled p (place s properties i) level object id n t d) (no_value object id t))) (no_value object id t)
  terms s k h = in_terms p (place s properties i) level object id n t d (entry s properties i) (fields s u i k (there u i n t d s k h))

  pub not_writable :
      i < u.counts.properties → (not p.writable ≡ true) ⊎ (ltb p.write level ≡ true) →
      Gives r 11 u Stays (Some (PropertyValueResponse object id 0 t)) [] → Serves u d decides r
  not_writable h e g =
      record { agrees = λ s ok o k. by_decision _ (no_value object id t) (terms s k h ∙ rw (shut e) refl) (agreed (no_value object id t) g k) }
    where
      shut : (not p.writable ≡ true) ⊎ (ltb p.write level ≡ true) → (p.writable && leb level p.write) ≡ false
      shut (inl y) = not_first_lem p.writable (leb level p.write) (was_no p.writable y)
      shut (inr y) = not_second_lem p.writable (leb level p.write) (lt-leb level p.write (ltb-true p.write level y))

  -- a property that may be written; c is whether the data is 00 00
  module _ (c : Bool) (h : i < u.counts.properties) (ew : not p.writable ≡ false) (el : ltb p.write level ≡ false) (ec : c ≡ (eqb (length d) 2 && eqb (num_at d 0 2) 0)) where
    e : (p.writable && leb level p.write) ≡ true
    e = both _ _ (was_yes p.writable ew) (le-leb level p.write (ltb-false p.write level el))

    as_clear : (x : Bool) → (counted n t && c) ≡ x → (counted n t && eqb (length d) 2 && eqb (num_at d 0 2) 0) ≡ x
    as_clear x q = and_assoc (counted n t) (eqb (length d) 2) (eqb (num_at d 0 2) 0) ∙ ap (λ (b : Bool). counted n t && b) (sym ec) ∙ q

    pub is_clear :
        t ≡ 0 → eqb n 1 ≡ true → c ≡ true → (v : Parts) → v ≡ with_count u i 0 →
        Gives r 0 v Stays (Some (PropertyValueResponse object id n t)) d → Serves u d decides r
    is_clear q₁ q₂ q₃ v ev g =
        record {
          agrees = λ s ok o k.
              by_decision _ (cleared p (place s properties i) level object id n t d) (terms s k h ∙ rw (e, as_clear true (both _ _ (both _ _ (eq-eqb t 0 q₁) q₂) q₃)) refl)
              (agreed (cleared p (place s properties i) level object id n t d) g
              (subst (λ (x : List ℕ). Taken (splice s (place s properties i + 6) x) v) (bytes_zero 2)
              (subst (λ (x : Parts). Taken (splice s (place s properties i + 6) (bytes_of 2 0)) x) (sym ev) (count_changed s u k i 0 (there u i n t d s k h) (omega arith)))));
        }

    -- a write of elements; f is whether they are there, and z their bytes
    module _ (cases : (c ≡ false) ⊎ ((eqb n 1 ≡ false) ⊎ (t ≡ 0 → ⊥))) (f : Bool) (z : ℕ) (ef : f ≡ elements n t p.maximum) (ez : z ≡ n * p.size) where
      unclear : (counted n t && c) ≡ false
      unclear = go cases
        where
          go : (c ≡ false) ⊎ ((eqb n 1 ≡ false) ⊎ (t ≡ 0 → ⊥)) → (counted n t && c) ≡ false
          go (inl x) = not_second_lem (counted n t) c x
          go (inr (inl x)) = not_first_lem (counted n t) c (not_second_lem (eqb t 0) (eqb n 1) x)
          go (inr (inr x)) = not_first_lem (counted n t) c (not_first_lem (eqb t 0) (eqb n 1) (ne_eqb t 0 x))

      as_fills : (x : Bool) → (f && eqb (length d) z) ≡ x → (elements n t p.maximum && eqb (length d) (n * p.size)) ≡ x
      as_fills x y = sym (ap₂ (λ (a : Bool) (b : ℕ). a && eqb (length d) b) ef ez) ∙ y

      pub not_there :
          (not f ≡ true) ⊎ (not (eqb (length d) z) ≡ true) →
          Gives r 11 u Stays (Some (PropertyValueResponse object id 0 t)) [] → Serves u d decides r
      not_there y g =
          record { agrees = λ s ok o k. by_decision _ (no_value object id t) (terms s k h ∙ rw (e, as_clear false unclear, as_fills false (other y)) refl) (agreed (no_value object id t) g k) }
        where
          other : (not f ≡ true) ⊎ (not (eqb (length d) z) ≡ true) → (f && eqb (length d) z) ≡ false
          other (inl x) = not_first_lem f (eqb (length d) z) (was_no f x)
          other (inr x) = not_second_lem f (eqb (length d) z) (was_no (eqb (length d) z) x)

      -- A WRITE OF ELEMENTS
      pub is_filled :
          not f ≡ false → not (eqb (length d) z) ≡ false → (v v' : Parts) (x : ℕ) →
          v ≡ with_bodies u (splice u.bodies (element_at p.offset p.size (t - jumped p.count t)) (padded (jumped p.count t * p.size) d)) →
          x ≡ max p.count (t + n - 1) → v' ≡ with_count v i x →
          Gives r 0 v' Stays (Some (PropertyValueResponse object id n t)) d → Serves u d decides r
      is_filled y' yl' v v' x ev ex ev' g =
          let y = was_yes f y' in
          let yl = eqb-true (length d) z (was_yes (eqb (length d) z) yl') in
          record {
            agrees = λ s ok o k.
                by_decision _ (filled p (place s properties i) level object id n t d)
                (terms s k h ∙ rw (e, as_clear false unclear, as_fills true (both _ _ y (eq-eqb (length d) z yl))) refl)
                (agreed (filled p (place s properties i) level object id n t d) g (both_stored u i n t d s ok k h (sym ef ∙ y) (yl ∙ ez) ev ex ev'));
          }

pub few : (u : Parts) (i : ℕ) → Held u → i < u.counts.properties → i < 64
few u i k h = omega (arith, k.taken.counts.few_properties)

-- by object and id
module _ (u : Parts) (level object id n t : ℕ) (d : List ℕ) (r : Reply) where
  pub none_named :
      (i : ℕ) → (i ≤ u.counts.properties) × ((s : List ℕ) → Accepted s → Octets s → Taken s u → i ≡ property_at s object id) → u.counts.properties ≤ i →
      Gives r 11 u Stays (Some (PropertyValueResponse object id 0 t)) [] → Serves u d (λ s. property_write_of s level object id n t d) r
  unfolding property_write_of
  none_named i f h g =
      record {
        agrees = λ s ok o k.
            let l : count s properties ≤ property_at s object id = omega (arith, f.1 s ok o k, k.counts.properties) in
            let e : ltb (property_at s object id) (count s properties) ≡ false = le-ltb (property_at s object id) (count s properties) l in
            by_decision _ (no_value object id t) (rw e refl) (agreed (no_value object id t) g k);
      }

  pub one_named :
      (i : ℕ) → (i ≤ u.counts.properties) × ((s : List ℕ) → Accepted s → Octets s → Taken s u → i ≡ property_at s object id) → i < u.counts.properties →
      Serves u d (λ s. write_in (entry s properties i) (place s properties i) level object id n t d) r → Serves u d (λ s. property_write_of s level object id n t d) r
  unfolding property_write_of
  one_named i f h g =
      record {
        agrees = λ s ok o k.
            let q = f.1 s ok o k in
            let l : property_at s object id < count s properties = omega (arith, q, k.counts.properties) in
            let e : ltb (property_at s object id) (count s properties) ≡ true = lt-ltb (property_at s object id) (count s properties) l in
            by_decision _ (write_in (entry s properties i) (place s properties i) level object id n t d) (rw (e, ← q) refl) (g.agrees s ok o k);
      }
