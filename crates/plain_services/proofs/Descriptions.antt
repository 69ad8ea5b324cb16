-- Descriptions on parts are those of the first engine.
use Rattle.std.proofs.Common.{Option, Some}
use Rattle.octets.proofs.Kit.{ℕ, zero, suc, ◌+◌, ◌≤◌, ◌<◌, ◌≡◌, refl, sym, ap, ap₂, subst, ◌∙◌, true, false, cond, ◌&&◌, List, [], arith, lit<, eqb, get_or, lt-ltb, le-ltb, eq-eqb, ne_eqb}
use Rattle.octets.proofs.Kit.{◌⊎◌, inl, inr, eqb-true}
use Rattle.octets.{specs.Octets.Octets, proofs.{Numbers.num_one, Tests.both, Truths.{first_true, second_true, never}}}
use Rattle.sheet.{specs.{Kind.properties, Layout.◌of◌, Entries.{count, place, entry}, Lookup.{object_at, rank, nth_of}, Rules.Accepted}, proofs.places.Standing.field_at}
use Rattle.sheet.proofs.promises.Ranks.{nth_hit, nth_none}
use Rattle.sheet.specs.Property as property
use Rattle.pdu.specs.declared.Pdu.{Pdu, TheVariants.PropertyDescriptionResponse}
use Rattle.judge.specs.{declared.Turn.TheVariants.Stays, Decisions.{denied, answered}, Properties.{property_at, described_at, description_of}}
use Rattle.judge.specs.declared.Answer.TheVariants as answer
use Rattle.parts.{specs.{declared.{Property.Property, Parts.Parts}, Records.{Taken, no_property}, Again.{type_of, levels_of}}, proofs.Bits.top_bit}
use Rattle.plain_services.specs.{Described.{rank_in, is_nth}, declared.{Reply.Reply}, Steps.{Gives, Serves}}
use Rattle.plain_services.specs.Found.{Finds}
use Rattle.plain_services.proofs.{Entry.fields, Agreed.{agreed, by_decision}}

-- one property more
pub rank_next :
    (ps : List Property) (object j seen x : ℕ) → seen ≡ rank_in ps object j → x ≡ cond (eqb (get_or ps j no_property).object object) 1 0 →
    seen + x ≡ rank_in ps object (j + 1)
unfolding rank_in
rank_next ps object j seen x e f =
    let q : suc j ≡ j + 1 = omega arith in
    subst (λ (n : ℕ). seen + x ≡ rank_in ps object n) q (ap₂ (λ (a b : ℕ). a + b) e f)

pub one_counted : (ps : List Property) (object j seen x : ℕ) → seen ≡ rank_in ps object j → (get_or ps j no_property).object ≡ object → x ≡ seen + 1 → x ≡ rank_in ps object (j + 1)
one_counted ps object j seen x e h q = q ∙ rank_next ps object j seen 1 e (simp (eq-eqb (get_or ps j no_property).object object h))

pub one_passed : (ps : List Property) (object j seen x : ℕ) → seen ≡ rank_in ps object j → ((get_or ps j no_property).object ≡ object → ⊥) → x ≡ seen → x ≡ rank_in ps object (j + 1)
one_passed ps object j seen x e h q =
    let z : x ≡ seen + 0 = omega (arith, q) in z ∙ rank_next ps object j seen 0 e (simp (ne_eqb (get_or ps j no_property).object object h))

-- none of none, and as many as there are
pub rank_start : (ps : List Property) (object : ℕ) → 0 ≡ rank_in ps object 0
unfolding rank_in
rank_start ps object = refl

module _ (s : List ℕ) (u : Parts) (t : Taken s u) where
  object_is : (i : ℕ) → i < count s properties → (get_or u.properties i no_property).object ≡ object_at s i
  unfolding object_at
  object_is i h = sym (fields s u i t h).object

  rank_same : (object i : ℕ) → i ≤ count s properties → rank_in u.properties object i ≡ rank s object i
  unfolding rank_in rank
  rank_same object zero h = refl
  rank_same object (suc i) h =
      ap₂ (λ (a b : ℕ). a + cond (eqb b object) 1 0) (rank_same object i (omega arith)) (object_is i (omega arith))

  module _ (object index : ℕ) where
    nth_as : (i : ℕ) → i < count s properties → is_nth u.properties object index i ≡ (eqb (object_at s i) object && eqb (rank s object i) index)
    nth_as i h = ap₂ (λ (a b : ℕ). eqb a object && eqb b index) (object_is i h) (rank_same object i (omega arith))

    pub nth_found : (i : ℕ) → i < u.counts.properties → is_nth u.properties object index i ≡ true → i ≡ nth_of s object index
    nth_found i h e =
        let k : i < count s properties = omega (arith, t.counts.properties) in
        let q = sym (nth_as i k) ∙ e in
        sym
        (nth_hit s object index i k (eqb-true _ _ (first_true (eqb (object_at s i) object) (eqb (rank s object i) index) q))
        (eqb-true _ _ (second_true (eqb (object_at s i) object) (eqb (rank s object i) index) q)))

    pub nth_missing : ((i : ℕ) → i < u.counts.properties → is_nth u.properties object index i ≡ false) → u.counts.properties ≡ nth_of s object index
    nth_missing f =
        t.counts.properties
        ∙ sym
        (nth_none s object index
        (λ i k a b.
        never (sym (f i (omega (arith, t.counts.properties))) ∙ nth_as i k ∙ both _ _ (eq-eqb (object_at s i) object a) (eq-eqb (rank s object i) index b))))

-- the search by index or by id
pub described : (u : Parts) (object id index : ℕ) (r x : Option ℕ) → r ≡ x
    → ((id ≡ 0) × Finds u u.counts.properties (λ s. nth_of s object index) x) ⊎ ((id ≡ 0 → ⊥) × Finds u u.counts.properties (λ s. property_at s object id) x)
    → Finds u u.counts.properties (λ s. described_at s object id index) r
unfolding described_at
described u object id index r x q (inl (e, f)) = rw q record { below = f.below; is = λ s ok o t. f.is s ok o t ∙ simp (eq-eqb id 0 e) }
described u object id index r x q (inr (e, f)) = rw q record { below = f.below; is = λ s ok o t. f.is s ok o t ∙ simp (ne_eqb id 0 e) }

module _ (u : Parts) (object id index i : ℕ) where
  module _ (r : Reply) (f : (i ≤ u.counts.properties) × ((s : List ℕ) → Accepted s → Octets s → Taken s u → i ≡ described_at s object id index)) where
    pub none_described :
        u.counts.properties ≤ i → Gives r 11 u Stays (Some (PropertyDescriptionResponse object id index 0 0 0)) [] →
        Serves u [] (λ s. description_of s object id index) r
    unfolding description_of
    none_described h g =
        record {
          agrees = λ s ok o k.
              let l : count s properties ≤ described_at s object id index = omega (arith, f.1 s ok o k, k.counts.properties) in
              by_decision _ (denied (PropertyDescriptionResponse object id index 0 0 0))
              (rw (le-ltb (described_at s object id index) (count s properties) l) refl)
              (agreed (denied (PropertyDescriptionResponse object id index 0 0 0)) g k);
        }

    abbrev p : Property
    p = get_or u.properties i no_property

    pub one_described :
        i < u.counts.properties → (x ty ac : ℕ) → x ≡ rank_in u.properties p.object i → ty ≡ type_of p → ac ≡ levels_of p.read p.write →
        Gives r 0 u Stays (Some (PropertyDescriptionResponse p.object p.id x ty p.maximum ac)) [] →
        Serves u [] (λ s. description_of s object id index) r
    unfolding description_of
    one_described h x ty ac ex et ea g =
        record {
          agrees = λ s ok o k.
              let q = f.1 s ok o k in
              let there : i < count s properties = omega (arith, k.counts.properties) in
              let l : described_at s object id index < count s properties = omega (arith, q) in
              let w = fields s u i k there in
              let e : List ℕ = entry s properties i in
              let b : get_or s (place s properties i + 2) 0 < 256 = o (place s properties i + 2) in
              let ft : property.typ of e ≡ get_or s (place s properties i + 2) 0 = field_at s properties i property.typ (lit< tt) ∙ num_one s (place s properties i + 2) in
              let fl : property.levels of e ≡ get_or s (place s properties i + 10) 0 = field_at s properties i property.levels (lit< tt) ∙ num_one s (place s properties i + 10) in
              let qt : property.typ of e ≡ ty = sym (et ∙ top_bit (property.typ of e) p.typ p.writable (omega (arith, ft, b)) (sym w.writable) (sym w.typ)) in
              let ql : property.levels of e ≡ ac = omega (arith, ea, w.read, w.write, fl, o (place s properties i + 10)) in
              let qr : rank s (property.object of e) i ≡ x = ap (λ (n : ℕ). rank s n i) w.object ∙ sym (rank_same s u k p.object i (omega arith)) ∙ sym ex in
              let d : Pdu = PropertyDescriptionResponse p.object p.id x ty p.maximum ac in
              by_decision _ (answered (answer.Plain d))
              (rw (lt-ltb (described_at s object id index) (count s properties) l, ← q, qr, w.object, w.id, qt, w.maximum, ql) refl)
              (agreed (answered (answer.Plain d)) g k);
        }
