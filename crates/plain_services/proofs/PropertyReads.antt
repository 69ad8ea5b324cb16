-- A property read on parts is that of the first engine.
use Rattle.std.proofs.Common.{Some}
use Rattle.octets.proofs.Kit.{ℕ, ◌+◌, ◌*◌, ◌-◌, ◌≤◌, ◌<◌, ◌≡◌, refl, sym, ap₂, ◌∙◌, Bool, true, false, cond, not, ◌&&◌, List, [], arith, lit<, ltb, leb, length, get_or, take, drop, lt-ltb}
use Rattle.octets.proofs.Kit.{le-ltb, le-leb, lt-leb, leb-true, ltb-true, ltb-false, ◌⊎◌, inl, inr}
use Rattle.octets.{specs.{Bytes.bytes_of, Octets.Octets}, proofs.{Truths.and_is, Numbers.num_one, Tests.{both, not_first_lem, not_second_lem}}}
use Rattle.sheet.{specs.{Kind.properties, Entries.{count, base, entry, contents, body_at}, Rules.Accepted}, proofs.{rules.Good.good, places.BodyPlaces.after_contents}}
use Rattle.pdu.specs.declared.Pdu.{Pdu, TheVariants.PropertyValueResponse}
use Rattle.judge.specs.{declared.{Decision.Decision, Turn.TheVariants.Stays}, Decisions.answered, Properties.{counted, elements, element_at, no_value, property_at, read_in, property_read_of}}
use Rattle.judge.specs.declared.Answer.TheVariants as answer
use Rattle.parts.{specs.{declared.{Property.Property, Parts.Parts}, Records.{Taken, no_property}}, proofs.Quoted.same_part}
use Rattle.device.proofs.leaves.Accepted.{elements_within, count_below}
use Rattle.plain_services.specs.{declared.{Reply.Reply}, Steps.{Held, Gives, Serves}}
use Rattle.plain_services.proofs.{Entry.{Fields, fields}, Joined.{was_no, was_yes}, Agreed.{agreed, by_decision, quoted}}

-- the decision in terms of the record
module _ (p : Property) (level object id n t : ℕ) where
  abbrev answers : Pdu
  answers = PropertyValueResponse object id n t

  abbrev told : Decision
  told = answered (answer.Number answers 2 p.count)

  abbrev shown : Decision
  shown = answered (answer.Sheet answers (element_at p.offset p.size t) (n * p.size))

  abbrev shows : Bool
  shows = elements n t p.count && leb (n * p.size) 10

  in_terms :
      (e : List ℕ) → Fields p e →
      read_in e level object id n t ≡ cond (leb level p.read) (cond (counted n t) told (cond shows shown (no_value object id t))) (no_value object id t)
  unfolding read_in
  in_terms e f = rw (f.size, f.count, f.offset, f.read) refl

-- an element has as many bytes as a byte can say
pub byte_size : (u : Parts) (i : ℕ) → Held u → i < u.counts.properties → (get_or u.properties i no_property).size ≤ 255
byte_size u i k h =
    let at : ℕ = base k.sheet properties + 12 * i + 3 in
    let p = k.taken.properties i (omega (arith, k.taken.counts.properties)) in
    omega (arith, p.size, num_one k.sheet at, k.bytes at)

pub first_element : (n t m : ℕ) (f : Bool) → f ≡ elements n t m → f ≡ true → 1 ≤ t
first_element n t m f e y =
    let x = (and_is (leb 1 t && leb 1 n) (leb (t + n - 1) m)).0 (sym e ∙ y) in
    leb-true 1 t ((and_is (leb 1 t) (leb 1 n)).0 x.0).0

-- n counted elements from element t on of property i
module _ (u : Parts) (i n t : ℕ) where
  abbrev pp : Property
  pp = get_or u.properties i no_property

  among : elements n t pp.count ≡ true → (1 ≤ t) × (1 ≤ n) × (t + n - 1 ≤ pp.count)
  among a =
      let x = (and_is (leb 1 t && leb 1 n) (leb (t + n - 1) pp.count)).0 a in
      let y = (and_is (leb 1 t) (leb 1 n)).0 x.0 in
      (leb-true 1 t y.0, leb-true 1 n y.1, leb-true _ _ x.1)

  -- they lie among the bodies
  inside :
      (s : List ℕ) → Accepted s → Taken s u → i < u.counts.properties → elements n t pp.count ≡ true →
      (contents s ≤ element_at pp.offset pp.size t) × (element_at pp.offset pp.size t + n * pp.size ≤ length s)
  unfolding body_at
  inside s ok k h a =
      let there : i < count s properties = omega (arith, k.counts.properties) in
      let f = fields s u i k there in
      let g = good s ok in
      let b = among a in
      let w = elements_within g i there n t b.0 (omega (arith, b.2, f.count, count_below g i there)) in
      (omega (arith, f.offset, after_contents g properties i (lit< tt) there), rw (f.offset, f.size) at w)

  pub room_shown :
      (f : Bool) → Held u → i < u.counts.properties → f ≡ elements n t pp.count → f ≡ true →
      (a z : ℕ) → a ≡ element_at pp.offset pp.size t → z ≡ n * pp.size → a + z ≤ 16384
  room_shown f k h e y a z ea ez = omega (arith, ea, ez, (inside k.sheet k.ok k.taken h (sym e ∙ y)).1, k.taken.counts.short)

module _ (u : Parts) (i level object id n t : ℕ) (r : Reply) where
  abbrev p : Property
  p = get_or u.properties i no_property

  abbrev decides : List ℕ → Decision
  decides s = read_in (entry s properties i) level object id n t

  terms :
      (s : List ℕ) → Taken s u → i < u.counts.properties →
      decides s ≡ cond (leb level p.read) (cond (counted n t) (told p level object id n t) (cond (shows p level object id n t) (shown p level object id n t) (no_value object id t)))
      (no_value object id t)
  terms s k h = in_terms p level object id n t (entry s properties i) (fields s u i k (omega (arith, k.counts.properties)))

  pub not_readable :
      i < u.counts.properties → p.read < level → Gives r 11 u Stays (Some (PropertyValueResponse object id 0 t)) [] → Serves u [] decides r
  not_readable h l g =
      record { agrees = λ s ok o k. by_decision _ (no_value object id t) (terms s k h ∙ rw (lt-leb level p.read l) refl) (agreed (no_value object id t) g k) }

  pub count_told :
      i < u.counts.properties → level ≤ p.read → counted n t ≡ true → (b : List ℕ) → b ≡ bytes_of 2 p.count →
      Gives r 0 u Stays (Some (PropertyValueResponse object id n t)) b → Serves u [] decides r
  count_told h l e b eb g =
      record {
        agrees = λ s ok o k.
            by_decision _ (told p level object id n t) (terms s k h ∙ rw (le-leb level p.read l, e) refl)
            (agreed (told p level object id n t) (rw eb at g) k);
      }

  -- z bytes, if the elements are counted: f
  module _ (f : Bool) (z : ℕ) (ef : f ≡ elements n t p.count) (ez : z ≡ n * p.size) where
    as_shown : (f && leb z 10) ≡ shows p level object id n t
    as_shown = ap₂ (λ (x : Bool) (y : ℕ). x && leb y 10) ef ez

    denied : (not f ≡ true) ⊎ (ltb 10 z ≡ true) → (f && leb z 10) ≡ false
    denied (inl y) = not_first_lem f (leb z 10) (was_no f y)
    denied (inr y) = not_second_lem f (leb z 10) (lt-leb z 10 (ltb-true 10 z y))

    pub not_shown :
        i < u.counts.properties → level ≤ p.read → counted n t ≡ false → (not f ≡ true) ⊎ (ltb 10 z ≡ true) →
        Gives r 11 u Stays (Some (PropertyValueResponse object id 0 t)) [] → Serves u [] decides r
    not_shown h l e y g =
        record {
          agrees = λ s ok o k.
              by_decision _ (no_value object id t) (terms s k h ∙ rw (le-leb level p.read l, e, sym as_shown ∙ denied y) refl) (agreed (no_value object id t) g k);
        }

    pub is_shown :
        i < u.counts.properties → level ≤ p.read → counted n t ≡ false → not f ≡ false → ltb 10 z ≡ false →
        (a : ℕ) → a ≡ element_at p.offset p.size t →
        Gives r 0 u Stays (Some (PropertyValueResponse object id n t)) (take (a + z - a) (drop a u.bodies)) → Serves u [] decides r
    is_shown h l e y y' a ea g =
        record {
          agrees = λ s ok o k.
              let b = sym as_shown ∙ both _ _ (was_yes f y) (le-leb z 10 (ltb-false 10 z y')) in
              let w = inside u i n t s ok k h ((and_is (elements n t p.count) (leb (n * p.size) 10)).0 b).0 in
              let same = quoted a z u.bodies ∙ ap₂ (λ (m q : ℕ). take m (drop q u.bodies)) ez ea ∙ same_part s u k (element_at p.offset p.size t) (n * p.size) w.0 w.1 in
              by_decision _ (shown p level object id n t) (terms s k h ∙ rw (le-leb level p.read l, e, b) refl)
              (agreed (shown p level object id n t) (rw same at g) k);
        }

-- by object and id
module _ (u : Parts) (level object id n t : ℕ) (r : Reply) where
  pub no_such :
      (i : ℕ) → (i ≤ u.counts.properties) × ((s : List ℕ) → Accepted s → Octets s → Taken s u → i ≡ property_at s object id) → u.counts.properties ≤ i →
      Gives r 11 u Stays (Some (PropertyValueResponse object id 0 t)) [] → Serves u [] (λ s. property_read_of s level object id n t) r
  unfolding property_read_of
  no_such i f h g =
      record {
        agrees = λ s ok o k.
            let l : count s properties ≤ property_at s object id = omega (arith, f.1 s ok o k, k.counts.properties) in
            let e : ltb (property_at s object id) (count s properties) ≡ false = le-ltb (property_at s object id) (count s properties) l in
            by_decision _ (no_value object id t) (rw e refl) (agreed (no_value object id t) g k);
      }

  pub that_one :
      (i : ℕ) → (i ≤ u.counts.properties) × ((s : List ℕ) → Accepted s → Octets s → Taken s u → i ≡ property_at s object id) → i < u.counts.properties →
      Serves u [] (λ s. read_in (entry s properties i) level object id n t) r → Serves u [] (λ s. property_read_of s level object id n t) r
  unfolding property_read_of
  that_one i f h g =
      record {
        agrees = λ s ok o k.
            let q = f.1 s ok o k in
            let l : property_at s object id < count s properties = omega (arith, q, k.counts.properties) in
            let e : ltb (property_at s object id) (count s properties) ≡ true = lt-ltb (property_at s object id) (count s properties) l in
            by_decision _ (read_in (entry s properties i) level object id n t) (rw (e, ← q) refl) (g.agrees s ok o k);
      }
