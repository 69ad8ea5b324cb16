-- What a property write answers is what a read then answers.
use Rattle.octets.proofs.Kit.{ℕ, ◌+◌, ◌*◌, ◌-◌, ◌≤◌, ◌<◌, max, ◌≡◌, refl, sym, ap, ◌∙◌, List, [], ◌∷◌, length, replicate, arith}
use Rattle.octets.{specs.{Bytes.bytes_of, Splice.splice}, proofs.Numbers.bytes_zero}
use Rattle.sheet.{specs.{Kind.properties, Layout.{Field, ◌of◌}, Entries.{count, place, entry}, Agree.{Agree, Fixed}, Rules.entry_demands}, proofs.rules.Good.{Good, good}}
use Rattle.sheet.proofs.alike.Sames.{property_same}
use Rattle.sheet.specs.Property as property
use Rattle.pdu.{specs.{Write.encoded, declared.Pdu.TheVariants.{PropertyValueRead, PropertyValueWrite, PropertyValueResponse}}, proofs.promises.Readings.reading}
use Rattle.judge.{specs.{declared.Decision.Decision, Session.level_in}, proofs.PropertyCases.{Keyed, Among, property_write_cases}}
use Rattle.device.specs.{Step.{Step, step_by}, Asked.{Asked, Reads, given, part}, PropertiesDue.{element_at, Readable}, Demand2.done, Next.SameAnswer}
use Rattle.device.proofs.due.{Given.write_data, Stepped.step_read, Properly.{keyed, two_zeros}, RightProperties.{only_property_count, only_property_read}}
use Rattle.device.proofs.leaves.{Stays.request_agrees, Backs.{same_property, count_back, wrote, counted_back, elements_back}}

module _ (x y : Asked) (object id n s : ℕ) (r : Reads x (PropertyValueWrite object id n s)) (u : Reads y (PropertyValueRead object id n s))
    (new : y.sheet ≡ (done x).sheet) (j : ℕ) (may : Readable y object id j) where
  ok : Good x.sheet
  ok = good x.sheet r.ready.sheet

  agree : Agree x.sheet y.sheet
  agree = rw new (request_agrees x r.ready.sheet)

  abbrev d : List ℕ
  d = given x (PropertyValueWrite object id n s)

  same : (i : ℕ) → Keyed x.sheet object id i → i ≡ j
  same i k = same_property ok agree object id i j k (keyed y object id j may.found)

  -- a step that answers b in the property's name, then one that does
  joined :
      (f b : List ℕ) (z w : Step) → z ≡ done x → w ≡ done y → z.answer ≡ encoded (PropertyValueResponse object id n s) f →
      w.outcome ≡ 0 → w.answer ≡ encoded (PropertyValueResponse object id n s) b → b ≡ f → SameAnswer x y
  joined f b z w p q g o h e =
      record {
        outcome = sym (ap (λ (t : Step). t.outcome) q) ∙ o;
        answer = sym (ap (λ (t : Step). t.answer) q) ∙ h ∙ ap (encoded (PropertyValueResponse object id n s)) e ∙ sym g ∙ ap (λ (t : Step). t.answer) p;
      }

  -- a field but the count is as it was
  field :
      (i : ℕ) (f : Field) → Keyed x.sheet object id i → f.at + f.width ≤ property.size → ((m : ℕ) → m < f.width → Fixed properties (f.at + m)) →
      f of entry y.sheet properties j ≡ f of entry x.sheet properties i
  field i f k l h =
      let e = same i k in
      let b : j < count x.sheet properties = rw (← e) k.there in
      property_same agree j f b l h ∙ ap (λ (m : ℕ). f of entry x.sheet properties m) (sym e)

  -- the count, and elements
  count_found :
      (i : ℕ) → Keyed x.sheet object id i → (done x).sheet ≡ splice x.sheet (place x.sheet properties i + (property.count).at) (replicate 2 0) →
      bytes_of 2 (property.count of entry y.sheet properties j) ≡ 0 ∷ 0 ∷ []
  count_found i k e =
      let c : property.count of entry y.sheet properties i ≡ 0 = rw (new, e) (count_back ok i k.there) in
      ap (bytes_of 2) (rw (same i k) at c) ∙ bytes_zero 2

  elements_found :
      (i c : ℕ) (k : Keyed x.sheet object id i) (a : Among n s (property.maximum of entry x.sheet properties i))
      (l : length d ≡ n * property.element of entry x.sheet properties i) (m : c ≤ property.maximum of entry x.sheet properties i) →
      (done x).sheet ≡ wrote ok i k.there n s c d a l m →
      part y.sheet (element_at (entry y.sheet properties j) s) (n * property.element of entry y.sheet properties j) ≡ d
  elements_found i c k a l m e =
      let f = field i property.offset k (omega arith) (omega arith) in
      let g = field i property.element k (omega arith) (omega arith) in
      rw (f, g, ← l, new, e) (elements_back ok i k.there n s c d a l m)

  counted_found :
      (i c : ℕ) (k : Keyed x.sheet object id i) (a : Among n s (property.maximum of entry x.sheet properties i))
      (l : length d ≡ n * property.element of entry x.sheet properties i) (m : c ≤ property.maximum of entry x.sheet properties i) →
      (done x).sheet ≡ wrote ok i k.there n s c d a l m → property.count of entry y.sheet properties j ≡ c
  counted_found i c k a l m e = rw (← (same i k), new, e) (counted_back ok i k.there n s c d a l m)

  -- THE SAME ANSWER
  pub property_same_answer : (done x).outcome ≡ 0 → SameAnswer x y
  unfolding step_by entry_demands
  property_same_answer out =
      property_write_cases x.sheet (level_in x.session x.mode) object id n s
      (λ (q : Decision). step_by x.sheet x.session d q ≡ done x → SameAnswer x y) d
      (λ i k w z o l v p.
      joined d _ _ _ p (only_property_count y object id n s u j may z o) refl refl refl
      (count_found i k (sym (ap (λ (t : Step). t.sheet) p)) ∙ sym (two_zeros d l v)))
      (λ i k w a l p.
      let h = field i property.element k (omega arith) (omega arith) in
      let m : max (property.count of entry x.sheet properties i) (s + n - 1) ≤ property.maximum of entry x.sheet properties i =
      omega (arith, a.end, ok.entries properties i (omega arith) k.there)
      in
      let g = counted_found i _ k a l m (sym (ap (λ (t : Step). t.sheet) p)) in
      joined d _ _ _ p
      (only_property_read y object id n s u j may (record { start = a.start; some = a.some; end = rw g (omega arith) })
      (rw (h, ← l) (write_data x.apdu object id n s (reading x.apdu _ r.reads))))
      refl refl refl (elements_found i _ k a l m (sym (ap (λ (t : Step). t.sheet) p))))
      (λ p. let z : ◌≡◌ {A = ℕ} 11 0 = ap (λ (t : Step). t.outcome) p ∙ out in absurd (omega arith))
      (step_read x _ r _ refl)
