-- Property values: what is due is what is done.
use Rattle.octets.proofs.Kit.{ℕ, ◌+◌, ◌*◌, ◌-◌, ◌/◌, ◌≤◌, ◌<◌, max, ◌≡◌, refl, sym, ap, subst, ◌∙◌, List, [], ◌∷◌, length, arith}
use Rattle.octets.specs.{Bytes.{num_at, bytes_of}, Splice.splice}
use Rattle.sheet.{specs.{Kind.properties, Layout.◌of◌, Entries.{count, place, entry}}, proofs.rules.Good.{Good, good}}
use Rattle.sheet.specs.Property as property
use Rattle.pdu.{specs.declared.Pdu.TheVariants.{PropertyValueRead, PropertyValueWrite, PropertyValueResponse}, proofs.promises.Readings.reading}
use Rattle.judge.{specs.{declared.Decision.Decision, Session.level_in, Properties.{no_value, property_read_of, property_write_of}}, proofs.PropertyCases.{Keyed, Among, Free, run_in}}
use Rattle.judge.proofs.PropertyCases.{property_read_cases, property_write_cases, property_read_count, property_read_elements, property_write_clear, property_write_elements}
use Rattle.device.specs.{Octets.Octets, Carry.store_of, Step.{Step, step_by}, Asked.{Asked, says, says_after, Reads, given, part}, PropertiesDue.{PropertiesDue, Elements, element_at}}
use Rattle.device.specs.PropertiesDue.{zeroed, Readable, ReadAllowed, Writable, WriteAllowed, property_count, property_read, no_property_read, property_clear, property_write}
use Rattle.device.specs.PropertiesDue.{no_property_write}
use Rattle.device.proofs.{leaves.Accepted.counted_within, due.Acts.{acts, acts_at_lem}, leaves.Jumps.zeros_and_data, due.Properly.{keyed, unkeyed, read_id, write_id, two_zeros}}
use Rattle.device.proofs.due.Stepped.{step, step_read}

among : {m n s : ℕ} → Elements m n s → Among n s m
among m = record { start = m.start; some = m.some; end = m.end }

elements : (m n s : ℕ) → Among n s m → Elements m n s
elements e n s m = record { start = m.start; some = m.some; end = m.end }

module _ (x : Asked) (object id : ℕ) where
  -- READING
  abbrev Open : ℕ → Type 0
  Open i = level_in x.session x.mode ≤ property.levels of entry x.sheet properties i / 16

  opened : (i : ℕ) → Readable x object id i → Open i
  opened i p = acts_at_lem x _ p.acts p.suffices

  module _ (n s : ℕ) (r : Reads x (PropertyValueRead object id n s)) where
    ok : Good x.sheet
    ok = good x.sheet r.ready.sheet

    abbrev read : Decision
    read = property_read_of x.sheet (level_in x.session x.mode) object id n s

    pub only_property_count :
        (i : ℕ) → Readable x object id i → s ≡ 0 → n ≡ 1 →
        says x 0 (PropertyValueResponse object id n s) (bytes_of 2 (property.count of entry x.sheet properties i)) ≡ step x
    unfolding step_by
    only_property_count i p z o =
        step_read x _ r _ (property_read_count ok object id i (keyed x object id i p.found) _ n s (opened i p) z o)

    pub only_property_read :
        (i : ℕ) → Readable x object id i → Elements (property.count of entry x.sheet properties i) n s →
        n * property.element of entry x.sheet properties i ≤ 10 →
        says x 0 (PropertyValueResponse object id n s)
        (part x.sheet (element_at (entry x.sheet properties i) s) (n * property.element of entry x.sheet properties i))
        ≡ step x
    unfolding step_by
    only_property_read i p m l =
        step_read x _ r _
        (property_read_elements ok object id i (keyed x object id i p.found) _ n s (opened i p) (among m) l)

    -- what is allowed is not denied
    read_not_denied : ReadAllowed x object id n s → read ≡ no_value object id s → ⊥
    read_not_denied (ReadAllowed.of_count i p z o) e =
        let f = property_read_count ok object id i (keyed x object id i p.found) _ n s (opened i p) z o in
        let z : ◌≡◌ {A = ℕ} 0 11 = ap (λ (k : Decision). k.outcome) (sym f ∙ e) in
        omega arith
    read_not_denied (ReadAllowed.of_elements i p m l) e =
        let f = property_read_elements ok object id i (keyed x object id i p.found) _ n s (opened i p) (among m) l in
        let z : ◌≡◌ {A = ℕ} 0 11 = ap (λ (k : Decision). k.outcome) (sym f ∙ e) in
        omega arith

    module _ (hs : Octets x.sheet) (ha : Octets x.apdu) where
      readable : (i : ℕ) → Keyed x.sheet object id i → Open i → Readable x object id i
      readable i k l =
          record {
            found = unkeyed x object id i hs (read_id x.apdu ha object id n s (reading x.apdu _ r.reads)) k;
            level = level_in x.session x.mode;
            acts = acts x;
            suffices = l;
          }

      pub only_no_property_read : (ReadAllowed x object id n s → ⊥) → says x 11 (PropertyValueResponse object id 0 s) [] ≡ step x
      unfolding step_by
      only_no_property_read f =
          step_read x _ r _
          (property_read_cases x.sheet _ object id n s (λ (k : Decision). k ≡ no_value object id s)
          (λ i k l z o. absurd (f (ReadAllowed.of_count i (readable i k l) z o)))
          (λ i k l m b. absurd (f (ReadAllowed.of_elements i (readable i k l) (elements _ n s m) b)))
          refl)

      pub right_property_read : PropertiesDue x (step_by x.sheet x.session (given x (PropertyValueRead object id n s)) read)
      unfolding step_by
      right_property_read =
          property_read_cases x.sheet (level_in x.session x.mode) object id n s
          (λ (k : Decision). read ≡ k → PropertiesDue x (step_by x.sheet x.session (given x (PropertyValueRead object id n s)) k))
          (λ i k l z o e. rw (z, o) (property_count object id i (rw (z, o) at r) (readable i k l)))
          (λ i k l m b e. property_read object id n s i r (readable i k l) (elements _ n s m) b)
          (λ e. no_property_read object id n s r (λ a. read_not_denied a e))
          refl

  -- WRITING
  freed : (i : ℕ) → Writable x object id i → Free (entry x.sheet properties i) (level_in x.session x.mode)
  freed i p = record { bit7 = p.bit7; suffices = acts_at_lem x _ p.acts p.suffices }

  cleared :
      (i : ℕ) → Reads x (PropertyValueWrite object id 1 0) → Writable x object id i →
      given x (PropertyValueWrite object id 1 0) ≡ 0 ∷ 0 ∷ [] →
      PropertiesDue x
      (says_after x (splice x.sheet (place x.sheet properties i + (property.count).at) (0 ∷ 0 ∷ [])) (PropertyValueResponse object id 1 0)
      (given x (PropertyValueWrite object id 1 0)))
  cleared i r w c = rw c (property_clear object id i r w c)

  module _ (n s : ℕ) (r : Reads x (PropertyValueWrite object id n s)) where
    abbrev d : List ℕ
    d = given x (PropertyValueWrite object id n s)

    ok' : Good x.sheet
    ok' = good x.sheet r.ready.sheet

    abbrev write : Decision
    write = property_write_of x.sheet (level_in x.session x.mode) object id n s d

    pub only_property_clear :
        (i : ℕ) → Writable x object id i → s ≡ 0 → n ≡ 1 → d ≡ 0 ∷ 0 ∷ [] →
        says_after x (splice x.sheet (place x.sheet properties i + (property.count).at) (0 ∷ 0 ∷ [])) (PropertyValueResponse object id n s) (0 ∷ 0 ∷ []) ≡ step x
    unfolding step_by num_at
    only_property_clear i p z o e =
        ap (says_after x (splice x.sheet (place x.sheet properties i + (property.count).at) (0 ∷ 0 ∷ [])) (PropertyValueResponse object id n s)) (sym e)
        ∙ step_read x _ r _
        (property_write_clear ok' object id i (keyed x object id i p.found) _ n s d (freed i p) z o (ap length e) (ap (λ (l : List ℕ). num_at l 0 2) e))

    -- one run of zeros and data is what is due, after which the count is stored
    wrote : ℕ → List ℕ → Step
    wrote i t =
        says_after x
        (splice t (place x.sheet properties i + (property.count).at) (bytes_of 2 (max (property.count of entry x.sheet properties i) (s + n - 1))))
        (PropertyValueResponse object id n s) d

    two_stores :
        (i : ℕ) → i < count x.sheet properties → 1 ≤ s →
        store_of x.sheet d (run_in (entry x.sheet properties i) s)
        ≡ splice (zeroed x.sheet (entry x.sheet properties i) s) (element_at (entry x.sheet properties i) s) d
    two_stores i h low =
        zeros_and_data x.sheet d (property.offset of entry x.sheet properties i) (property.element of entry x.sheet properties i)
        (property.count of entry x.sheet properties i) s low (counted_within ok' i h)

    pub only_property_write :
        (i : ℕ) → Writable x object id i → Elements (property.maximum of entry x.sheet properties i) n s →
        length d ≡ n * property.element of entry x.sheet properties i →
        says_after x
        (splice (splice (zeroed x.sheet (entry x.sheet properties i) s) (element_at (entry x.sheet properties i) s) d)
        (place x.sheet properties i + (property.count).at)
        (bytes_of 2 (max (property.count of entry x.sheet properties i) (s + n - 1))))
        (PropertyValueResponse object id n s) d
        ≡ step x
    unfolding step_by wrote
    only_property_write i p m l =
        ap (wrote i) (sym (two_stores i p.found.there m.start))
        ∙ step_read x _ r _
        (property_write_elements ok' object id i (keyed x object id i p.found) _ n s d (freed i p) (among m) l)

    write_not_denied : WriteAllowed x object id n s d → write ≡ no_value object id s → ⊥
    unfolding num_at
    write_not_denied (WriteAllowed.of_count i p z o c) e =
        let f = property_write_clear ok' object id i (keyed x object id i p.found) _ n s d (freed i p) z o (ap length c) (ap (λ (l : List ℕ). num_at l 0 2) c) in
        let z : ◌≡◌ {A = ℕ} 0 11 = ap (λ (k : Decision). k.outcome) (sym f ∙ e) in
        omega arith
    write_not_denied (WriteAllowed.of_elements i p m l) e =
        let f = property_write_elements ok' object id i (keyed x object id i p.found) _ n s d (freed i p) (among m) l in
        let z : ◌≡◌ {A = ℕ} 0 11 = ap (λ (k : Decision). k.outcome) (sym f ∙ e) in
        omega arith

    module _ (hs : Octets x.sheet) (ha : Octets x.apdu) where
      writable : (i : ℕ) → Keyed x.sheet object id i → Free (entry x.sheet properties i) (level_in x.session x.mode) → Writable x object id i
      writable i k w =
          record {
            found = unkeyed x object id i hs (write_id x.apdu ha object id n s (reading x.apdu _ r.reads)) k;
            bit7 = w.bit7;
            level = level_in x.session x.mode;
            acts = acts x;
            suffices = w.suffices;
          }

      pub only_no_property_write : (WriteAllowed x object id n s d → ⊥) → says x 11 (PropertyValueResponse object id 0 s) [] ≡ step x
      unfolding step_by
      only_no_property_write f =
          step_read x _ r _
          (property_write_cases x.sheet _ object id n s (λ (k : Decision). k ≡ no_value object id s) d
          (λ i k w z o l v. absurd (f (WriteAllowed.of_count i (writable i k w) z o (two_zeros d l v))))
          (λ i k w m l. absurd (f (WriteAllowed.of_elements i (writable i k w) (elements _ n s m) l)))
          refl)

      pub right_property_write : PropertiesDue x (step_by x.sheet x.session d write)
      unfolding step_by wrote
      right_property_write =
          property_write_cases x.sheet (level_in x.session x.mode) object id n s
          (λ (k : Decision). write ≡ k → PropertiesDue x (step_by x.sheet x.session d k)) d
          (λ i k w z o l v e. let c = two_zeros d l v in rw (z, o) (cleared i (rw (z, o) at r) (writable i k w) (rw (z, o) at c)))
          (λ i k w m l e.
          subst (λ (t : List ℕ). PropertiesDue x (wrote i t)) (sym (two_stores i k.there m.start))
          (property_write object id n s i d r (writable i k w) refl (elements _ n s m) l))
          (λ e. no_property_write object id n s r (λ a. write_not_denied a e))
          refl
