-- Property descriptions: what is due is what is done.
use Rattle.octets.proofs.Kit.{ℕ, ◌<◌, ◌≡◌, refl, sym, ap, ◌∙◌, [], arith}
use Rattle.sheet.{specs.{Kind.properties, Layout.◌of◌, Entries.{count, entry}, Lookup.rank}, proofs.rules.Good.{Good, good}}
use Rattle.sheet.specs.Property as property
use Rattle.pdu.{specs.declared.Pdu.TheVariants.{PropertyDescriptionRead, PropertyDescriptionResponse}, proofs.promises.Readings.reading}
use Rattle.judge.{specs.{declared.Decision.Decision, Properties.description_of}, proofs.PropertyCases.{Keyed, Ranked, describes, description_cases, description_by_id, description_by_index}}
use Rattle.judge.specs.Decisions as decisions
use Rattle.device.specs.{Octets.Octets, Step.{Step, step_by}, Asked.{Asked, says, Reads, given}, PropertiesDue.{PropertiesDue, Described, description, no_description}}
use Rattle.device.proofs.due.{Properly.{keyed, unkeyed, describe_id}, Stepped.{step, step_read}}

module _ (x : Asked) (object id index : ℕ) (r : Reads x (PropertyDescriptionRead object id index)) where
  ok : Good x.sheet
  ok = good x.sheet r.ready.sheet

  -- the answer that describes property i, as one of an object
  abbrev shows : ℕ → ℕ → Step
  shows o i =
      says x 0
      (PropertyDescriptionResponse o (property.id of entry x.sheet properties i) (rank x.sheet o i)
      (property.typ of entry x.sheet properties i) (property.maximum of entry x.sheet properties i)
      (property.levels of entry x.sheet properties i)) []

  ranked : (i : ℕ) → i < count x.sheet properties → property.object of entry x.sheet properties i ≡ object → rank x.sheet object i ≡ index → Ranked x.sheet object index i
  ranked i h o e = record { there = h; named = o; rank = e }

  same_object_lem : (i : ℕ) → Described x object id index i → property.object of entry x.sheet properties i ≡ object
  same_object_lem i (Described.by_id z p) = p.same_object
  same_object_lem i (Described.by_index z h o e) = o

  described : (i : ℕ) → Described x object id index i → description_of x.sheet object id index ≡ describes x.sheet i
  described i (Described.by_id z p) = description_by_id ok object id i (keyed x object id i p) index z
  described i (Described.by_index z h o e) = description_by_index x.sheet object id index i z (ranked i h o e)

  pub only_description : (i : ℕ) → Described x object id index i → shows object i ≡ step x
  unfolding step_by
  only_description i h = ap (λ (o : ℕ). shows o i) (sym (same_object_lem i h)) ∙ step_read x _ r _ (described i h)

  module _ (hs : Octets x.sheet) (ha : Octets x.apdu) where
    by_id_lem : (i : ℕ) → (id ≡ 0 → ⊥) → Keyed x.sheet object id i → Described x object id index i
    by_id_lem i z k =
        Described.by_id z (unkeyed x object id i hs (describe_id x.apdu ha object id index (reading x.apdu _ r.reads)) k)

    by_index_lem : (i : ℕ) → id ≡ 0 → Ranked x.sheet object index i → Described x object id index i
    by_index_lem i z k = Described.by_index z k.there k.named k.rank

    pub only_no_description :
        ((i : ℕ) → Described x object id index i → ⊥) → says x 11 (PropertyDescriptionResponse object id index 0 0 0) [] ≡ step x
    unfolding step_by
    only_no_description f =
        step_read x _ r _
        (description_cases x.sheet object id index
        (λ (k : Decision). k ≡ decisions.denied (PropertyDescriptionResponse object id index 0 0 0))
        (λ i z k. absurd (f i (by_id_lem i z k)))
        (λ i z k. absurd (f i (by_index_lem i z k)))
        refl)

    due : (i : ℕ) → Described x object id index i → PropertiesDue x (shows (property.object of entry x.sheet properties i) i)
    due i h = rw (same_object_lem i h) (description object id index i r h)

    pub right_description :
        PropertiesDue x
        (step_by x.sheet x.session (given x (PropertyDescriptionRead object id index)) (description_of x.sheet object id index))
    unfolding step_by
    right_description =
        description_cases x.sheet object id index
        (λ (k : Decision). description_of x.sheet object id index ≡ k → PropertiesDue x (step_by x.sheet x.session (given x (PropertyDescriptionRead object id index)) k))
        (λ i z k e. due i (by_id_lem i z k))
        (λ i z k e. due i (by_index_lem i z k))
        (λ e.
        no_description object id index r
        (λ i h. let z : ◌≡◌ {A = ℕ} 0 11 = ap (λ (k : Decision). k.outcome) (sym (described i h) ∙ e) in omega arith))
        refl
