-- A STORE BESIDE THE DEVICE: acts that reach the one, the other or both, and two runs of them side by side.
use Rattle.std.specs.Prelude.{ℕ, ◌≡◌, List, [], ◌∷◌, true, false, eqb}
use Rattle.events.specs.Events.{Event, restore}
use Rattle.versions.specs.Saving.{save_store}
use Rattle.versions.specs.Removing.{remove_store}
use Rattle.history.specs.History.{First}
use Rattle.history.specs.Keeps.{Device, state_after}
use Rattle.history.specs.Isolation.{is_of, may_be_of, Alike, Harmless, Seen}

-- an event; whatever changes the store, given the sheet as it then stands, as a save or a remove does; a restore on a connection, by number, from the store as it then stands
pub data Act : Type 0 where
  does : Event → Act
  stores : (List ℕ → List ℕ → List ℕ) → Act
  restores : ℕ → ℕ → Act

-- a save, and a remove of the version with a number
abbrev pub saves : Act
saves = stores save_store

abbrev pub removes : ℕ → Act
removes n = stores (λ s st. remove_store st n)

-- THE EVENTS OF A RUN OF ACTS, AND THE STORE AFTER IT, the newest first, `st` being the store at first
unfoldable mutual
  pub events_of : Device → First → List ℕ → List Act → List Event
  events_of step f st [] = []
  events_of step f st (does e ∷ h) = e ∷ events_of step f st h
  events_of step f st (stores k ∷ h) = events_of step f st h
  events_of step f st (restores c n ∷ h) = restore c n (store_after step f st h) ∷ events_of step f st h

  pub store_after : Device → First → List ℕ → List Act → List ℕ
  store_after step f st [] = st
  store_after step f st (does e ∷ h) = store_after step f st h
  store_after step f st (stores k ∷ h) = k (state_after step f (events_of step f st h)).sheet (store_after step f st h)
  store_after step f st (restores c n ∷ h) = store_after step f st h

-- TWO RUNS from the same store: whatever changes the store is in both; of the tool on connection o, what is harmless may be in one alone; all else is the same in both, in the same order
pub data BesideActs (step : Device) (f : First) (st : List ℕ) (o : ℕ) : List Act → List Act → Type 0 where
  begin : BesideActs step f st o [] []
  stores_both : {h h' : List Act} (k : List ℕ → List ℕ → List ℕ) → BesideActs step f st o h h' → BesideActs step f st o (stores k ∷ h) (stores k ∷ h')
  shared :
      {h h' : List Act} {e e' : Event} → is_of o e ≡ false → Alike e e' → BesideActs step f st o h h' →
      BesideActs step f st o (does e ∷ h) (does e' ∷ h')
  shared_restore : {h h' : List Act} (c n : ℕ) → eqb c o ≡ false → BesideActs step f st o h h' → BesideActs step f st o (restores c n ∷ h) (restores c n ∷ h')
  one_more :
      {h h' : List Act} {e : Event} → may_be_of o e ≡ true → Harmless step f (events_of step f st h) e → BesideActs step f st o h h' →
      BesideActs step f st o (does e ∷ h) h'
  other_more :
      {h h' : List Act} {e : Event} → may_be_of o e ≡ true → Harmless step f (events_of step f st h') e → BesideActs step f st o h h' →
      BesideActs step f st o h (does e ∷ h')
  one_restore :
      {h h' : List Act} (n : ℕ) → Harmless step f (events_of step f st h) (restore o n (store_after step f st h)) → BesideActs step f st o h h' →
      BesideActs step f st o (restores o n ∷ h) h'
  other_restore :
      {h h' : List Act} (n : ℕ) → Harmless step f (events_of step f st h') (restore o n (store_after step f st h')) → BesideActs step f st o h h' →
      BesideActs step f st o h (restores o n ∷ h')

-- ISOLATION WITH A STORE: the tool on connection t sees the same, and the store is the same
abbrev pub ActsIsolated : Device → Type 0
ActsIsolated step =
    (f : First) (st : List ℕ) (t o : ℕ) → (t ≡ o → ⊥) → (h h' : List Act) → BesideActs step f st o h h' →
    Seen step f t o (events_of step f st h) (events_of step f st h') × (store_after step f st h ≡ store_after step f st h')
