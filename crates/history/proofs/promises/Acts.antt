-- TWO TOOLS AND A STORE: from the same store, whatever changes it being the same in both runs, one tool sees the same whatever the other sends that changes nothing.
use Rattle.octets.proofs.Kit.{ℕ, ◌≡◌, refl, sym, ap₂, subst, List, ◌∷◌, eq-eqb}
use Rattle.versions.specs.{Saving.SavedAs, Removing.Removed, declared.saving.Saved.Saved}
use Rattle.events.specs.Events.{Event, restore}
use Rattle.history.specs.{History.First, Keeps.{Device, state_after}, Isolation.{Alike, same, Beside, Seen, Isolated}, Rightful.ours, Acts.{Act, saves, removes, events_of, store_after}}
use Rattle.history.specs.Acts.{BesideActs, begin, stores_both, shared, shared_restore, one_more, other_more, one_restore, other_restore, ActsIsolated}
use Rattle.history.specs.Isolation as runs
use Rattle.history.proofs.promises.Isolated.{isolated}

module _ (step : Device) (apart : Isolated step) (f : First) (st : List ℕ) (t o : ℕ) (two : t ≡ o → ⊥) where
  abbrev Events : List Act → List Event
  Events h = events_of step f st h

  abbrev Store : List Act → List ℕ
  Store h = store_after step f st h

  -- the events of the two runs are side by side, and the stores the same
  both : {h h' : List Act} → BesideActs step f st o h h' → Beside step f o (Events h) (Events h') × (Store h ≡ Store h')
  unfolding events_of store_after
  both begin = (runs.begin, refl)
  both (stores_both k b) =
      let z = both b in
      (z.0, ap₂ k (apart f t o two _ _ z.0).sheet z.1)
  both (shared i a b) = let z = both b in (runs.shared i a z.0, z.1)
  both (shared_restore {h} {h'} c n i b) =
      let z = both b in
      (subst (λ (s : List ℕ). Beside step f o (restore c n (Store h) ∷ Events h) (restore c n s ∷ Events h')) z.1 (runs.shared i (same _) z.0), z.1)
  both (one_more i m b) = let z = both b in (runs.one_more i m z.0, z.1)
  both (other_more i m b) = let z = both b in (runs.other_more i m z.0, z.1)
  both (one_restore n m b) = let z = both b in (runs.one_more (eq-eqb o o refl) m z.0, z.1)
  both (other_restore n m b) = let z = both b in (runs.other_more (eq-eqb o o refl) m z.0, z.1)

  -- WHAT THE TOOL ON CONNECTION t SEES IS THE SAME, AND THE STORE IS
  pub acts_isolated : {h h' : List Act} → BesideActs step f st o h h' → Seen step f t o (Events h) (Events h') × (Store h ≡ Store h')
  acts_isolated b = let z = both b in (apart f t o two _ _ z.0, z.1)

-- OF OUR DEVICE
pub ours_acts : ActsIsolated ours
ours_acts f st t o two h h' b = acts_isolated ours isolated f st t o two b

-- A SAVE AND A REMOVE ARE ACTS: what the calls leave of the store, on what a run of acts left, is what the run with them says; they are no events
module _ (step : Device) (f : First) (st : List ℕ) (h : List Act) where
  pub saves_is :
      (r : Saved) (st' : List ℕ) → SavedAs (state_after step f (events_of step f st h)).sheet (store_after step f st h) r st' →
      (store_after step f st (saves ∷ h) ≡ st') × (events_of step f st (saves ∷ h) ≡ events_of step f st h)
  unfolding events_of store_after
  saves_is r st' c = (sym c.store, refl)

  pub removes_is :
      (n r : ℕ) (st' : List ℕ) → Removed (store_after step f st h) n r st' →
      (store_after step f st (removes n ∷ h) ≡ st') × (events_of step f st (removes n ∷ h) ≡ events_of step f st h)
  unfolding events_of store_after
  removes_is n r st' c = (sym c.store, refl)
