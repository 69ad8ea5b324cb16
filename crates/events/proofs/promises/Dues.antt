-- DEMAND 2 of a restore: what is done is what is due, and nothing else is due. Assumes nothing.
use Rattle.octets.proofs.Kit.{ℕ, ◌≡◌, refl, List}
use Rattle.device.{specs.{Sessions.session_of, Events.{State, Effect}}, proofs.promises.Dues.same_effect}
use Rattle.versions.proofs.promises.Dues as versions
use Rattle.events.specs.{Events.restoring, Due.RestoreDue}

module _ (x : State) (c n : ℕ) (st : List ℕ) where
  pub restore_due : RestoreDue c n st x (restoring x c n st)
  restore_due = record { answer = refl; sessions = refl; step = versions.restore_due (session_of x.sessions c) x.sheet st n }

  pub restore_only : (r : Effect) → RestoreDue c n st x r → r ≡ restoring x c n st
  restore_only r d =
      let k = versions.restore_only (session_of x.sessions c) x.sheet st n r.outcome r.sheet d.step in
      same_effect r (restoring x c n st) k.0 d.answer d.sessions k.1
