-- WHAT IS DUE for a restore: outcome and sheet as the store's rules have them (`RestoreDue` of versions), by the session of its connection.
use Rattle.std.specs.Prelude.{ℕ, ◌≡◌, List, []}
use Rattle.device.specs.Sessions.{session_of}
use Rattle.device.specs.Events.{State, Effect}
use Rattle.versions.specs.Due as versions

-- nothing is answered, the sessions are as found
pub record RestoreDue (c n : ℕ) (st : List ℕ) (x : State) (r : Effect) : Type 0 where
  pub answer : r.answer ≡ []
  pub sessions : r.sessions ≡ x.sessions
  pub step : versions.RestoreDue (session_of x.sessions c) x.sheet st n r.outcome r.sheet
