-- WHAT IS DUE for each event: connect, disconnect, the button, and a request, by the step that is due (`Right`).
use Rattle.std.specs.Prelude.{ℕ, ◌+◌, ◌*◌, ◌<◌, ◌≤◌, ◌≡◌, Bool, true, false, List, [], length, get_or}
use Rattle.sheet.specs.Layout.{◌of◌}
use Rattle.sheet.specs.Head as head
use Rattle.sheet.specs.Rules.{Accepted, Old, Bad}
use Rattle.judge.specs.Session.{connected}
use Rattle.device.specs.Step.{Step}
use Rattle.device.specs.Asked.{Asked}
use Rattle.device.specs.Right.{Right}
use Rattle.device.specs.Sessions.{session_of, session_for}
use Rattle.device.specs.Events.{State, Effect, bit}

-- the session of the connection is open, or closed, at level 3, outcome 1, whatever the sheet; another number gets 7. The other session and the sheet are as found
pub record SessionDue (opened : Bool) (c : ℕ) (x : State) (r : Effect) : Type 0 where
  pub known : c < 2 → (r.outcome ≡ 1) × (session_of r.sessions c ≡ record { opened = opened; level = 3 })
  pub unknown : 2 ≤ c → r.outcome ≡ 7
  pub others : (d : ℕ) → (d ≡ c → ⊥) → session_of r.sessions d ≡ session_of x.sessions d
  pub answer : r.answer ≡ []
  pub sheet : r.sheet ≡ x.sheet

abbrev pub ConnectDue : ℕ → State → Effect → Type 0
ConnectDue = SessionDue true

abbrev pub DisconnectDue : ℕ → State → Effect → Type 0
DisconnectDue = SessionDue false

-- programming mode is on or off, verify and every other byte are as found
pub record Switched (s : List ℕ) (on : Bool) (s' : List ℕ) : Type 0 where
  pub long : length s' ≡ length s
  pub flags : head.flags of s' ≡ head.verify s * 2 + bit on
  pub others : (p : ℕ) → (p ≡ (head.flags).at → ⊥) → get_or s' p 0 ≡ get_or s p 0

-- outcome 4 and the sheet as found if it is bad, 14 if it is old; if it is accepted, outcome 1 and programming mode switched
pub record ButtonDue (on : Bool) (x : State) (r : Effect) : Type 0 where
  pub answer : r.answer ≡ []
  pub sessions : r.sessions ≡ x.sessions
  pub bad_sheet : Bad x.sheet → (r.outcome ≡ 4) × (r.sheet ≡ x.sheet)
  pub old_sheet : Old x.sheet → (r.outcome ≡ 14) × (r.sheet ≡ x.sheet)
  pub accepted : Accepted x.sheet → (r.outcome ≡ 1) × Switched x.sheet on r.sheet

-- a request as it meets a state
abbrev pub asked : State → ℕ → ℕ → ℕ → List ℕ → List ℕ → Asked
asked x mode c group a out = record { room = length out; sheet = x.sheet; session = session_for x.sessions mode c; mode = mode; group = group; apdu = a }

-- a step is due on the session that it meets. A restart closes both sessions; else a connected request leaves its connection the session of the step, and every other session is as found
pub record RequestDue (mode c group : ℕ) (a out : List ℕ) (x : State) (r : Effect) : Type 0 where
  pub step : Step
  pub due : Right (asked x mode c group a out) step
  pub outcome : r.outcome ≡ step.outcome
  pub answer : r.answer ≡ step.answer
  pub sheet : r.sheet ≡ step.sheet
  pub restarted : step.restarts ≡ true → (d : ℕ) → session_of r.sessions d ≡ record { opened = false; level = 3 }
  pub own : step.restarts ≡ false → mode ≡ connected → c < 2 → session_of r.sessions c ≡ step.session
  pub others : step.restarts ≡ false → (d : ℕ) → (mode ≡ connected → d ≡ c → ⊥) → session_of r.sessions d ≡ session_of x.sessions d
