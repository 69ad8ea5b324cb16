-- A MODEL OF THE RELEASE BEFORE, which served old sheets: a release by the number that it refuses a sheet by, all else being as in this one.
use Rattle.std.specs.Prelude.{ℕ, ◌≡◌, List, [], length}
use Rattle.sheet.specs.Rules.{refusal_before}
use Rattle.sheet.specs.Convert.{conversion_of}
use Rattle.device.specs.Sessions.{session_of, session_for}
use Rattle.device.specs.Step.{step_with}
use Rattle.device.specs.Events.{State, Effect, press_outcome, press_sheet, effect_of}
use Rattle.versions.specs.Restoring.{restore_by, left_by}
use Rattle.events.specs.Events.{Event, Release, event_with, leaves, run_by}

-- A RELEASE THAT REFUSES A SHEET BY WHAT `by` SAYS OF IT, 0 for no refusal
abbrev pub refusing : (List ℕ → ℕ) → Release
refusing by =
    record {
      press = λ x on.
          let n = by x.sheet in
          record { outcome = press_outcome n; answer = []; sessions = x.sessions; sheet = press_sheet n x.sheet on };
      ask = λ x mode c group a out.
          effect_of x.sessions mode c (step_with (by x.sheet) (length out) x.sheet (session_for x.sessions mode c) mode group a);
      give = λ x c n st.
          let r = restore_by (by x.sheet) (session_of x.sessions c) x.sheet st n in
          record { outcome = r; answer = []; sessions = x.sessions; sheet = left_by r x.sheet st n };
    }

-- an event, and a run, in the release before
unfoldable pub event_before : State → Event → Effect
event_before x e = event_with (refusing refusal_before) x e

abbrev pub run_before : State → List Event → State
run_before = run_by (λ x e. leaves (event_before x e))

-- r' IS AS r WAS: outcome, answer and sessions, and the sheet with 2 in byte 0
pub record AsBefore (r r' : Effect) : Type 0 where
  pub outcome : r'.outcome ≡ r.outcome
  pub answer : r'.answer ≡ r.answer
  pub sessions : r'.sessions ≡ r.sessions
  pub sheet : r'.sheet ≡ conversion_of r.sheet
