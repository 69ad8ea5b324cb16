-- EVENTS: what reaches a device, a step over one, and a run over a list of them.
use Rattle.std.specs.Prelude.{ℕ, List, [], ◌∷◌, Bool}
use Rattle.device.specs.Sessions.{session_of}
use Rattle.device.specs.Events.{Effect, State, connecting, disconnecting, pressing, requesting}
use Rattle.versions.specs.Restoring.{restore_outcome, restore_sheet}

-- a connect and a disconnect come with their connection; a request with its mode, connection, group address, APDU and the answer buffer as found; the button has no connection;
-- a restore with its connection, the number of a version and the store as lent. What saves or removes a version reaches neither sheet nor sessions and is no event
pub data Event : Type 0 where
  connect disconnect : ℕ → Event
  button : Bool → Event
  request : ℕ → ℕ → ℕ → List ℕ → List ℕ → Event
  restore : ℕ → ℕ → List ℕ → Event

-- what a restore gives, by the session of its connection
abbrev pub restoring : State → ℕ → ℕ → List ℕ → Effect
restoring x c n st =
    let q = session_of x.sessions c in
    record { outcome = restore_outcome q x.sheet st n; answer = []; sessions = x.sessions; sheet = restore_sheet q x.sheet st n }

-- a release: what the button, a request and a restore give
pub record Release : Type 0 where
  pub press : State → Bool → Effect
  pub ask : State → ℕ → ℕ → ℕ → List ℕ → List ℕ → Effect
  pub give : State → ℕ → ℕ → List ℕ → Effect

-- an event in a release
abbrev pub event_with : Release → State → Event → Effect
event_with r x (connect c) = connecting x c
event_with r x (disconnect c) = disconnecting x c
event_with r x (button on) = r.press x on
event_with r x (request mode c group a out) = r.ask x mode c group a out
event_with r x (restore c n st) = r.give x c n st

-- what an effect leaves
abbrev pub leaves : Effect → State
leaves r = record { sessions = r.sessions; sheet = r.sheet }

-- a run, the first event first, `next` being what an event leaves
unfoldable pub run_by : (State → Event → State) → State → List Event → State
run_by next x [] = x
run_by next x (e ∷ es) = run_by next (next x e) es

-- ONE EVENT, WHAT IT LEAVES, AND A RUN in this release
unfoldable pub event_of : State → Event → Effect
event_of x e = event_with record { press = pressing; ask = requesting; give = restoring } x e

unfoldable pub after : State → Event → State
after x e = leaves (event_of x e)

abbrev pub run : State → List Event → State
run = run_by after
