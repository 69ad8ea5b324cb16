-- What connects, disconnects, the button and requests give.
use Rattle.std.specs.Prelude.{ℕ, ◌+◌, ◌-◌, ◌≡◌, List, [], Bool, true, false, cond, eqb, length}
use Rattle.octets.specs.Bytes.{bytes_of}
use Rattle.octets.specs.Splice.{splice}
use Rattle.sheet.specs.Rules.{refusal_of}
use Rattle.sheet.specs.Layout.{◌of◌}
use Rattle.sheet.specs.Head as head
use Rattle.device.specs.Octets.{Octets}
use Rattle.device.specs.Step.{Step, step_of}
use Rattle.device.specs.Sessions.{newly_open, closed, known, with_session, session_for, sessions_after}
use Rattle.device.specs.declared.Sessions.{Sessions}
use Rattle.device.specs.declared.Done.{Done}

-- what an event gives: the outcome, the bytes answered, sessions and sheet afterwards
pub record Effect : Type 0 where
  pub outcome : ℕ
  pub answer : List ℕ
  pub sessions : Sessions
  pub sheet : List ℕ

-- a connect and a disconnect name their connection: 7 where there is no such
abbrev pub named_outcome : ℕ → ℕ
named_outcome c = cond (known c) 1 7

-- what the call of one gives back, q being the sessions afterwards
abbrev pub named : ℕ → Sessions → Done
named c q = record { outcome = named_outcome c; count = 0; sessions = q }

abbrev pub connect_of : Sessions → ℕ → Sessions
connect_of q c = with_session q c newly_open

abbrev pub disconnect_of : Sessions → ℕ → Sessions
disconnect_of q c = with_session q c closed

abbrev pub bit : Bool → ℕ
bit true = 1
bit false = 0

-- the sheet with programming mode set or cleared, verify as it was
unfoldable pub pressed : List ℕ → Bool → List ℕ
pressed s on =
    splice s (head.flags).at (bytes_of (head.flags).width (head.flags of s - head.programming s + bit on))

-- the button on a sheet that is refused by n, and if n is 0 by nothing
abbrev pub press_outcome : ℕ → ℕ
press_outcome n = cond (eqb n 0) 1 n

abbrev pub press_sheet : ℕ → List ℕ → Bool → List ℕ
press_sheet n s on = cond (eqb n 0) (pressed s on) s

-- THE BUTTON: 14 on an old sheet, 4 on a bad one, else 1
unfoldable pub button_outcome : List ℕ → ℕ
button_outcome s = press_outcome (refusal_of s)

unfoldable pub button_sheet : List ℕ → Bool → List ℕ
button_sheet s on = press_sheet (refusal_of s) s on

-- what the button did
pub record Pressed (s : List ℕ) (on : Bool) (r : ℕ) (s' : List ℕ) : Type 0 where
  pub outcome : r ≡ button_outcome s
  pub sheet : s' ≡ button_sheet s on

-- what a step gives on the session that it meets
abbrev pub effect_of : Sessions → ℕ → ℕ → Step → Effect
effect_of q mode c r = record { outcome = r.outcome; answer = r.answer; sessions = sessions_after q mode c r; sheet = r.sheet }

-- WHAT A REQUEST GIVES; room is the length of the answer buffer
unfoldable pub request_of : ℕ → List ℕ → Sessions → ℕ → ℕ → ℕ → List ℕ → Effect
request_of room s q mode c group a = effect_of q mode c (step_of room s (session_for q mode c) mode group a)

-- an effect as a call gives it: its result, the sheet and the buffer afterwards, the buffer having been `out`
pub record Did (x : Effect) (r : Done) (out sheet' out' : List ℕ) : Type 0 where
  pub outcome : r.outcome ≡ x.outcome
  pub count : r.count ≡ length x.answer
  pub sessions : r.sessions ≡ x.sessions
  pub sheet : sheet' ≡ x.sheet
  pub answer : out' ≡ splice out 0 x.answer

-- WHAT A CALL DID with a request on connection c of sessions q, of APDU a, sheet s and answer buffer o; sheet and APDU being bytes
pub record Called (q : Sessions) (mode c group : ℕ) (a s o : List ℕ) (r : Done) (s' o' : List ℕ) : Type 0 where
  pub did : Did (request_of (length o) s q mode c group a) r o s' o'
  pub sheet_bytes : Octets s
  pub apdu_bytes : Octets a

pub record State : Type 0 where
  pub sessions : Sessions
  pub sheet : List ℕ

-- WHAT A CONNECT, A DISCONNECT, THE BUTTON AND A REQUEST GIVE; `out` is the answer buffer as found
abbrev pub connecting : State → ℕ → Effect
connecting x c =
    record { outcome = named_outcome c; answer = []; sessions = connect_of x.sessions c; sheet = x.sheet }

abbrev pub disconnecting : State → ℕ → Effect
disconnecting x c =
    record { outcome = named_outcome c; answer = []; sessions = disconnect_of x.sessions c; sheet = x.sheet }

abbrev pub pressing : State → Bool → Effect
pressing x on =
    record { outcome = button_outcome x.sheet; answer = []; sessions = x.sessions; sheet = button_sheet x.sheet on }

abbrev pub requesting : State → ℕ → ℕ → ℕ → List ℕ → List ℕ → Effect
requesting x mode c group a out = request_of (length out) x.sheet x.sessions mode c group a
