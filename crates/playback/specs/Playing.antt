-- PLAYING BACK: which events are played, what they leave, and what is logged.
use Rattle.std.specs.Prelude.{ℕ, ◌-◌, ◌*◌, min, ◌≡◌, cond, List, [], ◌∷◌, ◌++◌, eqb, length, take, drop, replicate}
use Rattle.octets.specs.Splice.{splice}
use Rattle.sheet.specs.Demand.{Demand, ◌≼◌, ◌⦂◌, breach}
use Rattle.sheet.specs.First.{or_else}
use Rattle.device.specs.Octets.{Octets}
use Rattle.device.specs.Events.{Effect, State}
use Rattle.events.specs.Events.{Event, event_of, after, run}
use Rattle.device.specs.declared.Sessions.{Sessions}
use Rattle.playback.specs.Trace.{count, room, trace_of}
use Rattle.playback.specs.Rules.{refusal_of}
use Rattle.playback.specs.Outcome.{Outcome}

-- a line of the log: the outcome, how many bytes were answered, and these, with zeros behind them
abbrev pub line : ℕ
line = 18

unfoldable pub line_of : Effect → List ℕ
line_of x = x.outcome ∷ length x.answer ∷ (x.answer ++ replicate (room - length x.answer) 0)

-- THE LOG of events from a state on
unfoldable pub log_of : State → List Event → List ℕ
log_of x [] = []
log_of x (e ∷ es) = line_of (event_of x e) ++ log_of (after x e) es

-- how many events are to be played: the smaller of the limit and the number not yet played, `from` having been
abbrev pub due_of : List ℕ → ℕ → ℕ → ℕ
due_of t from limit = min limit (count t - from)

abbrev pub room_demands : List ℕ → ℕ → ℕ → List ℕ → List Demand
room_demands t from limit log = (59 ⦂ line * due_of t from limit ≼ length log) ∷ []

-- THE REFUSAL, and 0 if there is none: the trace's, then that of a log which is too short
unfoldable pub refusal_in : List ℕ → ℕ → ℕ → List ℕ → ℕ
refusal_in t from limit log = or_else (refusal_of t) (breach (room_demands t from limit log))

-- HOW MANY EVENTS ARE HANDLED, and which
unfoldable pub handled_of : List ℕ → ℕ → ℕ → List ℕ → ℕ
handled_of t from limit log = cond (eqb (refusal_in t from limit log) 0) (due_of t from limit) 0

unfoldable pub played_of : List ℕ → ℕ → ℕ → List ℕ → List Event
played_of t from limit log = take (handled_of t from limit log) (drop from (trace_of t))

abbrev pub at : Sessions → List ℕ → State
at q s = record { sessions = q; sheet = s }

-- WHAT PLAYING GIVES AND LEAVES
pub record Playing (q : Sessions) (s t : List ℕ) (from limit : ℕ) (log : List ℕ) (r : Outcome) (s' log' : List ℕ) : Type 0 where
  pub refusal : r.refusal ≡ refusal_in t from limit log
  pub handled : r.handled ≡ handled_of t from limit log
  pub state : at r.sessions s' ≡ run (at q s) (played_of t from limit log)
  pub logged : log' ≡ splice log 0 (log_of (at q s) (played_of t from limit log))

-- WHAT A CALL DID; sheet and trace being bytes
pub record Plays (q : Sessions) (s t : List ℕ) (from limit : ℕ) (log : List ℕ) (r : Outcome) (s' log' : List ℕ) : Type 0 where
  pub did : Playing q s t from limit log r s' log'
  pub sheet_bytes : Octets s
  pub trace_bytes : Octets t
