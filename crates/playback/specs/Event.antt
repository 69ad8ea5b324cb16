-- What the calls for one event are told and tell.
use Rattle.std.specs.Prelude.{ℕ, ◌+◌, ◌-◌, ◌*◌, ◌≤◌, ◌≡◌, Bool, cond, List, [], ◌∷◌, eqb, length, get_or}
use Rattle.octets.specs.Splice.{splice}
use Rattle.sheet.specs.Layout.{◌of◌}
use Rattle.sheet.specs.Head as head
use Rattle.device.specs.Events.{Did, button_outcome, button_sheet}
use Rattle.events.specs.Events.{Event, event_of, after, run}
use Rattle.device.specs.declared.Sessions.{Sessions}
use Rattle.device.specs.Changed.{part, none, Outside}
use Rattle.device.specs.declared.Changed.{Changed}
use Rattle.device.specs.declared.Made.{Made}
use Rattle.playback.specs.Entry as entry
use Rattle.playback.specs.Trace.{count, room, event_at, events_from}
use Rattle.playback.specs.Rules.{Playable}
use Rattle.playback.specs.Playing.{at, line, line_of, log_of, due_of}
use Rattle.account.specs.Marks.{both, MarkedRun}

-- the parts that the button names, by its outcome
abbrev pub flag_of : ℕ → Changed
flag_of outcome = cond (eqb outcome 1) (record { first = part (head.flags).at 1; second = part 0 0 }) none

-- the button was pressed, as an event of q's
pub record Presses (q : Sessions) (s : List ℕ) (on : Bool) (r : Made) (s' : List ℕ) : Type 0 where
  pub outcome : r.done.outcome ≡ button_outcome s
  pub count : r.done.count ≡ 0
  pub sessions : r.done.sessions ≡ q
  pub sheet : s' ≡ button_sheet s on
  pub changed : r.changed ≡ flag_of r.done.outcome

-- the parts c name all that has changed, and lie in the sheet
pub record Names (s : List ℕ) (c : Changed) (s' : List ℕ) : Type 0 where
  pub outside : (i : ℕ) → Outside c i → get_or s' i 0 ≡ get_or s i 0
  pub first : c.first.offset + c.first.length ≤ length s
  pub second : c.second.offset + c.second.length ≤ length s

-- an event happened, the answer buffer having been `out`
pub record Happens (q : Sessions) (s : List ℕ) (e : Event) (r : Made) (out s' out' : List ℕ) : Type 0 where
  pub did : Did (event_of (at q s) e) r.done out s' out'
  pub few : r.done.count ≤ room
  pub named : Names s r.changed s'

-- an entry e whose event can be read off the trace
pub record Readable (t e : List ℕ) : Type 0 where
  pub long : length e ≡ entry.size
  pub kind : entry.kind of e ≤ 4
  pub within : entry.offset of e + entry.length of e ≤ length t

-- event i was played and logged
pub record Logged (q : Sessions) (s t : List ℕ) (i : ℕ) (r : Made) (s' l' : List ℕ) : Type 0 where
  pub state : at r.done.sessions s' ≡ after (at q s) (event_at t i)
  pub line : l' ≡ line_of (event_of (at q s) (event_at t i))
  pub named : Names s r.changed s'

-- n events from `from` on can be played and logged
pub record Ready (t : List ℕ) (from n : ℕ) (log : List ℕ) : Type 0 where
  pub good : Playable t
  pub there : n ≤ count t - from
  pub room : line * n ≤ length log

-- n events are due, and can be
pub record Due (t : List ℕ) (from limit : ℕ) (log : List ℕ) (n : ℕ) : Type 0 where
  pub ready : Ready t from n log
  pub is : n ≡ due_of t from limit

-- they were
pub record Ran (q : Sessions) (s t : List ℕ) (from n : ℕ) (log : List ℕ) (r : Sessions) (s' log' : List ℕ) : Type 0 where
  pub state : at r s' ≡ run (at q s) (events_from t from n)
  pub logged : log' ≡ splice log 0 (log_of (at q s) (events_from t from n))

-- room and numbers for the marks of n events on a sheet s that was seen last as b
pub record Roomy (s : List ℕ) (n played : ℕ) (b m : List ℕ) : Type 0 where
  pub seen : b ≡ s
  pub marks : length m ≡ length s + both
  pub numbers : played + n ≤ 4294967295

-- event i was played, logged and marked
pub record MarkedEvent (q : Sessions) (s t : List ℕ) (i played : ℕ) (m : List ℕ) (r : Sessions) (s' l' b' m' : List ℕ) : Type 0 where
  pub state : at r s' ≡ after (at q s) (event_at t i)
  pub line : l' ≡ line_of (event_of (at q s) (event_at t i))
  pub seen : b' ≡ s'
  pub marks : MarkedRun (at q s) (event_at t i ∷ []) played (length s) m m'

-- n events were
pub record RanMarked (q : Sessions) (s t : List ℕ) (from n : ℕ) (log : List ℕ) (played : ℕ) (m : List ℕ) (r : Sessions) (s' log' b' m' : List ℕ) : Type 0 where
  pub ran : Ran q s t from n log r s' log'
  pub seen : b' ≡ s'
  pub marks : MarkedRun (at q s) (events_from t from n) played (length s) m m'
