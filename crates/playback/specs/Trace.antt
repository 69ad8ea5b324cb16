-- A TRACE: the number of events, a table with an entry for each, then the APDUs end to end.
use Rattle.std.specs.Prelude.{ℕ, zero, suc, ◌+◌, ◌*◌, ◌/◌, ◌%◌, cond, List, [], ◌∷◌, eqb, take, drop, replicate}
use Rattle.sheet.specs.Layout.{Field, field, ◌of◌}
use Rattle.events.specs.Events.{Event, connect, disconnect, button, request}
use Rattle.playback.specs.Entry as entry

-- the number of events
abbrev pub head : ℕ
head = 2

abbrev pub events : Field
events = field 0 2

abbrev pub count : List ℕ → ℕ
count t = events of t

-- where entry i stands
abbrev pub place : ℕ → ℕ
place i = head + entry.size * i

unfoldable pub entry_of : List ℕ → ℕ → List ℕ
entry_of t i = take entry.size (drop (place i) t)

-- the answer buffer of a request
abbrev pub room : ℕ
room = 16

abbrev pub blank : List ℕ
blank = replicate room 0

-- an event by its kind
abbrev pub event_by : ℕ → ℕ → ℕ → ℕ → List ℕ → Event
event_by k mode c group a =
    cond (eqb k 0) (request mode c group a blank)
    (cond (eqb k 1) (connect c)
    (cond (eqb k 2) (disconnect c)
    (button (eqb k 3))))

abbrev pub apdu_of : List ℕ → List ℕ → List ℕ
apdu_of t e = take (entry.length of e) (drop (entry.offset of e) t)

-- the event that an entry e says
unfoldable pub event_in : List ℕ → List ℕ → Event
event_in t e =
    event_by (entry.kind of e) (entry.mode of e % 16) (entry.mode of e / 16) (entry.group of e) (apdu_of t e)

abbrev pub event_at : List ℕ → ℕ → Event
event_at t i = event_in t (entry_of t i)

-- n events from event i on
unfoldable pub events_from : List ℕ → ℕ → ℕ → List Event
events_from t i zero = []
events_from t i (suc n) = event_at t i ∷ events_from t (i + 1) n

-- THE EVENTS OF A TRACE
unfoldable pub trace_of : List ℕ → List Event
trace_of t = events_from t 0 (count t)
