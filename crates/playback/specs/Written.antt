-- A TRACE WRITTEN FROM EVENTS, and the events that a trace can hold.
use Rattle.std.specs.Prelude.{ℕ, ◌+◌, ◌*◌, ◌≤◌, ◌<◌, ◌≡◌, true, false, List, [], ◌∷◌, ◌++◌, length}
use Rattle.octets.specs.Bytes.{bytes_of}
use Rattle.sheet.specs.Layout.{Field}
use Rattle.events.specs.Events.{Event, connect, disconnect, button, request, restore}
use Rattle.playback.specs.Entry as entry
use Rattle.playback.specs.Trace.{events, place, blank}

-- the bytes of numbers in fields end to end
unfoldable pub bytes_in : List Field → List ℕ → List ℕ
bytes_in [] x = []
bytes_in (f ∷ fs) [] = []
bytes_in (f ∷ fs) (n ∷ x) = bytes_of f.width n ++ bytes_in fs x

-- the APDU that an event has
abbrev pub apdu : Event → List ℕ
apdu (connect c) = []
apdu (disconnect c) = []
apdu (button on) = []
apdu (request mode c group a out) = a
apdu (restore c n st) = []

-- the numbers of an event's entry in the order of its table, the APDU beginning at z; no entry says a restore
abbrev pub numbers_of : ℕ → Event → List ℕ
numbers_of z (connect c) = 1 ∷ (c * 16) ∷ 0 ∷ z ∷ 0 ∷ 0 ∷ []
numbers_of z (disconnect c) = 2 ∷ (c * 16) ∷ 0 ∷ z ∷ 0 ∷ 0 ∷ []
numbers_of z (button true) = 3 ∷ 0 ∷ 0 ∷ z ∷ 0 ∷ 0 ∷ []
numbers_of z (button false) = 4 ∷ 0 ∷ 0 ∷ z ∷ 0 ∷ 0 ∷ []
numbers_of z (request mode c group a out) = 0 ∷ (c * 16 + mode) ∷ group ∷ z ∷ length a ∷ 0 ∷ []
numbers_of z (restore c n st) = 0 ∷ 0 ∷ 0 ∷ z ∷ 0 ∷ 0 ∷ []

unfoldable pub entries_for : ℕ → List Event → List ℕ
entries_for z [] = []
entries_for z (e ∷ es) = bytes_in entry.table (numbers_of z e) ++ entries_for (z + length (apdu e)) es

unfoldable pub apdus_of : List Event → List ℕ
apdus_of [] = []
apdus_of (e ∷ es) = apdu e ++ apdus_of es

-- THE TRACE OF EVENTS: their number, the entries, the APDUs
unfoldable pub written : List Event → List ℕ
written es = bytes_of events.width (length es) ++ (entries_for (place (length es)) es ++ apdus_of es)

-- an event that an entry can say: its numbers fit, and its answer buffer is the one that a trace gives
abbrev pub CanSay : Event → Type 0
CanSay (connect c) = c < 16
CanSay (disconnect c) = c < 16
CanSay (button on) = Unit {0}
CanSay (request mode c group a out) = (mode < 16) × (c < 16) × (group < 65536) × (length a < 256) × (out ≡ blank)
CanSay (restore c n st) = ⊥

-- and each APDU begins at a number of two bytes, the first at z
abbrev pub CanSayAll : ℕ → List Event → Type 0
CanSayAll z [] = Unit {0}
CanSayAll z (e ∷ es) = (z < 65536) × CanSay e × CanSayAll (z + length (apdu e)) es

-- EVENTS THAT A TRACE CAN HOLD
pub record CanHold (es : List Event) : Type 0 where
  pub few : length es ≤ 512
  pub each : CanSayAll (place (length es)) es
