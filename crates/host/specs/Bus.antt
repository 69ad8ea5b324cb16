-- What arrived and who sent it, laid flat for C; and what serving a frame gives in C.
use Rattle.std.specs.Prelude.{ℕ, ◌%◌, Bool, false, ◌&&◌, leb, eqb, Result, Ok, Err}
use Rattle.cemi.specs.declared.{Frame.Frame, ReadRefusal.ReadRefusal}
use Rattle.link.specs.declared.Link.{Link}
use Rattle.link.specs.declared.Served.{Served}
use Rattle.link.specs.declared.Arrived.{Arrived}
use Rattle.link.specs.declared.Arrived.TheVariants.{Request, Connect, Disconnect, Nothing}
use Rattle.host.specs.declared.Arrival.{Arrival}
use Rattle.host.specs.Calls.{runs_of}
use Rattle.host.specs.declared.Answered.{Answered}
use Rattle.host.specs.declared.bus.Sender.{Sender}

-- a control that acknowledges, transport's bits being 11ssss and the low ones 11: the frame of that number is asked for again
unfoldable pub refuses : ℕ → ℕ → Bool
refuses t w = leb 48 t && eqb w 3

-- WHO SENT A FRAME, as it reads: its source, the low four bits of transport's six, which are the sequence number where it has one, and whether it refuses; of what does not read nobody
unfoldable pub sender_of : Result Frame ReadRefusal → Sender
sender_of (Ok f) = record { source = f.fields.source; sequence = f.fields.transport % 16; negative = refuses f.fields.transport f.low }
sender_of (Err e) = record { source = 0; sequence = 0; negative = false }

-- the event by its number, as frames have it: the mode of data, 4 a connect, 5 a disconnect, or the number of why there is none
abbrev pub arrival_by : ℕ → ℕ → ℕ → Sender → Arrival
arrival_by event c group s = record { event = event; connection = c; group = group; source = s.source; sequence = s.sequence; negative = s.negative }

unfoldable pub arrival_of : Arrived → Sender → Arrival
arrival_of (Request mode c group) s = arrival_by mode c group s
arrival_of (Connect c) s = arrival_by 4 c 0 s
arrival_of (Disconnect c) s = arrival_by 5 c 0 s
arrival_of (Nothing n c) s = arrival_by n c 0 s

abbrev pub gave_served : Answered → Link → Served
gave_served r k = record { number = r.number; outcome = r.outcome; connection = r.connection; count = r.count; changed = runs_of r.changed; link = k }
