-- THE EVENT OF A FRAME, or the number of why there is none.
use Rattle.std.specs.Prelude.{ℕ, ◌+◌, Bool, cond, not, ◌&&◌, ◌||◌, List, length, leb, eqb, Result, Ok, Err}
use Rattle.sheet.specs.Layout.{◌of◌}
use Rattle.sheet.specs.Head as head
use Rattle.device.specs.Sessions.{known}
use Rattle.cemi.specs.Read.{read_frame}
use Rattle.cemi.specs.Meaning.{connected, meaning_of}
use Rattle.cemi.specs.declared.Frame.{Frame}
use Rattle.cemi.specs.declared.ReadRefusal.{ReadRefusal}
use Rattle.cemi.specs.Refusal.{read_number, none_number}
use Rattle.cemi.specs.declared.Meaning.{Meaning}
use Rattle.cemi.specs.declared.Meaning.TheVariants as meaning
use Rattle.cemi.specs.declared.NoMeaning.{NoMeaning}
use Rattle.link.specs.Partners.{nobody, place_of, place_for}
use Rattle.link.specs.declared.Link.{Link}
use Rattle.link.specs.declared.Arrived.{Arrived}
use Rattle.link.specs.declared.Arrived.TheVariants.{Request, Connect, Disconnect, Nothing}

-- THE OWN ADDRESS: the sheet's as it stands, accepted or not; 0 where the sheet ends before it
unfoldable pub own_of : List ℕ → ℕ
own_of s = cond (leb ((head.address).at + (head.address).width) (length s)) (head.address of s) 0

-- bit 7 of control 2 says that the destination is a group; an individual address is this device's or another's
unfoldable pub for_us : ℕ → ℕ → ℕ → Bool
for_us control2 destination own = leb 128 control2 || eqb destination own

-- a frame to the device alone is its own if it has its address for source; to a group anybody's is another's
unfoldable pub to_itself : ℕ → ℕ → ℕ → Bool
to_itself control2 source own = not (leb 128 control2) && eqb source own

-- data in a mode from the address that has connection c: connected data is a partner's alone, else 61
unfoldable pub on_place : ℕ → ℕ → ℕ → Arrived
on_place mode c group =
    cond (eqb mode connected) (cond (known c) (Request mode c group) (Nothing 61 nobody)) (Request mode nobody group)

-- a connect that gets connection c: 62 turns a third partner away
unfoldable pub connects : ℕ → Arrived
connects c = cond (known c) (Connect c) (Nothing 62 nobody)

-- a disconnect by the address that has connection c: 63 by a stranger
unfoldable pub disconnects : ℕ → Arrived
disconnects c = cond (known c) (Disconnect c) (Nothing 63 nobody)

-- what a frame for this device means to it, by source and destination; of what transport alone deals with, 44 and 45, the sender's connection is told
unfoldable pub meant : Link → ℕ → ℕ → Result Meaning NoMeaning → Arrived
meant k source group (Ok (meaning.Data mode)) = on_place mode (place_of k source) group
meant k source group (Ok meaning.Connect) = connects (place_for k source)
meant k source group (Ok meaning.Disconnect) = disconnects (place_of k source)
meant k source group (Err e) = Nothing (none_number e) (place_of k source)

-- a frame that reads and is for this device: 65 from itself to itself alone
unfoldable pub from_other : Link → ℕ → Frame → Arrived
from_other k own f =
    cond (to_itself f.fields.control2 f.fields.source own) (Nothing 65 nobody)
    (meant k f.fields.source f.fields.destination (meaning_of f))

-- a frame that reads: 60 for another device, before all else
unfoldable pub judged : Link → ℕ → Frame → Arrived
judged k own f =
    cond (for_us f.fields.control2 f.fields.destination own) (from_other k own f) (Nothing 60 nobody)

unfoldable pub heard_got : Link → ℕ → Result Frame ReadRefusal → Arrived
heard_got k own (Ok f) = judged k own f
heard_got k own (Err e) = Nothing (read_number e) nobody

-- THE EVENT OF A FRAME b for the device with the address `own`
unfoldable pub heard_of : Link → ℕ → List ℕ → Arrived
heard_of k own b = heard_got k own (read_frame b)
