-- WHAT FRAMES DO TO LINK AND SHEET, one after the other, with the button, the host's time-outs and its restores between; and the events that they are.
use Rattle.std.specs.Prelude.{ℕ, ◌≤◌, ◌≡◌, Bool, cond, List, [], ◌∷◌, ◌++◌, replicate, eqb}
use Rattle.sheet.specs.Layout.{◌of◌}
use Rattle.sheet.specs.Head as head
use Rattle.octets.specs.Octets.{Octets}
use Rattle.device.specs.Events.{State}
use Rattle.events.specs.Events.{Event, connect, disconnect, button, request, restore, run}
use Rattle.history.specs.Wish.{offer_key, asks}
use Rattle.history.specs.History.{First}
use Rattle.cemi.specs.Read.{fields_in}
use Rattle.link.specs.Hearing.{own_of, heard_of}
use Rattle.link.specs.Serving.{most, apdu_of}
use Rattle.link.specs.declared.Link.{Link}
use Rattle.link.specs.declared.Arrived.{Arrived}
use Rattle.link.specs.declared.Arrived.TheVariants.{Request, Connect, Disconnect, Nothing}

-- link and sheet; the same as a state of the device, and as a history begins
pub record Net : Type 0 where
  pub link : Link
  pub sheet : List ℕ

abbrev pub net_of : Link → List ℕ → Net
net_of k s = record { link = k; sheet = s }

abbrev pub state_of : Net → State
state_of x = record { sessions = x.link.sessions; sheet = x.sheet }

abbrev pub first_net : Net → First
first_net x = record { sheet = x.sheet; sessions = x.link.sessions }

-- the sender of a frame
abbrev pub source_of : List ℕ → ℕ
source_of b = (fields_in b).source

-- what a frame is to the device whose address is the sheet's as it then stands
unfoldable pub heard_in : Net → List ℕ → Arrived
heard_in x b = heard_of x.link (own_of x.sheet) b

-- the event, if there is one
abbrev pub events_of : Arrived → List ℕ → List Event
events_of (Request mode c group) a = request mode c group a (replicate most 0) ∷ []
events_of (Connect c) a = connect c ∷ []
events_of (Disconnect c) a = disconnect c ∷ []
events_of (Nothing n c) a = []

-- the address that connected last on c, having been `old`: a connect alone sets it
abbrev pub address_by : ℕ → ℕ → Arrived → ℕ → ℕ
address_by c a (Request mode d group) old = old
address_by c a (Connect d) old = cond (eqb d c) a old
address_by c a (Disconnect d) old = old
address_by c a (Nothing n d) old = old

-- what happens to a device: a frame, the button, the host's time-out of a connection, a restore that the host asks for on behalf of one
pub data Item : Type 0 where
  frame : List ℕ → Item
  press : Bool → Item
  time_out : ℕ → Item
  give_back : ℕ → ℕ → List ℕ → Item

abbrev pub events_by : Net → Item → List Event
events_by x (frame b) = events_of (heard_in x b) (apdu_of b)
events_by x (press on) = button on ∷ []
events_by x (time_out c) = disconnect c ∷ []
events_by x (give_back c n st) = restore c n st ∷ []

-- the addresses after it
abbrev pub address_after : Net → Item → ℕ → ℕ → ℕ
address_after x (frame b) c old = address_by c (source_of b) (heard_in x b) old
address_after x (press on) c old = old
address_after x (time_out d) c old = old
address_after x (give_back d n st) c old = old

-- ONE OF THEM, and all of a history, the newest first
unfoldable pub net_by : Net → Item → Net
net_by x i =
    let y = run (state_of x) (events_by x i) in
    record {
      link = record { sessions = y.sessions; first = address_after x i 0 x.link.first; second = address_after x i 1 x.link.second };
      sheet = y.sheet;
    }

unfoldable pub net_after : Net → List Item → Net
net_after x [] = x
net_after x (i ∷ h) = net_by (net_after x h) i

-- THE EVENTS THAT THEY ARE, the newest first
unfoldable pub events_after : Net → List Item → List Event
events_after x [] = []
events_after x (i ∷ h) = events_by (net_after x h) i ++ events_after x h

-- every frame and every store is a list of bytes
abbrev pub BytesIn : Item → Type 0
BytesIn (frame b) = Octets b
BytesIn (press on) = Unit {0}
BytesIn (time_out c) = Unit {0}
BytesIn (give_back c n st) = Octets st

abbrev pub AllBytes : List Item → Type 0
AllBytes [] = Unit {0}
AllBytes (i ∷ h) = BytesIn i × AllBytes h

-- NO FRAME, from whomever, to whomever, offers a key of a level up to l as it stands in the first sheet
abbrev pub NoKeyIn : List ℕ → ℕ → Item → Type 0
NoKeyIn s l (frame b) = (k : ℕ) → k ≤ l → asks (apdu_of b) ≡ offer_key (head.key k of s) → ⊥
NoKeyIn s l (press on) = Unit {0}
NoKeyIn s l (time_out c) = Unit {0}
NoKeyIn s l (give_back c n st) = Unit {0}

abbrev pub NoKey : List ℕ → ℕ → List Item → Type 0
NoKey s l [] = Unit {0}
NoKey s l (i ∷ h) = NoKeyIn s l i × NoKey s l h

-- NO REQUEST THAT IS HEARD offers one: what goes to another device, is a stranger's connected data or does not read may
abbrev pub NoKeyHeardIn : Net → List ℕ → ℕ → Item → Type 0
NoKeyHeardIn y s l (frame b) =
    (mode c group : ℕ) → heard_in y b ≡ Request mode c group → (k : ℕ) → k ≤ l → asks (apdu_of b) ≡ offer_key (head.key k of s) → ⊥
NoKeyHeardIn y s l (press on) = Unit {0}
NoKeyHeardIn y s l (time_out c) = Unit {0}
NoKeyHeardIn y s l (give_back c n st) = Unit {0}

abbrev pub NoKeyHeard : Net → ℕ → List Item → Type 0
NoKeyHeard x l [] = Unit {0}
NoKeyHeard x l (i ∷ h) = NoKeyHeardIn (net_after x h) x.sheet l i × NoKeyHeard x l h
