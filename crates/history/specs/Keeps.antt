-- DEMAND 3 as a predicate over any device.
use Rattle.std.specs.Prelude.{ℕ, ◌+◌, ◌*◌, ◌<◌, ◌≤◌, ◌≡◌, List, [], ◌∷◌, true, ◌⊎◌, length, get_or}
use Rattle.sheet.specs.Kind.{groups}
use Rattle.sheet.specs.Layout.{◌of◌}
use Rattle.sheet.specs.Head as head
use Rattle.sheet.specs.Rules.{Accepted}
use Rattle.sheet.specs.Entries.{InBody, body_at}
use Rattle.device.specs.Octets.{Octets}
use Rattle.device.specs.Sessions.{session_of}
use Rattle.device.specs.Events.{Effect, State}
use Rattle.events.specs.Events.{Event, connect, disconnect, button, request, restore}
use Rattle.history.specs.Location.{Location, Place}
use Rattle.history.specs.Span.{names, gives}
use Rattle.history.specs.Wish.{Wish, change, offer_key, restart, other, nothing}
use Rattle.history.specs.Permit.{spans}
use Rattle.history.specs.History.{First, wished, supplied, opened, level, content, permitted}
use Rattle.history.specs.Others.{programming, individual, group_byte}

-- A DEVICE: its step may look at the first state and at all events so far, the newest first, beside the state that it left itself
abbrev pub Device : Type 0
Device = First → List Event → State → Event → Effect

-- the state after a history
unfoldable pub state_after : Device → First → List Event → State
state_after step f [] = record { sessions = f.sessions; sheet = f.sheet }
state_after step f (e ∷ h) =
    let r = step f h (state_after step f h) e in record { sessions = r.sessions; sheet = r.sheet }

-- a write to locations
abbrev pub Writing : Wish → Type 0
Writing (change c) = Unit
Writing (offer_key number) = ⊥
Writing restart = ⊥
Writing (other o) = ⊥
Writing nothing = ⊥

-- the outcomes that say: carried out, with an answer or without
abbrev pub Succeeds : ℕ → Type 0
Succeeds n = n ≤ 1

-- a write is carried out, by its outcome
pub record CarriedOut (e : Event) (n : ℕ) : Type 0 where
  pub writing : Writing (wished e)
  pub outcome : Succeeds n

-- a position that no history changes: no location, no group body byte, not the address, not the flags
pub record Still (s : List ℕ) (p : ℕ) : Type 0 where
  pub inside : p < length s
  pub location : (x : Location) → Place s x p → ⊥
  pub group : (i : ℕ) → InBody s groups i p → ⊥
  pub address : (p < (head.address).at) ⊎ ((head.address).at + (head.address).width ≤ p)
  pub flags : p ≡ (head.flags).at → ⊥

-- every APDU and every store is a list of bytes, whether it passes any check or not
abbrev pub BringsOctets : Event → Type 0
BringsOctets (connect c) = Unit {0}
BringsOctets (disconnect c) = Unit {0}
BringsOctets (button on) = Unit {0}
BringsOctets (request mode c g a out) = Octets a
BringsOctets (restore c n st) = Octets st

abbrev pub AllOctets : List Event → Type 0
AllOctets [] = Unit {0}
AllOctets (e ∷ h) = BringsOctets e × AllOctets h

-- what holds after a history
pub record Kept (step : Device) (f : First) (h : List Event) : Type 0 where
  -- the sheet stays accepted, and bytes, as many as at first
  pub accepted : Accepted (state_after step f h).sheet
  pub octets : Octets (state_after step f h).sheet
  pub same : length (state_after step f h).sheet ≡ length f.sheet
  -- each connection is open or closed, and has the level, as the history says
  pub session : (c : ℕ) → (session_of (state_after step f h).sessions c).opened ≡ opened f h c
  pub rights : (c : ℕ) → (session_of (state_after step f h).sessions c).level ≡ level f h c
  -- every location holds what the last permitted write gave, or its first content
  pub holds : (x : Location) (p : ℕ) → Place f.sheet x p → get_or (state_after step f h).sheet p 0 ≡ content f h x
  -- a write is carried out exactly if it is permitted
  pub only_permitted :
      (e : Event) → BringsOctets e → CarriedOut e (step f h (state_after step f h) e).outcome → permitted f h e ≡ true
  pub all_permitted :
      (e : Event) → BringsOctets e → permitted f h e ≡ true → CarriedOut e (step f h (state_after step f h) e).outcome
  -- and takes effect at once. This follows from `holds` one event later (`at_once_lem` in proofs/promises/AtOnce.antt); it is a sentence of the user's, so it stands here
  pub at_once :
      (e : Event) → BringsOctets e → permitted f h e ≡ true → (x : Location) (p : ℕ) → Place f.sheet x p →
      names (spans f.sheet (content f h) (supplied e) (wished e)) x ≡ true →
      get_or (step f h (state_after step f h) e).sheet p 0 ≡ gives (spans f.sheet (content f h) (supplied e) (wished e)) x
  -- the bytes that are no locations
  pub still : (p : ℕ) → Still f.sheet p → get_or (state_after step f h).sheet p 0 ≡ get_or f.sheet p 0
  pub address : head.address of (state_after step f h).sheet ≡ individual f h
  pub flags : head.flags of (state_after step f h).sheet ≡ head.verify f.sheet * 2 + programming f h
  pub group :
      (i j : ℕ) → InBody f.sheet groups i (body_at f.sheet groups i + j) →
      get_or (state_after step f h).sheet (body_at f.sheet groups i + j) 0 ≡ group_byte f h i j

pub record Begins (f : First) : Type 0 where
  pub octets : Octets f.sheet
  pub accepted : Accepted f.sheet

-- DEMAND 3: from an accepted sheet and any sessions, after every history
abbrev pub Keeps : Device → Type 0
Keeps step = (f : First) (h : List Event) → Begins f → AllOctets h → Kept step f h
