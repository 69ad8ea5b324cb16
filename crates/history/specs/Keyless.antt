-- A laptop without a key: which bytes are protected up to a level, and a history in which nobody offers a key that opens them.
use Rattle.std.specs.Prelude.{ℕ, ◌%◌, ◌<◌, ◌≤◌, ◌≡◌, List, [], ◌∷◌, true, false, get_or}
use Rattle.sheet.specs.Layout.{◌of◌}
use Rattle.sheet.specs.Head as head
use Rattle.sheet.specs.Head.{rules_of}
use Rattle.sheet.specs.Region as region
use Rattle.sheet.specs.Property as property
use Rattle.sheet.specs.Places.{region_at}
use Rattle.device.specs.Sessions.{session_of}
use Rattle.device.specs.Events.{State}
use Rattle.events.specs.Events.{Event, request, restore}
use Rattle.history.specs.Location.{Location, memory, body, counter, key, Place}
use Rattle.history.specs.Span.{names}
use Rattle.history.specs.Wish.{offer_key, asks, brings}
use Rattle.history.specs.Permit.{heard, region_for, entry_for, spans}
use Rattle.history.specs.History.{First, first_of, wished, opened, level, keys, content, permitted}

-- THE WRITE LEVEL of a byte: its region's, its property's, for the count too; of a key the level itself
unfoldable pub write_level : List ℕ → Location → ℕ
write_level s (memory m y) = region.levels of region_at s m (region_for s m y) % 16
write_level s (body o i j) = property.levels of entry_for s o i % 16
write_level s (counter o i j) = property.levels of entry_for s o i % 16
write_level s (key l j) = l

-- an event that is heard after h and offers, on connection c, what is then the key of a level up to l
pub data Unlocks (f : First) (h : List Event) (l c : ℕ) : Event → Type 0 where
  offers :
      {mode g : ℕ} {a out : List ℕ} (k : ℕ) → k ≤ l → heard (rules_of f.sheet) (opened f h c) mode a out (asks a) ≡ true →
      asks a ≡ offer_key (keys f h k) → Unlocks f h l c (request mode c g a out)

-- NO EVENT OF A HISTORY DOES
abbrev pub Locked : First → ℕ → ℕ → List Event → Type 0
Locked f l c [] = Unit {0}
Locked f l c (e ∷ h) = (Unlocks f h l c e → ⊥) × Locked f l c h

-- and so for every connection where no request offers a key of such a level as it stands in the first sheet (`locked`): simpler to see, and no less
abbrev pub NotOffered : First → ℕ → List Event → Type 0
NotOffered f l [] = Unit {0}
NotOffered f l (e ∷ h) =
    ((k : ℕ) → k ≤ l → wished e ≡ offer_key (head.key k of f.sheet) → ⊥) × NotOffered f l h

-- no connection is open at first
abbrev pub Closed : First → Type 0
Closed f = (f.sessions.first.opened ≡ false) × (f.sessions.second.opened ≡ false)

-- WHAT THEN STAYS, by the history, of one connection, whatever key the other has offered
pub record Shut (f : First) (l c : ℕ) (h : List Event) : Type 0 where
  -- while it is open its level is above l; at all times, if it was so at first
  pub rights : opened f h c ≡ true → l < level f h c
  pub always : l < (session_of f.sessions c).level → l < level f h c
  -- no write of it is permitted that names a byte of memory or property, a count or a key whose write level is at most l
  pub writes :
      (mode g : ℕ) (a out : List ℕ) → permitted f h (request mode c g a out) ≡ true → (x : Location) → write_level f.sheet x ≤ l →
      names (spans f.sheet (content f h) (brings a) (asks a)) x ≡ true → ⊥
  -- and no restore
  pub restores : (n : ℕ) (st : List ℕ) → permitted f h (restore c n st) ≡ true → ⊥

-- AND OF THE BYTES, where neither connection has offered one
pub record Untouched (f : First) (l : ℕ) (h : List Event) : Type 0 where
  -- every byte of memory or property, every count, every key whose write level is at most l holds its first content
  pub holds : (x : Location) → write_level f.sheet x ≤ l → content f h x ≡ first_of f.sheet x
  -- so the keys that nobody is to offer are those of the first sheet
  pub same_keys : (k : ℕ) → k ≤ l → keys f h k ≡ keys f [] k

-- AND OF THE STATE OF A DEVICE, byte for byte
pub record Protected (f : First) (l : ℕ) (x : State) : Type 0 where
  pub bytes :
      (y : Location) (p : ℕ) → Place f.sheet y p → write_level f.sheet y ≤ l → get_or x.sheet p 0 ≡ get_or f.sheet p 0
  pub rights : (c : ℕ) → (session_of x.sessions c).opened ≡ true → l < (session_of x.sessions c).level
  pub always : (c : ℕ) → l < (session_of f.sessions c).level → l < (session_of x.sessions c).level
