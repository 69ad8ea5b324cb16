-- WHO CHANGED A BYTE, AND BY WHAT RIGHT; who gave a connection its level. The newest event stands first.
use Rattle.std.specs.Prelude.{ℕ, ◌<◌, ◌≤◌, ◌≡◌, List, [], ◌∷◌, true, cond, ◌&&◌, get_or, drop, eqb}
use Rattle.sheet.specs.Head.{rules_of}
use Rattle.device.specs.Sessions.{session_of}
use Rattle.device.specs.Events.{State}
use Rattle.events.specs.Events.{Event, connect, disconnect, button, request, restore}
use Rattle.history.specs.Location.{Location, Place}
use Rattle.history.specs.Span.{names, gives}
use Rattle.history.specs.Wish.{offer_key, asks}
use Rattle.history.specs.Permit.{heard, level_for, spans}
use Rattle.history.specs.History.{First, first_of, wished, supplied, opened, level, keys, content, permitted}
use Rattle.history.specs.Keeps.{Device, state_after, Still, Begins, AllOctets}
use Rattle.history.specs.Keyless.{write_level}
use Rattle.history.specs.Rightful.{ours}

-- an event of a history, with those before it; or none
pub data Origin : Type 0 where
  never : Origin
  at : List Event → Event → Origin

-- what is looked at in a state: a byte of the sheet; the level of a connection
abbrev pub byte_at : ℕ → State → ℕ
byte_at p x = get_or x.sheet p 0

abbrev pub level_on : ℕ → State → ℕ
level_on c x = (session_of x.sessions c).level

-- THE LAST EVENT AFTER WHICH IT WAS ANOTHER than before
unfoldable pub last_other : Device → First → (State → ℕ) → List Event → Origin
last_other step f look [] = never
last_other step f look (e ∷ h) =
    cond (eqb (look (state_after step f (e ∷ h))) (look (state_after step f h))) (last_other step f look h) (at h e)

-- such an event: it is one of the history, it was another after it than before, and after every event since it was what it was after it
pub record Last (step : Device) (f : First) (look : State → ℕ) (h before : List Event) (e : Event) : Type 0 where
  pub later : ℕ
  pub within : drop later h ≡ e ∷ before
  pub another : look (state_after step f (e ∷ before)) ≡ look (state_after step f before) → ⊥
  pub since : (n : ℕ) → n ≤ later → look (state_after step f (drop n h)) ≡ look (state_after step f (e ∷ before))

-- the level that an event acts at: a request and a restore have one
abbrev pub acts_at : First → List Event → Event → ℕ
acts_at f h (connect c) = 3
acts_at f h (disconnect c) = 3
acts_at f h (button on) = 3
acts_at f h (request mode c g a out) = level_for mode (level f h c)
acts_at f h (restore c n st) = level_for 3 (level f h c)

-- THE RIGHT by which an event gave a byte, where location x stands at p, what it holds: it was a permitted write, it named the byte, and its level sufficed for it
pub record Right (step : Device) (f : First) (h : List Event) (x : Location) (p : ℕ) (before : List Event) (e : Event) : Type 0 where
  pub permits : permitted f before e ≡ true
  pub named : names (spans f.sheet (content f before) (supplied e) (wished e)) x ≡ true
  pub enough : acts_at f before e ≤ write_level f.sheet x
  pub value : byte_at p (state_after step f h) ≡ gives (spans f.sheet (content f before) (supplied e) (wished e)) x

-- EVERY CHANGED BYTE IS ACCOUNTED FOR, by the event that changed it last; a byte for which there is none was never other than at first. Where a location stands the event had the right; the
-- other bytes that a history changes, those of the address, the flags and the group values, have an event and no right: the button, programming mode or a group address is all that they ask
-- for. All else has no event (`Still`)
pub record Accounted (step : Device) (f : First) (h : List Event) : Type 0 where
  pub by : (p : ℕ) (before : List Event) (e : Event) → last_other step f (byte_at p) h ≡ at before e → Last step f (byte_at p) h before e
  pub rightly :
      (x : Location) (p : ℕ) → Place f.sheet x p → (before : List Event) (e : Event) → last_other step f (byte_at p) h ≡ at before e →
      Right step f h x p before e
  pub still : (p : ℕ) → Still f.sheet p → last_other step f (byte_at p) h ≡ never
  pub same : (p : ℕ) → last_other step f (byte_at p) h ≡ never → (n : ℕ) → byte_at p (state_after step f (drop n h)) ≡ get_or f.sheet p 0

abbrev pub AccountsFor : Device → Type 0
AccountsFor step = (f : First) (h : List Event) → Begins f → AllOctets h → Accounted step f h

-- an event that is heard after h and offers, on connection c, what is then the key of level l
pub data Offers (f : First) (h : List Event) (l c : ℕ) : Event → Type 0 where
  offers :
      {mode g : ℕ} {a out : List ℕ} → heard (rules_of f.sheet) (opened f h c) mode a out (asks a) ≡ true → asks a ≡ offer_key (keys f h l) →
      Offers f h l c (request mode c g a out)

-- THE RIGHT TO A LEVEL: it stood there at first, or the last event after which it was another offered what was then the key of that level
pub data Entitled (step : Device) (f : First) (h : List Event) (c : ℕ) : Origin → Type 0 where
  at_first : level_on c (state_after step f h) ≡ (session_of f.sessions c).level → Entitled step f h c never
  by_key :
      (before : List Event) (e : Event) → Last step f (level_on c) h before e → Offers f before (level_on c (state_after step f h)) c e →
      Entitled step f h c (at before e)

-- EVERY LEVEL BELOW 3 IS ACCOUNTED FOR
abbrev pub LevelsAccounted : Device → Type 0
LevelsAccounted step =
    (f : First) (h : List Event) → Begins f → AllOctets h → (c : ℕ) → level_on c (state_after step f h) < 3 →
    Entitled step f h c (last_other step f (level_on c) h)

-- THE LAST PERMITTED WRITE THAT NAMES A LOCATION, whether it changed it or not
unfoldable pub last_write : First → List Event → Location → Origin
last_write f [] x = never
last_write f (e ∷ h) x =
    cond (permitted f h e && names (spans f.sheet (content f h) (supplied e) (wished e)) x) (at h e) (last_write f h x)

-- what it gave: the first content where there is none
abbrev pub gave : First → Location → Origin → ℕ
gave f x never = first_of f.sheet x
gave f x (at h e) = gives (spans f.sheet (content f h) (supplied e) (wished e)) x

-- WHO CHANGED WHAT IN A STATE x that the history h left, by our device: every byte of its sheet, every level below 3, and every location by the last permitted write that named it
pub record Traced (f : First) (h : List Event) (x : State) : Type 0 where
  pub state : x ≡ state_after ours f h
  pub bytes : Accounted ours f h
  pub levels : (c : ℕ) → level_on c x < 3 → Entitled ours f h c (last_other ours f (level_on c) h)
  pub holds : (z : Location) (p : ℕ) → Place f.sheet z p → byte_at p x ≡ gave f z (last_write f h z)
