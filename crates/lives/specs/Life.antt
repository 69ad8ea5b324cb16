-- A LIFE WITH POWER CUTS, of a host that makes any calls and keeps its sheet in two slots; and the history that it is.
-- Assumes nothing but what slots/specs/Medium.antt assumes of a medium.
use Rattle.std.specs.Prelude.{ℕ, ◌≡◌, Bool, cond, List, [], ◌∷◌, ◌++◌}
use Rattle.device.specs.Sessions.{fresh_of}
use Rattle.events.specs.Events.{Event, disconnect}
use Rattle.history.specs.History.{First}
use Rattle.history.specs.Keeps.{Begins}
use Rattle.history.specs.Keyless.{NotOffered}
use Rattle.slots.specs.Medium.{sheet, Medium, choice, Saved, Broken}
use Rattle.slots.specs.Lives.{Ready}
use Rattle.link.specs.Net.{Net, net_of, first_net}
use Rattle.link.specs.declared.Link.{Link}
use Rattle.host.specs.Steps.{Steps}

-- link and sheet in memory, and the medium
pub record Running : Type 0 where
  pub net : Net
  pub medium : Medium

-- WHAT HAPPENS, with the events that the calls were, the newest first: calls that were carried out, saved, and then answered; calls that are saved later, if at all; and the power lost before
-- an answer: while calls were made or their sheet was saved, the mark of that save being set or not. At rest, and within a call, it is `cut false []`: memory is gone
pub data Happening : Type 0 where
  saved late : List Event → Happening
  cut : Bool → List Event → Happening

-- a save: the medium has the sheet already, or it is made
pub data Stored (t : List ℕ) (m : Medium) : Medium → Type 0 where
  there : (n : ℕ) → choice m ≡ sheet n t → Stored t m m
  stored : {m' : Medium} → Saved t m m' → Stored t m m'

-- A START: with the sheet that the medium chooses, and nobody connected, whatever addresses the link has
pub data Starts (m : Medium) : Running → Type 0 where
  starts : (k : Link) (n : ℕ) (s : List ℕ) → k.sessions ≡ fresh_of → choice m ≡ sheet n s → Starts m record { net = net_of k s; medium = m }

pub data Goes (x : Running) : Happening → Running → Type 0 where
  saves : {es : List Event} {y : Net} {m : Medium} → Steps x.net es y → Stored y.sheet x.medium m → Goes x (saved es) record { net = y; medium = m }
  waits : {es : List Event} {y : Net} → Steps x.net es y → Goes x (late es) record { net = y; medium = x.medium }
  loses :
      {es : List Event} {y : Net} {set : Bool} {m : Medium} {z : Running} → Steps x.net es y → Broken set y.sheet x.medium m → Starts m z →
      Goes x (cut set es) z

-- A LIFE, the newest first
pub data Ran (x : Running) : List Happening → Running → Type 0 where
  begin : Ran x [] x
  next : {h : List Happening} {i : Happening} {y z : Running} → Ran x h y → Goes y i z → Ran x (i ∷ h) z

-- THE HISTORY THAT A LIFE IS, and how much of it the medium has
pub record Telling : Type 0 where
  pub history : List Event
  pub kept : List Event

abbrev pub both : List Event → Telling
both es = record { history = es; kept = es }

-- a cut disconnects both connections
abbrev pub apart : List Event → List Event
apart es = disconnect 1 ∷ disconnect 0 ∷ es

-- what was saved is in both; what waits is in the first alone until a save; a cut leaves what the medium has: of the events under way all, and all that waited before them, or none
unfoldable pub tell : Telling → Happening → Telling
tell k (saved es) = both (es ++ k.history)
tell k (late es) = record { history = es ++ k.history; kept = k.kept }
tell k (cut set es) = both (apart (cond set (es ++ k.history) k.kept))

unfoldable pub telling : List Happening → Telling
telling [] = both []
telling (i ∷ h) = tell (telling h) i

-- TOLD as a history; and as much of it as the medium has
abbrev pub told : List Happening → List Event
told h = (telling h).history

abbrev pub kept : List Happening → List Event
kept h = (telling h).kept

abbrev pub first_of : Running → First
first_of x = first_net x.net

-- A LIFE BEGINS on an accepted sheet that the medium has
pub record Begun (x : Running) : Type 0 where
  pub begins : Begins (first_of x)
  pub ready : Ready x.net.sheet x.medium

-- a history that ends, looked at from the newest event, in another: it went on from there
pub data EndsIn (es : List Event) : List Event → Type 0 where
  gone_on : {gs : List Event} (new : List Event) → gs ≡ new ++ es → EndsIn es gs

-- nothing that happens offers a key of a level up to l as it stands in the first sheet, be it kept or lost
abbrev pub events_in : Happening → List Event
events_in (saved es) = es
events_in (late es) = es
events_in (cut set es) = es

abbrev pub NeverOffered : First → ℕ → List Happening → Type 0
NeverOffered f l [] = Unit {0}
NeverOffered f l (i ∷ h) = NotOffered f l (events_in i) × NeverOffered f l h
