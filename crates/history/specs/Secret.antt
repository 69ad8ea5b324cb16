-- WHAT A TOOL WITHOUT THE KEY CAN LEARN: two sheets that differ in secret bytes alone, and what is told by the same events on both. A predicate over any device.
use Rattle.std.specs.Prelude.{ℕ, ◌/◌, ◌<◌, ◌≤◌, ◌≡◌, true, List, [], ◌∷◌}
use Rattle.sheet.specs.Kind.{properties, kind_of}
use Rattle.sheet.specs.Layout.{◌of◌}
use Rattle.sheet.specs.Region as region
use Rattle.sheet.specs.Property as property
use Rattle.sheet.specs.Entries.{entry, InBody}
use Rattle.sheet.specs.Places.{region_at}
use Rattle.sheet.specs.Rules.{Accepted}
use Rattle.sheet.specs.But.{But}
use Rattle.sheet.specs.declared.Memory.{Memory}
use Rattle.device.specs.Events.{Effect}
use Rattle.events.specs.Events.{Event}
use Rattle.history.specs.History.{First, opened, level}
use Rattle.history.specs.Keeps.{Device, state_after, Begins, AllOctets}
use Rattle.history.specs.Isolation.{Alike}

-- the read level of a region of memory, of a property
abbrev pub region_read_level : List ℕ → Memory → ℕ → ℕ
region_read_level s m i = region.levels of region_at s m i / 16

abbrev pub property_read_level : List ℕ → ℕ → ℕ
property_read_level s i = property.levels of entry s properties i / 16

-- A SECRET BYTE: of the body of a region of either memory, or of a property, whose read level is below q
pub data Secret (s : List ℕ) (q p : ℕ) : Type 0 where
  of_memory : (m : Memory) (i : ℕ) → InBody s (kind_of m) i p → region_read_level s m i < q → Secret s q p
  of_property : (i : ℕ) → InBody s properties i p → property_read_level s i < q → Secret s q p

-- TWO SHEETS THAT HIDE q: both accepted, as long as each other, and every byte the same but secret ones
pub record Hide (q : ℕ) (s s' : List ℕ) : Type 0 where
  pub accepted : Accepted s
  pub accepted' : Accepted s'
  pub others : But (Secret s q) s s'

-- BY THE HISTORY, before each of its events no open connection has a level below q
abbrev pub NoneBelow : ℕ → First → List Event → Type 0
NoneBelow q f [] = Unit {0}
NoneBelow q f (e ∷ h) = ((c : ℕ) → opened f h c ≡ true → q ≤ level f h c) × NoneBelow q f h

-- the same events, though their answer buffers may have held other bytes, as many
pub data AllAlike : List Event → List Event → Type 0 where
  none : AllAlike [] []
  more : {e e' : Event} {h h' : List Event} → Alike e e' → AllAlike h h' → AllAlike (e ∷ h) (e' ∷ h')

-- NOTHING IS TOLD by an event: outcome, answer and both sessions are the same, and the sheets that it leaves still hide q
pub record NothingTold (q : ℕ) (r r' : Effect) : Type 0 where
  pub outcome : r'.outcome ≡ r.outcome
  pub answer : r'.answer ≡ r.answer
  pub sessions : r'.sessions ≡ r.sessions
  pub sheet : Hide q r.sheet r'.sheet

-- by any event of two runs
abbrev pub NothingToldAlong : Device → ℕ → (f f' : First) {h h' : List Event} → AllAlike h h' → Type 0
NothingToldAlong step q f f' none = Unit {0}
NothingToldAlong step q f f' (more {e} {e'} {h} {h'} a r) =
    NothingTold q (step f h (state_after step f h) e) (step f' h' (state_after step f' h') e') × NothingToldAlong step q f f' r

-- NOTHING IS LEARNED: from sheets that hide q and the same sessions, along the same events, with no level below q in the first run; that there is none in the second then follows (`none_below_both`)
abbrev pub Unlearned : Device → Type 0
Unlearned step =
    (q : ℕ) → q ≤ 3 → (f f' : First) → Begins f → Begins f' → f'.sessions ≡ f.sessions → Hide q f.sheet f'.sheet →
    (h h' : List Event) (r : AllAlike h h') → AllOctets h → NoneBelow q f h → NothingToldAlong step q f f' r
