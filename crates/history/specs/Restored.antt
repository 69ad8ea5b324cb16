-- WHAT A RESTORE BRINGS BACK, by the history of the save and that of the restore.
use Rattle.std.specs.Prelude.{ℕ, ◌≡◌, List, get_or}
use Rattle.sheet.specs.Rules.{Accepted}
use Rattle.events.specs.Events.{Event}
use Rattle.history.specs.Location.{Location, memory, body, counter, key, Place}
use Rattle.history.specs.History.{First, content}

-- a byte of a property: of its body or of its count
abbrev pub OfProperty : Location → Type 0
OfProperty (memory m y) = ⊥
OfProperty (body object id j) = Unit {0}
OfProperty (counter object id j) = Unit {0}
OfProperty (key l j) = ⊥

-- WHAT A RESTORE BRINGS BACK: r came back, s' is the sheet; it had been saved after h, and is restored after h'
pub record BroughtBack (f : First) (h h' : List Event) (r : ℕ) (s' : List ℕ) : Type 0 where
  -- it is carried out
  pub carried : r ≡ 1
  -- every byte of every property, counts included, holds what the history gave at the save; every other location what it gave before the restore
  pub settings : (z : Location) (p : ℕ) → OfProperty z → Place f.sheet z p → get_or s' p 0 ≡ content f h z
  pub others : (z : Location) (p : ℕ) → (OfProperty z → ⊥) → Place f.sheet z p → get_or s' p 0 ≡ content f h' z
  pub accepted : Accepted s'
