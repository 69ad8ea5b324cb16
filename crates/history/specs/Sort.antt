-- What a position of a sheet is: where a location stands, a byte of a group object's body, or a byte of the head or of an entry that is neither.
use Rattle.std.specs.Prelude.{ℕ, ◌<◌, List}
use Rattle.sheet.specs.Kind.{groups}
use Rattle.sheet.specs.Entries.{contents, InBody}
use Rattle.history.specs.Location.{Location, Place}

pub data Sort (s : List ℕ) : ℕ → Type 0 where
  is_location : {p : ℕ} (x : Location) → Place s x p → Sort s p
  is_group : {p : ℕ} (i : ℕ) → InBody s groups i p → Sort s p
  is_field : {p : ℕ} → p < contents s → ((x : Location) → Place s x p → ⊥) → Sort s p

-- which of the three, and which location or group object
pub data Being : Type 0 where
  location : Location → Being
  group_body : ℕ → Being
  field : Being

abbrev pub being_of : {s : List ℕ} {p : ℕ} → Sort s p → Being
being_of (is_location x h) = location x
being_of (is_group i h) = group_body i
being_of (is_field h f) = field
