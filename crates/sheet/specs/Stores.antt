-- What the theorems about stores say of a store: where its bytes stand, and which bytes they may be.
use Rattle.std.specs.Prelude.{◌≡◌, ℕ, ◌+◌, ◌<◌, ◌≤◌, List, length, slice_index}
use Rattle.sheet.specs.Kind.{kinds, properties, groups}
use Rattle.sheet.specs.Layout.{◌of◌}
use Rattle.sheet.specs.Property as property
use Rattle.sheet.specs.Group as group
use Rattle.sheet.specs.Entries.{count, place, entry, body_at, body_end}

-- the n positions from o on lie in body i of kind k
pub record Inside (s : List ℕ) (k i o n : ℕ) : Type 0 where
  pub kind : k < kinds
  pub below : i < count s k
  pub from : body_at s k i ≤ o
  pub to : o + n ≤ body_end s k i

-- the bytes ds may be stored in body i of kind k: a code-0 byte is below 64 (S9), any other is free
abbrev pub Fit : List ℕ → ℕ → ℕ → List ℕ → Type 0
Fit s k i ds = k ≡ groups → group.code of entry s k i ≡ 0 → (j : ℕ) → j < length ds → slice_index ds j < 64

-- where the count of property i stands
abbrev pub count_at : List ℕ → ℕ → ℕ
count_at s i = place s properties i + (property.count).at

-- position p is no byte of a property's count
abbrev pub NoCount : List ℕ → ℕ → Type 0
NoCount s p =
    (i : ℕ) → i < count s properties → count_at s i ≤ p → p < count_at s i + (property.count).width → ⊥
