-- What the functions of this crate promise one another.
use Rattle.std.specs.Prelude.{ℕ, ◌+◌, ◌-◌, ◌/◌, ◌%◌, ◌≤◌, ◌<◌, ◌≡◌, ◌⊎◌, List, take, drop}
use Rattle.octets.specs.Bytes.{num_at}
use Rattle.sheet.specs.Entries.{count, size, place, offset_of, length_of}
use Rattle.sheet.specs.Plain.{Levels}

-- r is the number of entries of kind k, and where entry i stands
pub record Counted (s : List ℕ) (k r : ℕ) : Type 0 where
  pub is : r ≡ count s k
  pub below : r < 256

pub record Placed (s : List ℕ) (k i r : ℕ) : Type 0 where
  pub is : r ≡ place s k i
  pub low : 32 ≤ r
  pub high : r < 13000

-- the entry of kind k that stands at `at`; r is where its body starts, and how long that is
abbrev pub entry_at : List ℕ → ℕ → ℕ → List ℕ
entry_at s k at = take (size k) (drop at s)

pub record Starts (s : List ℕ) (k at r : ℕ) : Type 0 where
  pub is : r ≡ offset_of k (entry_at s k at)
  pub below : r < 65536

pub record Long (s : List ℕ) (k at r : ℕ) : Type 0 where
  pub is : r ≡ length_of k (entry_at s k at)
  pub below : r < 16777216

-- S9 of its body, that starts where the one before ended
abbrev pub BodyAt : List ℕ → ℕ → ℕ → ℕ → Type 0
BodyAt s k at end =
    (offset_of k (entry_at s k at) ≡ end) × ((((k ≡ 2) → ⊥) ⊎ (1 ≤ num_at s (at + 2) 1)) ⊎ (num_at s end 1 < 64))

-- S6 to S8 of an entry i that stands at `at`, by the bytes, test by test
abbrev pub RegionAt : List ℕ → ℕ → ℕ → Type 0
RegionAt s at i =
    ((((1 ≤ num_at s (at + 2) 2) × (num_at s at 2 + num_at s (at + 2) 2 ≤ 65536))
    × ((i ≡ 0) ⊎ (num_at s (at - 8) 2 + num_at s (at - 6) 2 ≤ num_at s at 2)))
    × Levels (num_at s (at + 6) 1))
    × (num_at s (at + 7) 1 ≡ 0)

abbrev pub PropertyAt : List ℕ → ℕ → ℕ → Type 0
PropertyAt s at i =
    (((((((((1 ≤ num_at s (at + 1) 1) × ((i ≡ 0) ⊎ (num_at s (at - 12) 2 < num_at s at 2)))
    × (num_at s (at + 2) 1 / 64 % 2 ≡ 0))
    × (1 ≤ num_at s (at + 3) 1))
    × (num_at s (at + 3) 1 ≤ 10))
    × (1 ≤ num_at s (at + 4) 2))
    × (num_at s (at + 4) 2 ≤ 4095))
    × (num_at s (at + 6) 2 ≤ num_at s (at + 4) 2))
    × Levels (num_at s (at + 10) 1))
    × (num_at s (at + 11) 1 ≡ 0)

abbrev pub GroupAt : List ℕ → ℕ → ℕ → Type 0
GroupAt s at i =
    ((((1 ≤ num_at s at 2) × ((i ≡ 0) ⊎ (num_at s (at - 8) 2 < num_at s at 2)))
    × (num_at s (at + 2) 1 ≤ 14))
    × (num_at s (at + 3) 1 ≤ 7))
    × (num_at s (at + 6) 2 ≡ 0)
