-- What a value lookup is to hand back, as plain propositions.
use Rattle.std.specs.Prelude.{◌≡◌, ℕ, ◌+◌, ◌<◌, List, [], length, slice_index}
use Rattle.sheet.specs.Kind.{groups, kind_of}
use Rattle.sheet.specs.Layout.{◌of◌}
use Rattle.sheet.specs.Group as group
use Rattle.sheet.specs.Entries.{count, entry, body_at, body_end}
use Rattle.sheet.specs.Rules.{Accepted}
use Rattle.sheet.specs.declared.Memory.{Memory}

-- b is the body of entry i of kind k, from its first byte to its last
pub record IsBody (s : List ℕ) (k i : ℕ) (b : List ℕ) : Type 0 where
  pub long : body_at s k i + length b ≡ body_end s k i
  pub bytes : (j : ℕ) → j < length b → slice_index b j ≡ slice_index s (body_at s k i + j)

-- entry i is the region of that number of a memory, the group object of that address (of a property: `PropertyWith` in Places.antt)
pub record RegionWith (s : List ℕ) (m : Memory) (number i : ℕ) : Type 0 where
  pub there : i < count s (kind_of m)
  pub same_number : i ≡ number

pub record GroupWith (s : List ℕ) (address i : ℕ) : Type 0 where
  pub there : i < count s groups
  pub same_address : group.address of entry s groups i ≡ address

-- WHAT A LOOKUP HANDS BACK, and from where in the sheet, Asked saying which entry of kind k is asked for:
-- the whole body of the one that is asked for; nothing where there is none, and nothing of a sheet that is not accepted
pub data Handed (s : List ℕ) (k : ℕ) (Asked : ℕ → Type 0) : List ℕ → ℕ → Type 0 where
  body : {b : List ℕ} (i : ℕ) → Accepted s → Asked i → ((j : ℕ) → Asked j → j ≡ i) → IsBody s k i b → Handed s k Asked b (body_at s k i)
  nothing : Accepted s → ((i : ℕ) → Asked i → ⊥) → Handed s k Asked [] 0
  unaccepted : (Accepted s → ⊥) → Handed s k Asked [] 0
