-- WHAT THE RULES READ: two sheets that agree on it are both accepted or both not.
use Rattle.std.specs.Prelude.{◌≡◌, ℕ, ◌+◌, ◌<◌, ◌≤◌, List, length, slice_index}
use Rattle.octets.specs.Bytes.{num_at}
use Rattle.sheet.specs.Kind.{kinds, properties, groups}
use Rattle.sheet.specs.Layout.{◌of◌}
use Rattle.sheet.specs.Head as head
use Rattle.sheet.specs.Property as property
use Rattle.sheet.specs.Group as group
use Rattle.sheet.specs.Entries.{count, size, entry, body_at}

-- byte j of an entry of kind k is no part of a property's count
abbrev pub Fixed : ℕ → ℕ → Type 0
Fixed k j = k ≡ properties → (property.count).at ≤ j → j < (property.count).at + (property.count).width → ⊥

-- the two agree on all of it, standing to each other as R says in edition, byte 15 and number of the rules
pub record AgreeBy (R : List ℕ → List ℕ → Type 0) (s s' : List ℕ) : Type 0 where
  pub long : length s' ≡ length s
  -- numbers of entries, stated length
  pub front : (p : ℕ) → (head.regions).at ≤ p → p < (head.serial).at → slice_index s' p ≡ slice_index s p
  pub users : head.users s' ≡ head.users s
  pub by : R s s'
  -- the zero byte, and the flags' zero bits
  pub zero31 : head.zero31 of s' ≡ head.zero31 of s
  pub flags : (head.flags of s ≤ 3 → head.flags of s' ≤ 3) × (head.flags of s' ≤ 3 → head.flags of s ≤ 3)
  -- the entries but for the counts
  pub fixed :
      (k i j : ℕ) → k < kinds → i < count s k → j < size k → Fixed k j → slice_index (entry s' k i) j ≡ slice_index (entry s k i) j
  -- whether a count is at most the maximum, and a code-0 byte below 64
  pub counts :
      (i : ℕ) → i < count s properties →
      (property.count of entry s properties i ≤ property.maximum of entry s properties i → property.count of entry s' properties i ≤ property.maximum of entry s properties i)
      × (property.count of entry s' properties i ≤ property.maximum of entry s properties i → property.count of entry s properties i ≤ property.maximum of entry s properties i)
  pub six :
      (i : ℕ) → i < count s groups → group.code of entry s groups i ≡ 0 →
      (num_at s (body_at s groups i) 1 < 64 → num_at s' (body_at s groups i) 1 < 64)
      × (num_at s' (body_at s groups i) 1 < 64 → num_at s (body_at s groups i) 1 < 64)

-- the same edition, byte 15 and number of the rules
pub record Stamped (s s' : List ℕ) : Type 0 where
  pub edition : head.edition of s' ≡ head.edition of s
  pub byte15 : head.byte15 of s' ≡ head.byte15 of s
  pub rules : head.rules of s' ≡ head.rules of s

-- THEY AGREE, these included, and whatever these are
abbrev pub Agree : List ℕ → List ℕ → Type 0
Agree s s' = AgreeBy Stamped s s'

abbrev pub AgreeInside : List ℕ → List ℕ → Type 0
AgreeInside s s' = AgreeBy (λ t t'. Unit {0}) s s'
