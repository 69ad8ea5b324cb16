-- THE CONVERSION of an old sheet: byte 0 becomes 2, and no other byte changes.
use Rattle.std.specs.Prelude.{◌≡◌, ℕ, ◌+◌, ◌*◌, cond, List, ◌==◌}
use Rattle.octets.specs.Bytes.{bytes_of}
use Rattle.octets.specs.Splice.{splice}
use Rattle.sheet.specs.Kind.{regions, properties, groups, users}
use Rattle.sheet.specs.Head as head
use Rattle.sheet.specs.Head.{rules_of}
use Rattle.sheet.specs.Rules.{verdict_of, old, edition, Accepted}
use Rattle.sheet.specs.Lookup.{index_of, body_of, body_from, region_of, region_from, user_region_of, user_region_from, property_of, property_from, group_of, group_from}
use Rattle.sheet.specs.But.{But}

unfoldable pub conversion_of : List ℕ → List ℕ
conversion_of s = splice s (head.edition).at (bytes_of (head.edition).width edition)

-- 1 and the conversion, of an old sheet; 4 and the sheet as found, of any other
unfoldable pub convert_outcome : List ℕ → ℕ
convert_outcome s = cond (verdict_of s == old) 1 4

unfoldable pub convert_sheet : List ℕ → List ℕ
convert_sheet s = cond (verdict_of s == old) (conversion_of s) s

-- what a conversion did
pub record Converts (s : List ℕ) (r : ℕ) (s' : List ℕ) : Type 0 where
  pub outcome : r ≡ convert_outcome s
  pub sheet : s' ≡ convert_sheet s

-- the position of the edition
abbrev pub EditionByte : ℕ → Type 0
EditionByte p = p ≡ (head.edition).at

-- WHAT THE CONVERSION s' OF AN OLD SHEET s IS
pub record Converted (s s' : List ℕ) : Type 0 where
  pub accepted : Accepted s'
  pub others : But EditionByte s s'
  pub none : head.users s' ≡ 0
  pub rules : rules_of s' ≡ 0
  -- its lookups hand back what the old sheet has there, from the same place
  pub region : (i : ℕ) → (region_of s' i ≡ body_of s regions i) × (region_from s' i ≡ body_from s regions i)
  pub user_region : (i : ℕ) → (user_region_of s' i ≡ body_of s users i) × (user_region_from s' i ≡ body_from s users i)
  pub property :
      (object id : ℕ) →
      (property_of s' object id ≡ body_of s properties (index_of s properties (object * 256 + id)))
      × (property_from s' object id ≡ body_from s properties (index_of s properties (object * 256 + id)))
  pub group :
      (address : ℕ) →
      (group_of s' address ≡ body_of s groups (index_of s groups address)) × (group_from s' address ≡ body_from s groups (index_of s groups address))
