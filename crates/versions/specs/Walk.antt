-- What calls of this crate promise one another.
use Rattle.std.specs.Prelude.{ℕ, ◌+◌, ◌-◌, ◌*◌, ◌≤◌, ◌<◌, ◌≡◌, true, false, Option, None, Some, List, length, take, drop}
use Rattle.sheet.specs.Demand.{Met}
use Rattle.sheet.specs.Kind.{properties}
use Rattle.sheet.specs.Layout.{◌of◌}
use Rattle.sheet.specs.Property as property
use Rattle.sheet.specs.Entries.{base, start_of}
use Rattle.versions.specs.Head as head
use Rattle.versions.specs.Row as row
use Rattle.versions.specs.Store.{table_end, in_row, is_kept, version_in}
use Rattle.versions.specs.Rules.{head_demands, store_rule}
use Rattle.versions.specs.Ends.{end_from}
use Rattle.versions.specs.Settings.{many, entries_long, bodies_long, settings_of}
use Rattle.versions.specs.declared.settings.Extent.{Extent}
use Rattle.versions.specs.declared.table.Place.{Place}

-- the head is in order
pub record Headed (s : List ℕ) : Type 0 where
  pub rows : Met (head_demands s)

-- a table of n rows is there
pub record Tabled (s : List ℕ) (n : ℕ) : Type 0 where
  pub few : n ≤ 8
  pub room : table_end n ≤ length s

-- the number in row j
abbrev pub number_in : List ℕ → ℕ → ℕ
number_in s j = in_row s (table_end j) row.number

-- r is the first of n rows that has the number, and n where none has
pub record Found (s : List ℕ) (n x r : ℕ) : Type 0 where
  pub within : r ≤ n
  pub before : (j : ℕ) → j < r → number_in s j ≡ x → ⊥
  pub here : r < n → number_in s r ≡ x

-- that row, or None where no row has it
abbrev pub FoundIn : List ℕ → ℕ → ℕ → Option ℕ → Type 0
FoundIn s n x (Some i) = Found s n x i × (i < n)
FoundIn s n x None = Found s n x n

-- the bodies of n versions end at r
pub record Ended (s : List ℕ) (n r : ℕ) : Type 0 where
  pub is : r ≡ end_from s head.size (table_end n) n
  pub low : r ≤ 600000

-- version i of a good store's n
pub record Chosen (s : List ℕ) (n i : ℕ) : Type 0 where
  pub good : store_rule s ≡ 0
  pub all : n ≡ head.count of s
  pub below : i < n
  pub tabled : Tabled s n

-- the body of l bytes at `a` stands behind its row at p, within the bodies, which end at `end`
pub record Stands (s : List ℕ) (p a l end : ℕ) : Type 0 where
  pub behind : p + 8 ≤ a
  pub within : a + l ≤ end
  pub room : end ≤ length s

-- x says where the properties of a sheet stand
pub record Extents (s : List ℕ) (x : Extent) : Type 0 where
  pub count : x.count ≡ many s
  pub few : x.count ≤ 64
  pub short : length s ≤ 16384
  pub within : x.entries + property.size * x.count ≤ length s
  pub entries : take (property.size * x.count) (drop x.entries s) ≡ take (entries_long s) (drop (base s properties) s)
  pub base : (x.count ≡ 0 → ⊥) → x.entries ≡ base s properties
  pub start : (x.count ≡ 0 → ⊥) → x.from ≡ start_of s properties
  pub order : x.from ≤ x.to
  pub to : x.to ≤ length s
  pub long : x.to - x.from ≡ bodies_long s
  pub bodies : take (x.to - x.from) (drop x.from s) ≡ take (bodies_long s) (drop (start_of s properties) s)

-- the properties of sheet sh can be appended to a store s with n rows whose bodies end at `end`, being so long
pub record Appendable (s sh : List ℕ) (n end long : ℕ) (x : Extent) : Type 0 where
  pub extents : Extents sh x
  pub few : n < 8
  pub table : table_end n ≤ end
  pub size : long ≡ length (settings_of sh)
  pub room : end + 8 + length (settings_of sh) ≤ length s

-- a number is kept, and where the version's body then stands
abbrev pub Placed : List ℕ → ℕ → Option Place → Type 0
Placed s x (Some v) = (is_kept s x ≡ true) × (v.at + v.long ≤ length s) × (take v.long (drop v.at s) ≡ version_in s x)
Placed s x None = is_kept s x ≡ false
