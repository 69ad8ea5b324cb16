-- WHAT A VERSION HOLDS of a sheet, and the sheet that it gives back.
use Rattle.std.specs.Prelude.{ℕ, ◌+◌, ◌-◌, ◌*◌, ◌≤◌, ◌<◌, ◌≡◌, List, ◌++◌, length, take, drop, get_or}
use Rattle.octets.specs.Bytes.{num_at, bytes_of}
use Rattle.octets.specs.Splice.{splice}
use Rattle.sheet.specs.Kind.{properties, groups}
use Rattle.sheet.specs.Layout.{◌of◌}
use Rattle.sheet.specs.Property as property
use Rattle.sheet.specs.Entries.{count, base, place, entry, body_at, start_of}
use Rattle.sheet.specs.Agree.{Agree, Fixed}

-- the bytes before the entries: the number of properties
abbrev pub front : ℕ
front = 2

-- how many properties a sheet has, and how many bytes their entries and their bodies are
abbrev pub many : List ℕ → ℕ
many s = count s properties

abbrev pub entries_long : List ℕ → ℕ
entries_long s = property.size * many s

abbrev pub bodies_long : List ℕ → ℕ
bodies_long s = start_of s groups - start_of s properties

-- THE BODY OF A VERSION: the number of properties, their entries and their bodies, as they stand in the sheet
unfoldable pub settings_of : List ℕ → List ℕ
settings_of s =
    bytes_of front (many s) ++ (take (entries_long s) (drop (base s properties) s) ++ take (bodies_long s) (drop (start_of s properties) s))

-- THE SHEET WITH A VERSION'S ENTRIES AND BODIES, d being the version's
unfoldable pub restored : List ℕ → List ℕ → List ℕ
restored s d =
    splice (splice s (base s properties) (take (entries_long s) (drop front d))) (start_of s properties) (drop (front + entries_long s) d)

-- where byte j of entry i stands in d, and where the body of property i of a sheet
abbrev pub in_version : ℕ → ℕ → ℕ
in_version i j = front + property.size * i + j

abbrev pub body_in_version : List ℕ → ℕ → ℕ
body_in_version s i = front + entries_long s + (body_at s properties i - start_of s properties)

-- d has the entries of the sheet, but for the counts
pub record SameEntries (s d : List ℕ) : Type 0 where
  pub long : length d ≡ front + entries_long s + bodies_long s
  pub number : num_at d 0 front ≡ many s
  pub entries :
      (i j : ℕ) → i < many s → j < property.size → Fixed properties j → get_or d (in_version i j) 0 ≡ get_or s (place s properties i + j) 0

-- and no count above its maximum
pub record LowCounts (s d : List ℕ) : Type 0 where
  pub low : (i : ℕ) → i < many s → num_at d (in_version i (property.count).at) 2 ≤ property.maximum of entry s properties i

-- two sheets that agree on what the rules read, and on every byte of the properties' entries, counts included, and of their bodies
pub record SameProperties (s t : List ℕ) : Type 0 where
  pub agree : Agree s t
  pub entries : (j : ℕ) → j < entries_long s → get_or t (base s properties + j) 0 ≡ get_or s (base s properties + j) 0
  pub bodies : (j : ℕ) → j < bodies_long s → get_or t (start_of s properties + j) 0 ≡ get_or s (start_of s properties + j) 0

-- byte p of a sheet is none of these
pub record Elsewhere (s : List ℕ) (p : ℕ) : Type 0 where
  pub no_entry : base s properties ≤ p → p < base s properties + entries_long s → ⊥
  pub no_body : start_of s properties ≤ p → p < start_of s groups → ⊥
