-- A STORE: a head, a row for each kept version, then the bodies end to end. Bytes after the last body are free.
use Rattle.std.specs.Prelude.{ℕ, zero, suc, ◌+◌, ◌*◌, ◌≤◌, ◌<◌, ◌≡◌, Bool, true, false, cond, List, [], ◌∷◌, ◌++◌, eqb, length, take, drop, replicate}
use Rattle.octets.specs.Bytes.{num_at, bytes_of}
use Rattle.sheet.specs.Layout.{Field, ◌of◌}
use Rattle.versions.specs.Head as head
use Rattle.versions.specs.Row as row

-- a kept version: its number, and what was saved
pub record Version : Type 0 where
  pub number : ℕ
  pub body : List ℕ

-- the one kind of body that there is
abbrev pub settings : ℕ
settings = 1

-- the most versions kept, the longest buffer, and the lowest number of a version
abbrev pub places : ℕ
places = 8

abbrev pub longest : ℕ
longest = 32768

abbrev pub lowest : ℕ
lowest = 1

-- where a table of n rows ends
abbrev pub table_end : ℕ → ℕ
table_end n = head.size + row.size * n

-- the bytes of a head, of a row whose body starts at `at`, of a table whose first body starts there, and of the bodies
unfoldable pub head_of : ℕ → ℕ → List ℕ
head_of n last = bytes_of 2 n ++ (bytes_of 2 last ++ replicate 4 0)

unfoldable pub row_of : ℕ → ℕ → ℕ → List ℕ
row_of number at long = bytes_of 2 number ++ (bytes_of 2 settings ++ (bytes_of 2 at ++ bytes_of 2 long))

unfoldable pub table_of : ℕ → List Version → List ℕ
table_of at [] = []
table_of at (v ∷ vs) = row_of v.number at (length v.body) ++ table_of (at + length v.body) vs

unfoldable pub bodies_of : List Version → List ℕ
bodies_of [] = []
bodies_of (v ∷ vs) = v.body ++ bodies_of vs

-- THE BYTES OF A STORE that keeps these versions, without the free ones
unfoldable pub laid : ℕ → List Version → List ℕ
laid last vs = head_of (length vs) last ++ (table_of (table_end (length vs)) vs ++ bodies_of vs)

-- a field of the row at p
abbrev pub in_row : List ℕ → ℕ → Field → ℕ
in_row s p f = num_at s (p + f.at) f.width

-- THE VERSIONS THAT A STORE KEEPS: n of them, from the row at p on, and all
unfoldable pub version_at : List ℕ → ℕ → Version
version_at s p = record { number = in_row s p row.number; body = take (in_row s p row.long) (drop (in_row s p row.offset) s) }

unfoldable pub versions_from : List ℕ → ℕ → ℕ → List Version
versions_from s p zero = []
versions_from s p (suc n) = version_at s p ∷ versions_from s (p + row.size) n

unfoldable pub kept : List ℕ → List Version
kept s = versions_from s head.size (head.count of s)

-- WHETHER A NUMBER IS AMONG THEM, and the body of the version that has it; none where no version has
unfoldable pub has : ℕ → List Version → Bool
has x [] = false
has x (v ∷ vs) = cond (eqb v.number x) true (has x vs)

unfoldable pub body_of : ℕ → List Version → List ℕ
body_of x [] = []
body_of x (v ∷ vs) = cond (eqb v.number x) v.body (body_of x vs)

unfoldable pub is_kept : List ℕ → ℕ → Bool
is_kept s x = has x (kept s)

unfoldable pub version_in : List ℕ → ℕ → List ℕ
version_in s x = body_of x (kept s)

-- numbers that rise, each at least `floor` and at most `last`
pub data Rising (last : ℕ) : ℕ → List Version → Type 0 where
  none : {floor : ℕ} → floor ≤ last + 1 → Rising last floor []
  next : {floor : ℕ} {v : Version} {vs : List Version} → floor ≤ v.number → Rising last (v.number + 1) vs → Rising last floor (v ∷ vs)

-- A GOOD STORE: the bytes of some versions, and then anything
pub record GoodStore (s : List ℕ) (last : ℕ) (vs : List Version) (free : List ℕ) : Type 0 where
  pub is : s ≡ laid last vs ++ free
  pub few : length vs ≤ places
  pub rising : Rising last lowest vs
  pub given : last < 65536
  pub short : length s ≤ longest

-- a good store that keeps these versions, `last` being the last number given
pub record Keeps (s : List ℕ) (last : ℕ) (vs : List Version) : Type 0 where
  pub free : List ℕ
  pub good : GoodStore s last vs free
