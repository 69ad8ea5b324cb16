-- The layout of a frame: message code, length of the additional information, that information, the table of fields, the bytes from octet 6 on.
use Rattle.std.specs.Prelude.{ℕ, ◌+◌, ◌^◌, ◌<◌, List, [], ◌∷◌, ◌++◌}
use Rattle.octets.specs.Bytes.{num_at, bytes_of}

-- the message codes that are read and written: L_Data.req and L_Data.ind
abbrev pub request : ℕ
request = 17

abbrev pub indication : ℕ
indication = 41

-- how many bytes of additional information a frame b says; they start at 2
abbrev pub info_length : List ℕ → ℕ
info_length b = num_at b 1 1

-- a field after l bytes of additional information: where it stands from there on, and in how many bytes
pub record Field : Type 0 where
  pub at : ℕ
  pub width : ℕ

abbrev pub field : ℕ → ℕ → Field
field a w = record { at = a; width = w }

abbrev pub control1 : Field
control1 = field 0 1

abbrev pub control2 : Field
control2 = field 1 1

abbrev pub source : Field
source = field 2 2

abbrev pub destination : Field
destination = field 4 2

-- one less than the bytes from octet 6 on
abbrev pub stated : Field
stated = field 6 1

-- THE TABLE, and how many bytes it takes
abbrev pub table : List Field
table = control1 ∷ control2 ∷ source ∷ destination ∷ stated ∷ []

abbrev pub size : ℕ
size = 7

-- where the table stands behind l bytes of additional information, and where octet 6 does
abbrev pub table_at : ℕ → ℕ
table_at l = 2 + l

abbrev pub octet6 : ℕ → ℕ
octet6 l = table_at l + size

-- the number of a field in a frame
infix 75 ◌of◌
abbrev pub ◌of◌ : Field → List ℕ → ℕ
f of b = num_at b (table_at (info_length b) + f.at) f.width

-- the bytes of a table's numbers
unfoldable pub bytes_in : List Field → List ℕ → List ℕ
bytes_in [] x = []
bytes_in (f ∷ fs) [] = []
bytes_in (f ∷ fs) (n ∷ x) = bytes_of f.width n ++ bytes_in fs x

-- each number fits its field; of the numbers that the code holds, each does by its type
abbrev pub Fit : List Field → List ℕ → Type 0
Fit [] [] = Unit {0}
Fit [] (n ∷ x) = ⊥
Fit (f ∷ fs) [] = ⊥
Fit (f ∷ fs) (n ∷ x) = (n < 256 ^ f.width) × Fit fs x
