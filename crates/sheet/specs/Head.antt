-- The head of a sheet.
use Rattle.std.specs.Prelude.{ℕ, ◌+◌, ◌*◌, ◌/◌, ◌%◌, cond, List, ◌==◌}
use Rattle.sheet.specs.Layout.{Field, field, ◌of◌}

abbrev pub size : ℕ
size = 32

abbrev pub edition : Field
edition = field 0 1

abbrev pub regions : Field
regions = field 1 1

abbrev pub properties : Field
properties = field 2 1

abbrev pub groups : Field
groups = field 3 1

abbrev pub stated : Field
stated = field 4 2

abbrev pub serial : Field
serial = field 6 6

abbrev pub mask : Field
mask = field 12 2

abbrev pub flags : Field
flags = field 14 1

-- the number of user regions in edition 2, zero in edition 1
abbrev pub byte15 : Field
byte15 = field 15 1

abbrev pub address : Field
address = field 16 2

-- the key of level l, 0 to 2
abbrev pub key : ℕ → Field
key l = field (18 + 4 * l) 4

-- the number of the rules in edition 2, zero in edition 1
abbrev pub rules : Field
rules = field 30 1

abbrev pub zero31 : Field
zero31 = field 31 1

-- THE NUMBER OF THE RULES that a sheet asks for
unfoldable pub rules_of : List ℕ → ℕ
rules_of s = rules of s

-- the number of the later rules
abbrev pub later : ℕ
later = 1

-- the last number of rules that the sheet's edition knows
abbrev pub latest : List ℕ → ℕ
latest s = cond ((edition of s) == 2) later 0

-- how many user regions there are, and what byte 15 is beside that
abbrev pub users : List ℕ → ℕ
users s = cond ((edition of s) == 2) (byte15 of s) 0

abbrev pub spare : List ℕ → ℕ
spare s = cond ((edition of s) == 2) 0 (byte15 of s)

-- the flags: bit 0 programming mode, bit 1 verify
abbrev pub programming : List ℕ → ℕ
programming s = flags of s % 2

abbrev pub verify : List ℕ → ℕ
verify s = flags of s / 2 % 2
