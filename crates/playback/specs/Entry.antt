-- An event of a trace, as an entry of its table.
use Rattle.std.specs.Prelude.{ℕ, List, [], ◌∷◌}
use Rattle.sheet.specs.Layout.{Field, field}

abbrev pub size : ℕ
size = 8

-- 0 request, 1 connect, 2 disconnect, 3 button on, 4 button off
abbrev pub kind : Field
kind = field 0 1

-- the mode in the low four bits, the connection in the high four
abbrev pub mode : Field
mode = field 1 1

abbrev pub group : Field
group = field 2 2

-- where the APDU begins, from the trace's start, and how long it is
abbrev pub offset : Field
offset = field 4 2

abbrev pub length : Field
length = field 6 1

abbrev pub zero : Field
zero = field 7 1

-- THE TABLE: the fields, end to end
abbrev pub table : List Field
table = kind ∷ mode ∷ group ∷ offset ∷ length ∷ zero ∷ []
