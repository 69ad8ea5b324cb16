-- The entry of a group object.
use Rattle.std.specs.Prelude.{ℕ}
use Rattle.sheet.specs.Layout.{Field, field}

abbrev pub size : ℕ
size = 8

abbrev pub address : Field
address = field 0 2

-- the length in bytes, 0 for six bits
abbrev pub code : Field
code = field 2 1

-- 1 read, 2 write, 4 take Response
abbrev pub flags : Field
flags = field 3 1

abbrev pub offset : Field
offset = field 4 2

abbrev pub zeros : Field
zeros = field 6 2
