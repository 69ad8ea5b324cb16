-- The entry of a region of memory.
use Rattle.std.specs.Prelude.{ℕ}
use Rattle.sheet.specs.Layout.{Field, field}

abbrev pub size : ℕ
size = 8

abbrev pub address : Field
address = field 0 2

abbrev pub length : Field
length = field 2 2

abbrev pub offset : Field
offset = field 4 2

abbrev pub levels : Field
levels = field 6 1

abbrev pub zero : Field
zero = field 7 1
