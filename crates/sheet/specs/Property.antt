-- The entry of a property.
use Rattle.std.specs.Prelude.{ℕ}
use Rattle.sheet.specs.Layout.{Field, field}

abbrev pub size : ℕ
size = 12

abbrev pub object : Field
object = field 0 1

abbrev pub id : Field
id = field 1 1

-- object and id as one number
abbrev pub object_id : Field
object_id = field 0 2

-- bit 7 writable, bit 6 zero
abbrev pub typ : Field
typ = field 2 1

-- the bytes of an element
abbrev pub element : Field
element = field 3 1

abbrev pub maximum : Field
maximum = field 4 2

abbrev pub count : Field
count = field 6 2

abbrev pub offset : Field
offset = field 8 2

abbrev pub levels : Field
levels = field 10 1

abbrev pub zero : Field
zero = field 11 1
