-- The input: a sheet, then a trace.
use Rattle.std.specs.Prelude.{ℕ, min, cond, List, ltb, length}
use Rattle.sheet.specs.Layout.{◌of◌}
use Rattle.sheet.specs.Head as head

-- HOW MANY BYTES ARE THE SHEET: as many as it states. Input that ends sooner, or before it has stated that, is all sheet
abbrev pub sheet_length : List ℕ → ℕ
sheet_length input = cond (ltb (length input) 6) (length input) (min (head.stated of input) (length input))
