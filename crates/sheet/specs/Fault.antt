-- The first thing that is wrong with a sheet: its number.
use Rattle.std.specs.Prelude.{ℕ, Result, Ok, Err}
use Rattle.sheet.specs.declared.Fault.{Fault}
use Rattle.sheet.specs.declared.Fault.TheVariants.{S1, S2, S3, S4, S5, S6, S7, S8, S9, Old}

abbrev pub number_of : Fault → ℕ
number_of S1 = 1
number_of S2 = 2
number_of S3 = 3
number_of S4 = 4
number_of S5 = 5
number_of S6 = 6
number_of S7 = 7
number_of S8 = 8
number_of S9 = 9
number_of Old = 14

-- the number told of a result: 0 where nothing is wrong
abbrev pub told : {A : Type 0} → Result A Fault → ℕ
told (Ok a) = 0
told (Err e) = number_of e
