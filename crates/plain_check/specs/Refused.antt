-- What a call is refused by on a sheet: its number.
use Rattle.std.specs.Prelude.{ℕ, Result, Ok, Err}
use Rattle.plain_check.specs.declared.Refused.{Refused}
use Rattle.plain_check.specs.declared.Refused.TheVariants.{Bad, Old}

abbrev pub number_of : Refused → ℕ
number_of Bad = 4
number_of Old = 14

-- the number told of a result: 0 where nothing is refused
abbrev pub told : {A : Type 0} → Result A Refused → ℕ
told (Ok a) = 0
told (Err e) = number_of e
