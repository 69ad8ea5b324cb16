-- The refusals of reading and writing a value, by their numbers.
use Rattle.std.specs.Prelude.{ℕ, Result, Ok, Err}
use Rattle.points.specs.declared.Refusal.{Refusal}
use Rattle.points.specs.declared.Refusal.TheVariants.{Length, Bits, Invalid, Range, Infinite, Kind}

abbrev pub number_of : Refusal → ℕ
number_of Length = 20
number_of Bits = 21
number_of Invalid = 22
number_of Range = 23
number_of Infinite = 24
number_of Kind = 25

-- an outcome by its number: 0, or that of the refusal
abbrev pub told : {A : Type 0} → Result A Refusal → ℕ
told (Ok a) = 0
told (Err e) = number_of e
