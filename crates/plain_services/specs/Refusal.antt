-- The refusals by their numbers.
use Rattle.std.specs.Prelude.{ℕ, Result, Ok, Err}
use Rattle.plain_services.specs.declared.Refusal.{Refusal}
use Rattle.plain_services.specs.declared.Refusal.TheVariants.{NotForUs, Room, Bad, Length, Mode, Unconnected, Service, OtherMode, Fields, Denied, Silent, Old}

abbrev pub number_of : Refusal → ℕ
number_of NotForUs = 2
number_of Room = 3
number_of Bad = 4
number_of Length = 5
number_of Mode = 6
number_of Unconnected = 7
number_of Service = 8
number_of OtherMode = 9
number_of Fields = 10
number_of Denied = 11
number_of Silent = 12
number_of Old = 14

-- the number told of a result: 0 where nothing is refused
abbrev pub told : {A : Type 0} → Result A Refusal → ℕ
told (Ok a) = 0
told (Err r) = number_of r
