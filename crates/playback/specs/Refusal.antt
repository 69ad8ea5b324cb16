-- Why a trace is not played, by number.
use Rattle.std.specs.Prelude.{ℕ, Result, Ok, Err}
use Rattle.playback.specs.declared.refusal.Refusal.{Refusal}
use Rattle.playback.specs.declared.refusal.Refusal.TheVariants.{Short, Many, Table, Kind, Stray, Zero, Offset, PastEnd, LeftOver, Log, Marks, Numbers}

abbrev pub number_of : Refusal → ℕ
number_of Short = 50
number_of Many = 51
number_of Table = 52
number_of Kind = 53
number_of Stray = 54
number_of Zero = 55
number_of Offset = 56
number_of PastEnd = 57
number_of LeftOver = 58
number_of Log = 59
number_of Marks = 70
number_of Numbers = 71

-- the number told of a result: 0 where nothing is refused
abbrev pub told : {A : Type 0} → Result A Refusal → ℕ
told (Ok a) = 0
told (Err e) = number_of e
