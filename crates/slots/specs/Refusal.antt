-- Why a slot holds no sheet, and why there is no piece of work, by number; and what C gets of either outcome.
use Rattle.std.specs.Prelude.{ℕ, Result, Ok, Err}
use Rattle.slots.specs.{Slot.bad, Parts.barred}
use Rattle.slots.specs.declared.{Slot.Slot, Judging.Judging, refusal.Refusal.Refusal}
use Rattle.slots.specs.declared.refusal.Refusal.TheVariants.{Short, Unmarked, Length, Unread, Sum, Buffer, NoRoom}

abbrev pub number_of : Refusal → ℕ
number_of Short = 80
number_of Unmarked = 81
number_of Length = 82
number_of Unread = 83
number_of Sum = 84
number_of Buffer = 85
number_of NoRoom = 86

-- a slot's front that was read, or its refusal
abbrev pub front_flat : Result Judging Refusal → Judging
front_flat (Ok j) = j
front_flat (Err r) = barred (number_of r)

-- what a slot holds, or its refusal
abbrev pub slot_flat : Result Slot Refusal → Slot
slot_flat (Ok s) = s
slot_flat (Err r) = bad (number_of r)
