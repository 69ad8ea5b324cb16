-- Why a call on a store is refused, by number; and what C gets of either outcome.
use Rattle.std.specs.Prelude.{ℕ, Result, Ok, Err}
use Rattle.sheet.specs.Rules.{old}
use Rattle.versions.specs.Rules.{bad_sheet, bad_store, not_kept}
use Rattle.versions.specs.Saving.{no_number, no_place, no_room}
use Rattle.versions.specs.Restoring.{not_at_zero, other_entries, high_count}
use Rattle.versions.specs.declared.saving.Saved.{Saved}
use Rattle.versions.specs.declared.refusal.Refusal.{Refusal}
use Rattle.versions.specs.declared.refusal.Refusal.TheVariants.{Bad, Old, Store, Number, Place, Room, NotKept, NotAtZero, OtherEntries, HighCount}

abbrev pub number_of : Refusal → ℕ
number_of Bad = bad_sheet
number_of Old = old
number_of Store = bad_store
number_of Number = no_number
number_of Place = no_place
number_of Room = no_room
number_of NotKept = not_kept
number_of NotAtZero = not_at_zero
number_of OtherEntries = other_entries
number_of HighCount = high_count

-- the number told of a check, 0 where nothing is refused; and of a call that is done, 1
abbrev pub told : {A : Type 0} → Result A Refusal → ℕ
told (Ok a) = 0
told (Err e) = number_of e

abbrev pub told_done : {A : Type 0} → Result A Refusal → ℕ
told_done (Ok a) = 1
told_done (Err e) = number_of e

-- the outcome of a save, and the number given, 0 on a refusal
abbrev pub told_saved : Result ℕ Refusal → Saved
told_saved (Ok n) = record { outcome = 0; number = n }
told_saved (Err e) = record { outcome = number_of e; number = 0 }
