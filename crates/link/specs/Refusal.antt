-- Why a frame that reads and means something is no event, by its number.
use Rattle.std.specs.Prelude.{ℕ}
use Rattle.link.specs.declared.Refusal.{Refusal}
use Rattle.link.specs.declared.Refusal.TheVariants.{Elsewhere, Stranger, Taken, NotConnected, Room, Itself}

abbrev pub number_of : Refusal → ℕ
number_of Elsewhere = 60
number_of Stranger = 61
number_of Taken = 62
number_of NotConnected = 63
number_of Room = 64
number_of Itself = 65
