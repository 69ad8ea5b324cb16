-- The kinds of events that an entry says, by number.
use Rattle.std.specs.Prelude.{ℕ}
use Rattle.playback.specs.declared.event.EventKind.{EventKind}
use Rattle.playback.specs.declared.event.EventKind.TheVariants.{Request, Connect, Disconnect, On, Off}

abbrev pub kind_number : EventKind → ℕ
kind_number Request = 0
kind_number Connect = 1
kind_number Disconnect = 2
kind_number On = 3
kind_number Off = 4
