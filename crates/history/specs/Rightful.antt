-- A device that does what is due, for each event; and our device.
use Rattle.std.specs.Prelude.{ℕ, Bool, List}
use Rattle.device.specs.Octets.{Octets}
use Rattle.device.specs.Events.{Effect, State}
use Rattle.events.specs.Events.{Event, connect, disconnect, button, request, event_of, restore}
use Rattle.device.specs.Due.{ConnectDue, DisconnectDue, ButtonDue, RequestDue}
use Rattle.events.specs.Due.{RestoreDue}
use Rattle.history.specs.Keeps.{Device}

pub record Rightful (step : State → Event → Effect) : Type 0 where
  pub connects : (x : State) (c : ℕ) → ConnectDue c x (step x (connect c))
  pub disconnects : (x : State) (c : ℕ) → DisconnectDue c x (step x (disconnect c))
  pub presses : (x : State) (on : Bool) → ButtonDue on x (step x (button on))
  pub answers :
      (x : State) (mode c g : ℕ) (a out : List ℕ) → Octets x.sheet → Octets a →
      RequestDue mode c g a out x (step x (request mode c g a out))
  pub restores : (x : State) (c n : ℕ) (st : List ℕ) → RestoreDue c n st x (step x (restore c n st))

-- OUR DEVICE looks at its state alone
abbrev pub ours : Device
ours f h = event_of
