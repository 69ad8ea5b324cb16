-- DEMAND 2 of any device: what it does with a request is what is due.
use Rattle.std.specs.Prelude.{List, ℕ, take}
use Rattle.device.specs.Octets.{Octets}
use Rattle.device.specs.Step.{Step, step_of}
use Rattle.device.specs.Asked.{Asked}
use Rattle.device.specs.Events.{Effect}
use Rattle.device.specs.Right.{Right}
use Rattle.device.specs.declared.Done.{Done}

-- a device as its steps, sheet and request being bytes
abbrev pub Serves : (Asked → Step) → Type 0
Serves step = (x : Asked) → Octets x.sheet → Octets x.apdu → Right x (step x)

-- our device
abbrev pub done : Asked → Step
done x = step_of x.room x.sheet x.session x.mode x.group x.apdu

-- what a call did, as its caller sees it: what came back, the bytes in front of the answer buffer o', and the sheet s'
abbrev pub effect_seen : Done → List ℕ → List ℕ → Effect
effect_seen r s' o' = record { outcome = r.outcome; answer = take r.count o'; sessions = r.sessions; sheet = s' }
