-- DEMAND 2: THE STEP THAT IS DUE, as plain propositions. Every outcome, answer and store has its condition here or in the files of the services.
use Rattle.std.specs.Prelude.{ℕ, ◌≡◌}
use Rattle.std.specs.Prelude.{Err}
use Rattle.pdu.specs.declared.ReadRefusal.TheVariants as unread
use Rattle.sheet.specs.Head.{rules_of}
use Rattle.pdu.specs.Read.{read_pdu}
use Rattle.pdu.specs.declared.Service.{Service}
use Rattle.device.specs.Step.{Step}
use Rattle.device.specs.Asked.{Asked, quiet, Takes, Names, Served, Refusal, Ready}
use Rattle.device.specs.GroupsDue.{GroupsDue}
use Rattle.device.specs.AddressesDue.{AddressesDue}
use Rattle.device.specs.PropertiesDue.{PropertiesDue}
use Rattle.device.specs.MemoryDue.{MemoryDue}
use Rattle.device.specs.KeysDue.{KeysDue}

pub data Right (x : Asked) : Step → Type 0 where
  -- 3 to 10
  before_service : {n : ℕ} → Refusal x n → Right x (quiet x n)
  unknown : Ready x → ((k : Service) → Names x k → Served (rules_of x.sheet) k → ⊥) → Right x (quiet x 8)
  other_mode : (k : Service) → Ready x → Names x k → Served (rules_of x.sheet) k → (Takes (rules_of x.sheet) k x.mode → ⊥) → Right x (quiet x 9)
  unfit : (k : Service) → Ready x → Names x k → Takes (rules_of x.sheet) k x.mode → read_pdu x.apdu ≡ Err unread.Fields → Right x (quiet x 10)
  -- the rest by service
  groups : {r : Step} → GroupsDue x r → Right x r
  addresses : {r : Step} → AddressesDue x r → Right x r
  properties : {r : Step} → PropertiesDue x r → Right x r
  memory : {r : Step} → MemoryDue x r → Right x r
  keys : {r : Step} → KeysDue x r → Right x r
