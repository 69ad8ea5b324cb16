-- `plain_services::addresses::serial_write` meets its contract.
use Rattle.octets.proofs.Kit.{arith, refl}
use Rattle.plain_services.proofs.{Addressing.{serial_set, serial_kept}}
use Rattle.plain_services.proofs.addresses.serial_write.Goals as goal

pub returns-then-serial-parts : goal.returns-then-serial-parts
returns-then-serial-parts c = serial_kept _ _ _ _ c.if-serial-parts.true c.refused.ensures

pub returns : goal.returns
returns c = serial_set _ _ _ _ _ c.if-serial-parts.false (omega arith) refl c.done.ensures
