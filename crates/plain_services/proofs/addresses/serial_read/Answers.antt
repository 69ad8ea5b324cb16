-- `plain_services::addresses::serial_read` meets its contract.
use Rattle.plain_services.proofs.{Addressing.{serial_shown, serial_other}}
use Rattle.plain_services.proofs.addresses.serial_read.Goals as goal

pub returns-then-serial-parts : goal.returns-then-serial-parts
returns-then-serial-parts c = serial_other _ _ _ c.if-serial-parts.true c.refused.ensures

pub returns : goal.returns
returns c = serial_shown _ _ _ c.if-serial-parts.false c.answered.ensures
