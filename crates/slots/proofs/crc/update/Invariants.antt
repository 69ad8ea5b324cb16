-- `slots::crc::update` meets its contract. Assumes nothing.
-- what is left gives what all gives
use Rattle.octets.proofs.Kit.{◌≡◌, drop}
use Rattle.slots.specs.Crc.{crc_from}
use Rattle.slots.proofs.crc.update.Given as goal

abbrev pub invariant-loop-b : goal.invariant-loop-b
invariant-loop-b l = crc_from l.x (drop l.b-index l.s) ≡ crc_from l.initial.x l.s
