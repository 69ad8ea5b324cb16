-- `slots::crc::byte_step` meets its contract. Assumes nothing.
use Rattle.octets.proofs.Kit.{◌≡◌, bit_xor}
use Rattle.slots.specs.Crc.{bits}
use Rattle.slots.proofs.crc.byte_step.Given as goal

abbrev pub invariant-loop : goal.invariant-loop
invariant-loop l = l.x ≡ bits l.counter (bit_xor l.c l.b)
