-- The loop of `device::store::bits`.
use Rattle.octets.proofs.Kit.{◌≡◌}
use Rattle.octets.specs.Splice.{splice}
use Rattle.device.specs.Carry.{build, bit_at}
use Rattle.device.proofs.store.bits.Given as goal

abbrev pub invariant-loop-i : goal.invariant-loop-i
invariant-loop-i l = l.s ≡ splice l.initial.s l.at (build l.i (bit_at l.initial.s l.at l.n l.d))
