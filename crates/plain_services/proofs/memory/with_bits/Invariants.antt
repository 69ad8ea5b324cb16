-- `plain_services::memory::with_bits` meets its contract. The invariant: the bits of the first i bytes are changed.
use Rattle.octets.proofs.Kit.{◌-◌, ◌≤◌, ◌≡◌, length}
use Rattle.octets.specs.Splice.{splice}
use Rattle.device.{specs.Carry.{build, bit_at}}
use Rattle.plain_services.proofs.memory.with_bits.Given as goal

abbrev pub invariant-loop-i : goal.invariant-loop-i
invariant-loop-i l = (l.i ≤ l.n) × (length l.bodies ≡ 16384) × (l.bodies ≡ splice l.initial.bodies l.at (build l.i (bit_at l.initial.bodies l.at l.n l.d)))

abbrev pub decreases-loop-i : goal.decreases-loop-i
decreases-loop-i l = l.n - l.i
