-- `plain_services::memory::with_bits` meets its contract. The invariant: the bits of the first i bytes are changed.
use Rattle.octets.proofs.Kit.{◌∙◌, length-set, arith}
use Rattle.device.{proofs.leaves.Bits.bits_more}
use Rattle.plain_services.proofs.{MemoryRuns.{bits_first, all_bits}}
use Rattle.plain_services.proofs.memory.with_bits.Goals as goal

pub loop-i-init : goal.loop-i-init
loop-i-init c = (omega arith, c.requires.0, bits_first _ _ _)

pub overflow_add-bodies : goal.overflow_add-bodies
overflow_add-bodies c = omega (arith, c.requires.1)

pub bounds-bodies-at : goal.bounds-bodies-at
bounds-bodies-at c = omega (arith, c.loop-i.invariant.1, c.requires.1)

pub bounds-d-i : goal.bounds-d-i
bounds-d-i c = omega (arith, c.requires.2)

pub bounds-d-many : goal.bounds-d-many
bounds-d-many c = omega (arith, c.requires.2)

pub overflow_add-bodies-in-loop-i-2 : goal.overflow_add-bodies-in-loop-i-2
overflow_add-bodies-in-loop-i-2 c = omega (arith, c.requires.1)

pub bounds-bodies-at-in-loop-i : goal.bounds-bodies-at-in-loop-i
bounds-bodies-at-in-loop-i c = omega (arith, c.loop-i.invariant.1, c.requires.1)

pub loop-i-preserved : goal.loop-i-preserved
loop-i-preserved c = (
  omega arith,
  length-set c.loop-i.bodies _ _ ∙ c.loop-i.invariant.1,
  bits_more _ _ _ _ (omega (arith, c.requires.0, c.requires.1)) c.loop-i.bodies c.loop-i.i c.loop-i.invariant.2 c.loop-i-test.true,
)

pub returns : goal.returns
returns c = all_bits _ _ _ _ _ c.loop-i.i (omega (arith, c.loop-i.invariant.0)) c.loop-i.invariant.2
