-- `octets::number` meets its contract: after i turns x is the number in the first i bytes.
use Rattle.octets.proofs.Kit.{arith}
use Rattle.octets.proofs.{Numbers.{num_none, num_more, num_small}}
use Rattle.octets.proofs.number.Goals as goal

pub loop-i-init : goal.loop-i-init
loop-i-init c = num_none _ _

pub overflow_mul-x : goal.overflow_mul-x
overflow_mul-x c = omega (arith, num_small _ _ c.loop-i.invariant.below (omega arith))

pub overflow_add-x : goal.overflow_add-x
overflow_add-x c = omega (arith, num_small _ _ c.loop-i.invariant.below (omega arith))

pub loop-i-preserved : goal.loop-i-preserved
loop-i-preserved c = num_more _ _ _ _ _ c.loop-i.invariant c.byte.ensures
