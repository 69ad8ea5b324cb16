-- `parts::lists::entries_from` meets its contract.
use Rattle.octets.proofs.Kit.{arith}
use Rattle.std.proofs.lemmas.List.{length-replicate}
use Rattle.parts.proofs.{Filled.{none_filled, one_filled, all_filled}}
use Rattle.parts.proofs.lists.entries_from.Goals as goal

pub loop-i-init : goal.loop-i-init
loop-i-init g c = none_filled (length-replicate _ _)

pub loop-i-preserved : goal.loop-i-preserved
loop-i-preserved g c = one_filled c.loop-i.invariant (omega arith) (omega arith) (rw c.SIZE.ensures at c.read.ensures)

pub returns : goal.returns
returns g c = (c.loop-i.invariant.full, all_filled c.loop-i.invariant (omega arith))
