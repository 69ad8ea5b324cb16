-- `sheet::Sheet::range` meets its contract. The invariant: what has been reached is a run.
use Rattle.octets.proofs.Kit.{◌-◌}
use Rattle.sheet.specs.{Entries.{count}, Kind.{number_of}}
use Rattle.sheet.proofs.searches.Loops.{Going}
use Rattle.sheet.proofs.accepted.Sheet.range.Given as goal

abbrev pub invariant-loop-end : goal.invariant-loop-end
invariant-loop-end l = Going l.self.bytes.now (number_of l.kind) l.address l.n l.offset l.i l.end l.levels

abbrev pub decreases-loop-end : goal.decreases-loop-end
decreases-loop-end l = count l.self.bytes.now (number_of l.kind) - l.i
