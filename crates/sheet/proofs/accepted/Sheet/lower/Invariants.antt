-- `sheet::Sheet::lower` meets its contract. The invariant: before lo the first words are below the key, from hi on they are not.
use Rattle.octets.proofs.Kit.{◌-◌}
use Rattle.sheet.specs.Kind.{number_of}
use Rattle.sheet.proofs.{searches.{Halves.{Halved}}}
use Rattle.sheet.proofs.accepted.Sheet.lower.Given as goal

abbrev pub invariant-loop-lo : goal.invariant-loop-lo
invariant-loop-lo l = Halved l.self.bytes.now (number_of l.kind) l.key l.lo l.hi

abbrev pub decreases-loop-lo : goal.decreases-loop-lo
decreases-loop-lo l = l.hi - l.lo
