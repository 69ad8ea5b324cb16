-- `octets::number` meets its contract: after i turns x is the number in the first i bytes.
use Rattle.octets.proofs.Kit.{◌^◌}
use Rattle.octets.specs.Bytes.{IsNum}
use Rattle.octets.proofs.number.Given as goal

abbrev pub invariant-loop-i : goal.invariant-loop-i
invariant-loop-i l = IsNum l.s l.at l.i (256 ^ l.i) l.x
