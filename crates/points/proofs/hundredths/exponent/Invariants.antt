-- `points::hundredths::exponent` meets its contract.
use Rattle.octets.proofs.Kit.{◌-◌, ◌≡◌}
use Rattle.points.specs.Code.{exponent_from}
use Rattle.points.proofs.hundredths.exponent.Given as goal

abbrev pub invariant-loop-e : goal.invariant-loop-e
invariant-loop-e l = exponent_from (15 - l.e) l.m l.l l.e ≡ exponent_from 15 l.m l.l 0
