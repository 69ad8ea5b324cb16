-- `sheet::walk::users_rule` meets its contract. The invariant: no user region passed has broken S6.
use Rattle.octets.proofs.Kit.{◌≡◌}
use Rattle.sheet.proofs.{rules.Rules.{Ordered}}
use Rattle.sheet.proofs.walk.users_rule.Given as goal

abbrev pub invariant-loop-i : goal.invariant-loop-i
invariant-loop-i l = Ordered l.s l.n l.now.at l.now.last l.i × (l.now.end ≡ 0) × (l.now.late ≡ 0)
