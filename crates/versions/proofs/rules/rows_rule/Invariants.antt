-- `versions::rules::rows_rule` meets its contract: what is left to judge gives what all rows give.
use Rattle.versions.proofs.{Rows.{Walked}}
use Rattle.versions.proofs.rules.rows_rule.Given as goal

abbrev pub invariant-loop-i : goal.invariant-loop-i
invariant-loop-i l = Walked l.s l.n l.i l.floor l.at
