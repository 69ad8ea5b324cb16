-- `versions::table::bodies_end` meets its contract: what is left to add gives what all of it gives.
use Rattle.versions.proofs.{Loops.{Ending}}
use Rattle.versions.proofs.table.bodies_end.Given as goal

abbrev pub invariant-loop-i : goal.invariant-loop-i
invariant-loop-i l = Ending l.s l.n l.i l.at
