-- `versions::table::find` meets its contract. The invariant: no row passed has the number.
use Rattle.versions.proofs.{Loops.{Sought}}
use Rattle.versions.proofs.table.find.Given as goal

abbrev pub invariant-loop-i : goal.invariant-loop-i
invariant-loop-i l = Sought l.s l.n l.number l.i
