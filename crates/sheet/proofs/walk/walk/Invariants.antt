-- `sheet::walk::walk` meets its contract. The invariants: no entry before this one has broken a rule, and `late` is 0 exactly if
-- none of their bodies has. Assumes nothing.
use Rattle.sheet.specs.Kind.{number_of}
use Rattle.sheet.proofs.rules.Rules.{Walked, Passed}
use Rattle.sheet.proofs.walk.walk.Given as goal

abbrev pub invariant-loop-i : goal.invariant-loop-i
invariant-loop-i l = Passed l.s (number_of l.kind) l.n l.now.at l.now.last l.now.end l.now.late l.i

abbrev pub invariant-loop-kind : goal.invariant-loop-kind
invariant-loop-kind l = Walked l.s l.kind-index l.now.at l.now.end l.now.late
