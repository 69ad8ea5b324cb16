-- `plain_check::bodies::keeps_6_to_9` meets its contract. The invariants: every entry passed, and its body, is good, and `end` is where the
-- last of these bodies ends.
use Rattle.plain_check.specs.Kind.{number_of}
use Rattle.plain_check.proofs.{Walking.{Walked, Passed}}
use Rattle.plain_check.proofs.bodies.keeps_6_to_9.Given as goal

abbrev pub invariant-loop-i : goal.invariant-loop-i
invariant-loop-i l = Passed l.s (number_of l.kind) l.i-end l.i l.end

abbrev pub invariant-loop-kind : goal.invariant-loop-kind
invariant-loop-kind l = Walked l.s l.kind-index l.end
