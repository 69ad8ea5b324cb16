-- `account::catch_up` meets its contract: the bytes of the part before place i are seen and marked, and the others as they were. Assumes nothing.
use Rattle.octets.proofs.Kit.{◌+◌}
use Rattle.account.proofs.{Marking.{Passed}}
use Rattle.account.proofs.catch_up.Given as goal

abbrev pub invariant-loop-i : goal.invariant-loop-i
invariant-loop-i l = Passed l.sheet l.number l.fn.part.offset (l.fn.part.offset + l.fn.part.length) l.i l.initial.seen l.initial.marks l.seen l.marks
