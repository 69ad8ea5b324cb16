-- `account::catch_up` meets its contract: the bytes of the part before place i are seen and marked, and the others as they were. Assumes nothing.
use Rattle.octets.proofs.Kit.{refl, arith}
use Rattle.account.proofs.{Marking.{pass_none, pass_more, pass_all}}
use Rattle.account.proofs.catch_up.Goals as goal

pub loop-i-init : goal.loop-i-init
loop-i-init c = pass_none _ _ _ _ _ _ (omega arith)

pub bounds-seen-i : goal.bounds-seen-i
bounds-seen-i c = omega (arith, c.loop-i.invariant.caught.same_bytes)

pub bounds-marks-i : goal.bounds-marks-i
bounds-marks-i c = omega (arith, c.loop-i.invariant.caught.same_marks)

pub bounds-marks-i-in-loop-i : goal.bounds-marks-i-in-loop-i
bounds-marks-i-in-loop-i c = omega (arith, c.loop-i.invariant.caught.same_marks)

pub bounds-seen-i-in-loop-i : goal.bounds-seen-i-in-loop-i
bounds-seen-i-in-loop-i c = omega (arith, c.loop-i.invariant.caught.same_bytes)

pub loop-i-preserved : goal.loop-i-preserved
loop-i-preserved c =
    let l = c.loop-i in
    pass_more _ _ _ _ _ _ l.invariant (omega arith) (omega arith) (omega arith) _ _ c.mark_of.ensures refl

pub shape_of-marks : goal.shape_of-marks
shape_of-marks c = c.loop-i.invariant.caught.same_marks

pub shape_of-seen : goal.shape_of-seen
shape_of-seen c = c.loop-i.invariant.caught.same_bytes

pub returns : goal.returns
returns c = pass_all _ _ _ _ _ _ c.loop-i.invariant (omega arith)
