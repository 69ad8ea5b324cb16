-- `plain_services::groups::group_put` meets its contract.
use Rattle.octets.proofs.Kit.{arith, refl, inl, inr}
use Rattle.plain_services.proofs.{Finding.{found_below, found_one, found_none}, GroupValues.{room, six_room, unfit, six_put, bytes_put, none_put, put_taken, put_refused}}
use Rattle.plain_services.proofs.groups.group_put.Goals as goal
use Rattle.plain_services.proofs.groups.group_put.Goals.{then-answer, else-answer}

pub returns-in_default : goal.returns-in_default
returns-in_default c = none_put _ _ _ _ (found_none _ _ _ _ c.find_group.ensures c.in_default.is) _ _ _ (omega arith) c.refused.ensures

pub returns-then-not-takes : goal.returns-then-not-takes
returns-then-not-takes c =
    put_refused _ _ _ _ (found_one _ _ _ _ c.find_group.ensures _ c.in-Some.is) _ _ _ _
    (elim c.if-answer.branch [ then-answer w ↦ inl (w.if-answer.true, w.takes-is) | else-answer w ↦ inr (w.if-answer.false, w.takes-is) ])
    (found_below _ _ _ _ c.find_group.ensures _ c.in-Some.is) (simp c.if-not-takes.true) c.refused-then-not-takes.ensures

pub returns-then-d-group : goal.returns-then-d-group
returns-then-d-group c =
    put_taken _ _ _ _ (found_one _ _ _ _ c.find_group.ensures _ c.in-Some.is) _ _ _ _
    (elim c.if-answer.branch [ then-answer w ↦ inl (w.if-answer.true, w.takes-is) | else-answer w ↦ inr (w.if-answer.false, w.takes-is) ])
    (found_below _ _ _ _ c.find_group.ensures _ c.in-Some.is) (simp c.if-not-takes.false)
    (unfit _ _ (found_below _ _ _ _ c.find_group.ensures _ c.in-Some.is) _ _ _ c.if-d-group.true c.refused-then-d-group.ensures)

pub with_data-requires : goal.with_data-requires
with_data-requires c = six_room _ _ (found_below _ _ _ _ c.find_group.ensures _ c.in-Some.is) c.requires

pub returns-then-group-eq0 : goal.returns-then-group-eq0
returns-then-group-eq0 c =
    put_taken _ _ _ _ (found_one _ _ _ _ c.find_group.ensures _ c.in-Some.is) _ _ _ _
    (elim c.if-answer.branch [ then-answer w ↦ inl (w.if-answer.true, w.takes-is) | else-answer w ↦ inr (w.if-answer.false, w.takes-is) ])
    (found_below _ _ _ _ c.find_group.ensures _ c.in-Some.is) (simp c.if-not-takes.false)
    (six_put _ _ (found_below _ _ _ _ c.find_group.ensures _ c.in-Some.is) _ _ _ (omega (arith, c.ranges.v)) c.if-d-group.false c.if-group-eq0.true _ _ refl c.with_data.ensures c.done.ensures)

pub with_data-requires-2 : goal.with_data-requires-2
with_data-requires-2 c = let x = room _ _ (found_below _ _ _ _ c.find_group.ensures _ c.in-Some.is) c.requires in (x.0, omega (arith, x.1, c.if-d-group.false))

pub returns : goal.returns
returns c =
    put_taken _ _ _ _ (found_one _ _ _ _ c.find_group.ensures _ c.in-Some.is) _ _ _ _
    (elim c.if-answer.branch [ then-answer w ↦ inl (w.if-answer.true, w.takes-is) | else-answer w ↦ inr (w.if-answer.false, w.takes-is) ])
    (found_below _ _ _ _ c.find_group.ensures _ c.in-Some.is) (simp c.if-not-takes.false)
    (bytes_put _ _ (found_below _ _ _ _ c.find_group.ensures _ c.in-Some.is) _ _ _ c.if-d-group.false c.if-group-eq0.false _ _ refl c.with_data-2.ensures c.done-2.ensures)
