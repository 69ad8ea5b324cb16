-- `plain_services::groups::group_read` meets its contract.
use Rattle.octets.proofs.Kit.{arith, refl}
use Rattle.plain_services.proofs.{Finding.{found_below, found_one, found_none}, Joined.{was_no, was_yes}, GroupValues.{room, six_room, six_sent, bytes_sent, none_read, is_read, not_read}}
use Rattle.plain_services.proofs.groups.group_read.Goals as goal

pub returns-in_default : goal.returns-in_default
returns-in_default c = none_read _ _ _ _ (found_none _ _ _ _ c.find_group.ensures c.in_default.is) (omega arith) c.refused.ensures

pub returns-then-not-group : goal.returns-then-not-group
returns-then-not-group c =
    not_read _ _ _ _ (found_one _ _ _ _ c.find_group.ensures _ c.in-Some.is) (found_below _ _ _ _ c.find_group.ensures _ c.in-Some.is)
    (was_no _ (simp c.if-not-group.true)) c.refused-then-not-group.ensures

pub bounds-bodies-at : goal.bounds-bodies-at
bounds-bodies-at c = let x = six_room _ _ (found_below _ _ _ _ c.find_group.ensures _ c.in-Some.is) c.requires in omega (arith, x.0, x.1)

pub returns-then-group-eq0 : goal.returns-then-group-eq0
returns-then-group-eq0 c =
    is_read _ _ _ _ (found_one _ _ _ _ c.find_group.ensures _ c.in-Some.is) (found_below _ _ _ _ c.find_group.ensures _ c.in-Some.is) (was_yes _ (simp c.if-not-group.false))
    (six_sent _ _ (found_below _ _ _ _ c.find_group.ensures _ c.in-Some.is) _ _ refl c.if-group-eq0.true c.answered.ensures)

pub slice_bounds-answered-end-2 : goal.slice_bounds-answered-end-2
slice_bounds-answered-end-2 c = let x = room _ _ (found_below _ _ _ _ c.find_group.ensures _ c.in-Some.is) c.requires in omega (arith, x.0, x.1)

pub answered-requires-2 : goal.answered-requires-2
answered-requires-2 c = omega (arith, (room _ _ (found_below _ _ _ _ c.find_group.ensures _ c.in-Some.is) c.requires).2)

pub returns : goal.returns
returns c =
    is_read _ _ _ _ (found_one _ _ _ _ c.find_group.ensures _ c.in-Some.is) (found_below _ _ _ _ c.find_group.ensures _ c.in-Some.is) (was_yes _ (simp c.if-not-group.false))
    (bytes_sent _ _ (found_below _ _ _ _ c.find_group.ensures _ c.in-Some.is) _ c.if-group-eq0.false c.answered-2.ensures)
