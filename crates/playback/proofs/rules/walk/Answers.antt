-- `playback::rules::walk` meets its contract. Assumes nothing.
use Rattle.std.proofs.lemmas.Result.{err_from_is_err_and}
use Rattle.octets.proofs.Kit.{arith}
use Rattle.playback.proofs.{Walking.{head_long, walk_begins, walk_inside, walk_goes, walk_left, walk_yes, walk_no}}
use Rattle.playback.proofs.rules.walk.Goals as goal

pub count-n-requires : goal.count-n-requires
count-n-requires c = search head_long

pub loop-i-init : goal.loop-i-init
loop-i-init c = search walk_begins

pub step-requires : goal.step-requires
step-requires c = (walk_inside _ c.requires _ _ _ c.loop-i.invariant (omega arith), c.loop-i.invariant.inside)

pub returns-in_err-z : goal.returns-in_err-z
returns-in_err-z c =
    let p = err_from_is_err_and c.from_residual.result c.from_residual.ensures.1 in
    rw (p.1, p.2) (walk_left _ c.requires _ _ _ c.loop-i.invariant (omega arith) _ c.in_err-z.ensures)

pub loop-i-preserved : goal.loop-i-preserved
loop-i-preserved c = walk_goes _ c.requires _ _ _ c.loop-i.invariant (omega arith) _ c.in_ok-z.ensures

pub returns-then-z-t : goal.returns-then-z-t
returns-then-z-t c = search walk_yes

pub returns-else-z-t : goal.returns-else-z-t
returns-else-z-t c = search walk_no
