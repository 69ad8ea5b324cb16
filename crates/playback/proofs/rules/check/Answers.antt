-- `playback::rules::check` meets its contract. Assumes nothing.
use Rattle.std.proofs.lemmas.Result.{err_from_is_err_and}
use Rattle.octets.proofs.Kit.{refl}
use Rattle.playback.proofs.{Walking.{head_broken, head_kept, walk_told}, Refused.never_none}
use Rattle.playback.proofs.rules.check.Goals as goal

pub returns-in_err-head_rule : goal.returns-in_err-head_rule
returns-in_err-head_rule c =
    let p = err_from_is_err_and c.from_residual.result c.from_residual.ensures.1 in
    rw (p.1, p.2) (head_broken _ _ c.in_err-head_rule.ensures (never_none _))

pub walk-requires : goal.walk-requires
walk-requires c = head_kept _ _ c.in_ok-head_rule.ensures refl

pub returns : goal.returns
returns c = walk_told _ _ _ c.in_ok-head_rule.ensures refl c.walk.ensures
