-- `playback::rules::step` meets its contract. Assumes nothing.
use Rattle.std.proofs.lemmas.Result.{err_from_is_err_and}
use Rattle.playback.proofs.{Walking.{judged_out, judged_in}}
use Rattle.playback.proofs.rules.step.Goals as goal

pub returns-in_err-event_rule : goal.returns-in_err-event_rule
returns-in_err-event_rule c =
    let p = err_from_is_err_and c.from_residual.result c.from_residual.ensures.1 in
    rw (p.1, p.2) (judged_out _ _ _ _ c.part-e.ensures _ c.in_err-event_rule.ensures)

pub returns : goal.returns
returns c = judged_in _ _ _ _ c.part-e.ensures _ c.in_ok-event_rule.ensures c.byte.ensures.value
