-- `playback::playing::due_in` meets its contract. Assumes nothing.
use Rattle.std.proofs.lemmas.Result.{err_from_is_err_and}
use Rattle.octets.proofs.Kit.{arith}
use Rattle.playback.proofs.{PlayedBack.{accepted, due_small, refused_trace, refused_room, not_refused, are_due}}
use Rattle.playback.proofs.playing.due_in.Goals as goal

pub returns-in_err-check-clause-refused : goal.returns-in_err-check-clause-refused
returns-in_err-check-clause-refused c =
    let p = err_from_is_err_and c.from_residual.result c.from_residual.ensures.1 in
    rw (p.1, p.2) (refused_trace _ _ _ _ _ c.in_err-check.ensures)

pub due-n-requires : goal.due-n-requires
due-n-requires c = accepted _ c.args.from c.args.limit c.args.log.now c.in_ok-check.ensures

pub overflow_mul-n : goal.overflow_mul-n
overflow_mul-n c = record { fits = due_small _ _ _ c.args.log.now _ c.in_ok-check.ensures c.due-n.ensures }

pub returns-then-log-n-clause-refused : goal.returns-then-log-n-clause-refused
returns-then-log-n-clause-refused c = refused_room _ _ _ _ _ c.in_ok-check.ensures c.due-n.ensures (omega arith)

pub returns-clause-refused : goal.returns-clause-refused
returns-clause-refused c = not_refused _ _ _ _ _ c.in_ok-check.ensures c.due-n.ensures (omega arith)

pub returns-clause-due : goal.returns-clause-due
returns-clause-due c = are_due _ _ _ _ _ c.in_ok-check.ensures c.due-n.ensures (omega arith)
