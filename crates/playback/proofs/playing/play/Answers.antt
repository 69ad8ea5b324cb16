-- `playback::playing::play` meets its contract. Assumes nothing.
use Rattle.std.proofs.lemmas.Result.{err_from_is_err_and}
use Rattle.octets.proofs.Kit.{arith}
use Rattle.playback.proofs.{PlayedBack.{due_few, plays_refused, plays_all}}
use Rattle.playback.proofs.playing.play.Goals as goal

pub returns-in_err-n : goal.returns-in_err-n
returns-in_err-n c =
    let p = err_from_is_err_and c.from_residual.result c.from_residual.ensures.1 in
    rw (p.1, p.2)
    record { did = plays_refused _ _ _ _ _ _ _ c.in_err-n.ensures.refused; sheet_bytes = λ i. (c.type_inv.sheet i).fits; trace_bytes = λ i. (c.type_inv.trace i).fits }

pub play_events-after-requires : goal.play_events-after-requires
play_events-after-requires c = c.in_ok-n.ensures.due.ready

pub overflow_cast-result : goal.overflow_cast-result
overflow_cast-result c = record { fits = omega (arith, due_few _ _ _ _ _ c.in_ok-n.ensures.due) }

pub returns : goal.returns
returns c =
    record {
      did = plays_all _ _ _ _ _ _ _ _ _ _ c.in_ok-n.ensures.refused c.in_ok-n.ensures.due c.play_events-after.ensures;
      sheet_bytes = λ i. (c.slice_known-1.given i).fits;
      trace_bytes = λ i. (c.type_inv.trace i).fits;
    }
