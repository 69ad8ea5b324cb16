-- `playback::marking::play_marked` meets its contract. Assumes nothing.
use Rattle.std.proofs.lemmas.Result.{err_from_is_err_and}
use Rattle.octets.proofs.Kit.{rules, arith}
use Rattle.playback.proofs.{PlayedBack.due_few, Marked.{marking_refused, marking_no_marks, marking_all, roomy, seen_fits}}
use Rattle.playback.proofs.marking.play_marked.Goals as goal

pub returns-in_err-n : goal.returns-in_err-n
returns-in_err-n c =
    let p = err_from_is_err_and c.from_residual.result c.from_residual.ensures.1 in
    rw (p.1, p.2)
    record { did = marking_refused _ _ _ _ _ _ _ _ _ _ c.in_err-n.ensures.refused; sheet_bytes = λ i. (c.type_inv.sheet i).fits; trace_bytes = λ i. (c.type_inv.trace i).fits }

pub mark_rule-requires : goal.mark_rule-requires
mark_rule-requires c = (due_few _ _ _ _ _ c.in_ok-n.ensures.due, search rules)

pub returns-in_err-mark_rule : goal.returns-in_err-mark_rule
returns-in_err-mark_rule c =
    let p = err_from_is_err_and c.from_residual-in_err-mark_rule.result c.from_residual-in_err-mark_rule.ensures.1 in
    rw (p.1, p.2)
    record { did = marking_no_marks _ _ _ _ _ _ _ _ _ _ c.in_ok-n.ensures.refused c.in_ok-n.ensures.due _ c.in_err-mark_rule.ensures; sheet_bytes = λ i. (c.type_inv.sheet i).fits; trace_bytes = λ i. (c.type_inv.trace i).fits }

pub splice-requires : goal.splice-requires
splice-requires c = seen_fits _ _ _ _ _ c.in_ok-mark_rule.ensures

pub mark_events-after-requires : goal.mark_events-after-requires
mark_events-after-requires c = (c.in_ok-n.ensures.due.ready, roomy _ _ _ _ _ _ c.in_ok-mark_rule.ensures c.splice.ensures)

pub overflow_cast-result : goal.overflow_cast-result
overflow_cast-result c = record { fits = omega (arith, due_few _ _ _ _ _ c.in_ok-n.ensures.due) }

pub returns : goal.returns
returns c =
    record {
      did =
          marking_all _ _ _ _ _ _ _ _ _ _ c.in_ok-n.ensures.refused c.in_ok-n.ensures.due _ _ _ _ _ c.in_ok-mark_rule.ensures c.mark_events-after.ensures;
      sheet_bytes = λ i. (c.slice_known-1.given i).fits;
      trace_bytes = λ i. (c.type_inv.trace i).fits;
    }
