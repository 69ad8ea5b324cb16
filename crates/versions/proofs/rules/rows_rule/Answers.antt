-- `versions::rules::rows_rule` meets its contract: what is left to judge gives what all rows give.
use Rattle.std.proofs.lemmas.Result.{err_from_is_err_and}
use Rattle.octets.proofs.Kit.{refl, arith}
use Rattle.versions.proofs.{Rows.{walk_begin, walk_row, walk_refused, walk_go, walk_end}}
use Rattle.versions.proofs.rules.rows_rule.Goals as goal

pub loop-i-init : goal.loop-i-init
loop-i-init c = search walk_begin

pub row_rule-requires : goal.row_rule-requires
row_rule-requires c = search walk_row

pub returns-in_err-row_rule : goal.returns-in_err-row_rule
returns-in_err-row_rule c =
    let p = err_from_is_err_and c.from_residual.result c.from_residual.ensures.1 in
    rw (p.1, p.2) (walk_refused _ _ _ _ _ _ c.loop-i.invariant c.table_end-p.ensures _ (omega arith) c.in_err-row_rule.ensures)

pub loop-i-preserved : goal.loop-i-preserved
loop-i-preserved c =
    walk_go _ _ _ _ _ _ c.loop-i.invariant c.table_end-p.ensures _ (omega arith) c.in_ok-row_rule.ensures _ _ refl c.word.ensures c.word-in-loop-i.ensures

pub returns : goal.returns
returns c = search walk_end
