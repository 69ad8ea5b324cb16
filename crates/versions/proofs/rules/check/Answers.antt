-- `versions::rules::check` meets its contract.
use Rattle.std.proofs.lemmas.Result.{err_from_is_err_and}
use Rattle.versions.proofs.{Rows.{headed, head_refused, in_rows}}
use Rattle.versions.proofs.rules.check.Goals as goal

pub returns-in_err-head_rule : goal.returns-in_err-head_rule
returns-in_err-head_rule c =
    let p = err_from_is_err_and c.from_residual.result c.from_residual.ensures.1 in
    rw (p.1, p.2) (head_refused _ _ c.in_err-head_rule.ensures)

pub rows_rule-requires : goal.rows_rule-requires
rows_rule-requires c = headed _ c.in_ok-head_rule.ensures

pub returns : goal.returns
returns c = in_rows _ _ c.in_ok-head_rule.ensures c.rows_rule.ensures
