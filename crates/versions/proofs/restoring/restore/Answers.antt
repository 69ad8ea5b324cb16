-- `versions::restoring::restore` meets its contract.
use Rattle.std.proofs.lemmas.Result.{err_from_is_err_and}
use Rattle.octets.proofs.Kit.{refl, sym, ◌∙◌}
use Rattle.versions.specs.Walk.{Extents}
use Rattle.versions.proofs.{Restorer.{bad_sheet_lem, bad_store_lem, not_kept_lem, not_zero, not_given, gives_long, was_restored}}
use Rattle.versions.proofs.restoring.restore.Goals as goal

pub returns-in_err-known : goal.returns-in_err-known
returns-in_err-known c =
    let p = err_from_is_err_and c.from_residual.result c.from_residual.ensures.1 in
    rw p.1 (bad_sheet_lem _ _ _ _ _ _ p.2 c.in_err-known.ensures.refusal)

pub returns-in_err-check : goal.returns-in_err-check
returns-in_err-check c =
    let p = err_from_is_err_and c.from_residual-in_err-check.result c.from_residual-in_err-check.ensures.1 in
    rw (p.1, p.2) (bad_store_lem _ _ _ _ c.in_ok-known.ensures.refusal _ c.in_err-check.ensures)

pub returns-in_default : goal.returns-in_default
returns-in_default c = not_kept_lem _ _ _ _ c.in_ok-known.ensures.refusal c.in_ok-check.ensures c.in_default.ensures

pub returns-then-not-at_zero : goal.returns-then-not-at_zero
returns-then-not-at_zero c = not_zero _ _ _ _ c.in_ok-known.ensures.refusal c.in_ok-check.ensures _ c.in-Some.ensures c.if-not-at_zero.ensures

pub returns-in_err-judge_version : goal.returns-in_err-judge_version
returns-in_err-judge_version c =
    let p = err_from_is_err_and c.from_residual-in_err-judge_version.result c.from_residual-in_err-judge_version.ensures.1 in
    rw (p.1, p.2) (not_given _ _ _ _ c.in_ok-known.ensures.refusal c.in_ok-check.ensures _ c.in-Some.ensures (sym c.if-not-at_zero.false ∙ c.at_zero.ensures) _ c.in_err-judge_version.ensures _ refl)

pub give_back-requires : goal.give_back-requires
give_back-requires c =
    let x : Extents c.args.sheet.now c.extent_of-x.result = rw (← c.in_ok-known.ensures.sheet) c.extent_of-x.ensures in
    (x, gives_long _ _ (sym c.in_ok-judge_version.ensures))

pub judge_version-requires : goal.judge_version-requires
judge_version-requires c = rw (← c.in_ok-known.ensures.sheet) c.extent_of-x.ensures

pub returns : goal.returns
returns c = was_restored _ _ _ _ c.in_ok-known.ensures.refusal c.in_ok-check.ensures _ c.in-Some.ensures (sym c.if-not-at_zero.false ∙ c.at_zero.ensures) _ c.in_ok-judge_version.ensures _ refl c.give_back.ensures
