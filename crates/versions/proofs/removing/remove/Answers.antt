-- `versions::removing::remove` meets its contract.
use Rattle.std.proofs.lemmas.Result.{err_from_is_err_and}
use Rattle.octets.proofs.Kit.{rules}
use Rattle.octets.specs.Octets.{Octets}
use Rattle.versions.proofs.{Removals.{bad, is_headed, is_tabled, not_there, is_chosen, gone}}
use Rattle.versions.proofs.removing.remove.Goals as goal

pub returns-in_err-check : goal.returns-in_err-check
returns-in_err-check c =
    let p = err_from_is_err_and c.from_residual.result c.from_residual.ensures.1 in
    rw (p.1, p.2) (bad _ _ _ c.in_err-check.ensures)

pub word-n-requires : goal.word-n-requires
word-n-requires c = is_headed _ c.args.number c.in_ok-check.ensures

pub find-requires : goal.find-requires
find-requires c = is_tabled _ c.args.number c.in_ok-check.ensures _ c.word-n.ensures

pub returns-in_default : goal.returns-in_default
returns-in_default c = not_there _ _ c.in_ok-check.ensures _ c.word-n.ensures c.in_default.ensures

pub take_out-requires : goal.take_out-requires
take_out-requires c = is_chosen _ c.args.number c.in_ok-check.ensures _ c.word-n.ensures _ c.in-Some.ensures

pub returns : goal.returns
returns c =
    let b : Octets c.args.store.now = λ i. search rules in
    gone _ _ c.in_ok-check.ensures _ c.word-n.ensures _ c.in-Some.ensures b _ c.take_out.ensures
