-- `sheet::walk::users_rule` meets its contract. The invariant: no user region passed has broken S6.
use Rattle.octets.proofs.Kit.{refl, ◌∙◌, rules}
use Rattle.sheet.proofs.{rules.{Faults.err_told, Rules.{users_begin, users_entry, users_go, users_left, users_end}}}
use Rattle.sheet.proofs.walk.users_rule.Goals as goal

pub loop-i-init : goal.loop-i-init
loop-i-init c = search users_begin

pub step-requires : goal.step-requires
step-requires c = search (users_entry, rules)

pub loop-i-preserved : goal.loop-i-preserved
loop-i-preserved c =
    let i = c.loop-i.invariant in
    (users_go _ _ _ _ _ i.0 _ c.loop-i-test.true (rw (i.1, i.2) at c.in_ok-next.ensures), refl, refl)

pub returns : goal.returns
returns c = search users_end

pub returns-in_err-next : goal.returns-in_err-next
returns-in_err-next c = err_told _ _ c.from_residual.ensures ∙ users_left _ _ _ _ _ c.loop-i.invariant.0 _ c.loop-i-test.true (rw (c.loop-i.invariant.1, c.loop-i.invariant.2) at c.in_err-next.ensures)
