-- `sheet::walk::check` meets its contract.
use Rattle.octets.proofs.Kit.{refl, ◌∙◌}
use Rattle.sheet.proofs.{rules.Faults.{err_told, some_fault}, promises.Verdicts.{says_rule, says_old, says_accepted}}
use Rattle.sheet.proofs.walk.check.Goals as goal

pub returns-in_err-first_broken : goal.returns-in_err-first_broken
returns-in_err-first_broken c = err_told _ _ c.from_residual.ensures ∙ says_rule _ _ c.in_err-first_broken.ensures (some_fault _)

pub returns-then-byte-eq1 : goal.returns-then-byte-eq1
returns-then-byte-eq1 c = says_old _ _ c.in_ok-first_broken.ensures refl _ c.byte.ensures.value c.if-byte-eq1.true

pub returns : goal.returns
returns c = says_accepted _ _ c.in_ok-first_broken.ensures refl _ c.byte.ensures.value c.if-byte-eq1.false
