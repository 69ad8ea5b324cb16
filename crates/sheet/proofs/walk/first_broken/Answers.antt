-- `sheet::walk::first_broken` meets its contract.
use Rattle.octets.proofs.Kit.{refl, ◌∙◌}
use Rattle.sheet.proofs.rules.{Faults.{err_told, some_fault}, Rules.{in_frame, in_zeros, in_walk}}
use Rattle.sheet.proofs.walk.first_broken.Goals as goal

pub returns-in_err-frame_rule : goal.returns-in_err-frame_rule
returns-in_err-frame_rule c = err_told _ _ c.from_residual.ensures ∙ in_frame _ _ c.in_err-frame_rule.ensures (some_fault _)

pub returns-in_err-zero_rule : goal.returns-in_err-zero_rule
returns-in_err-zero_rule c =
    err_told _ _ c.from_residual-in_err-zero_rule.ensures ∙ in_zeros _ _ _ c.in_ok-frame_rule.ensures refl c.in_err-zero_rule.ensures (some_fault _)

pub returns : goal.returns
returns c = in_walk _ _ _ _ c.in_ok-frame_rule.ensures refl c.in_ok-zero_rule.ensures refl c.walk.ensures
