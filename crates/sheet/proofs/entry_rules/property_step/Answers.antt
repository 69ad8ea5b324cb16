-- `sheet::entry_rules::property_step` meets its contract.
use Rattle.octets.proofs.Kit.{refl, rules}
use Rattle.sheet.proofs.{rules.Bodies.{behind, no_step, elements_short}}
use Rattle.sheet.proofs.entry_rules.property_step.Goals as goal

pub returns-in_err-property_rule : goal.returns-in_err-property_rule
returns-in_err-property_rule c = no_step _ _ _ _ _ _ _ _ _ _ c.from_residual.ensures c.in_err-property_rule.ensures

pub returns : goal.returns
returns c =
    behind _ _ _ _ _ _ _ _ _ _ _ (search rules) (search rules) (search rules) c.late_of.ensures (search rules) (search rules) (search rules)
    (elements_short _ _ _ _ c.in_ok-property_rule.ensures refl refl)
