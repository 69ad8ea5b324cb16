-- `sheet::entry_rules::group_step` meets its contract.
use Rattle.octets.proofs.Kit.{rules, arith}
use Rattle.sheet.proofs.{rules.Bodies.{behind, six_long, six_short}}
use Rattle.sheet.proofs.entry_rules.group_step.Goals as goal

pub returns-then-code-ne0 : goal.returns-then-code-ne0
returns-then-code-ne0 c =
    behind _ _ _ _ _ _ _ _ _ _ _ (search rules) (search rules) (search rules) c.late_of.ensures (search rules)
    (six_long _ _ _ c.byte-code.ensures.value (omega (arith, c.if-code-ne0.true)))
    (omega (arith, c.if-code-ne0.true, c.byte-code.ensures.value))
    (omega (arith, c.byte-code.ensures.value))

pub returns : goal.returns
returns c =
    behind _ _ _ _ _ _ _ _ _ _ _ (search rules) (search rules) (search rules) c.late_of-2.ensures (search rules)
    (six_short _ _ _ _ _ c.byte-code.ensures.value (omega (arith, c.if-code-ne0.false)) c.word-from.ensures.value c.byte.ensures.value)
    (omega (arith, c.if-code-ne0.false, c.byte-code.ensures.value))
    (omega (arith, c.byte-code.ensures.value))
