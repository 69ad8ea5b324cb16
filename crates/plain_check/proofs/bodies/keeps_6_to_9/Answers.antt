-- `plain_check::bodies::keeps_6_to_9` meets its contract.
use Rattle.octets.proofs.Kit.{rules}
use Rattle.plain_check.proofs.{Walking.{kind_number, walk_begins, pass_begins, pass_goes, walk_goes, walk_ends, entry_fails, body_fails}}
use Rattle.plain_check.proofs.bodies.keeps_6_to_9.Goals as goal
use Rattle.plain_check.proofs.bodies.keeps_6_to_9.Goals.{then-not-keeps_its_rule-via-then-not-keeps_its_rule, then-not-keeps_its_rule-via-else-not-keeps_its_rule+then-not-keeps_9}

pub loop-kind-init : goal.loop-kind-init
loop-kind-init c = search walk_begins

pub loop-i-init : goal.loop-i-init
loop-i-init c = pass_begins _ _ _ _ _ (kind_number _ c.loop-kind-test.true) c.loop-kind.invariant c.loop-kind-test.true c.count-i-end.ensures

pub returns-then-not-keeps_its_rule : goal.returns-then-not-keeps_its_rule
returns-then-not-keeps_its_rule c =
    elim c.then-not-keeps_its_rule.branch [
      | then-not-keeps_its_rule-via-then-not-keeps_its_rule w ↦ entry_fails _ _ _ _ _ c.loop-i.invariant c.loop-i-test.true _ c.keeps_its_rule.ensures (search rules)
      | then-not-keeps_its_rule-via-else-not-keeps_its_rule+then-not-keeps_9 w ↦ body_fails _ _ _ _ _ c.loop-i.invariant c.loop-i-test.true _ _ c.place-at.ensures w.keeps_9.ensures (search rules)
    ]

pub loop-i-preserved : goal.loop-i-preserved
loop-i-preserved c = pass_goes _ _ _ _ _ c.loop-i.invariant _ _ _ _ _ c.loop-i-test.true c.place-at.ensures c.keeps_its_rule.ensures (search rules) c.keeps_9.ensures (search rules) c.start.ensures c.length.ensures

pub loop-kind-preserved : goal.loop-kind-preserved
loop-kind-preserved c = walk_goes _ _ _ _ _ c.loop-i.invariant _ (kind_number _ c.loop-kind-test.true) c.loop-i-test.false

pub returns : goal.returns
returns c = search walk_ends
