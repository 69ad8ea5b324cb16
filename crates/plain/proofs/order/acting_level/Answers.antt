-- `plain::order::acting_level` meets its contract.
use Rattle.octets.proofs.Kit.{arith, ◌∙◌}
use Rattle.octets.proofs.Tests.{branches}
use Rattle.judge.specs.Session.{level_in, level_of}
use Rattle.plain.proofs.{Ordered.least_level}
use Rattle.plain.proofs.order.acting_level.Goals as goal

pub returns-then-mode-eq3 : goal.returns-then-mode-eq3
returns-then-mode-eq3 c = c.min.ensures ∙ least_level _ _ c.if-mode-eq3.true

pub returns-else-mode-eq3 : goal.returns-else-mode-eq3
unfolding level_in level_of
returns-else-mode-eq3 c = search (branches, arith)
