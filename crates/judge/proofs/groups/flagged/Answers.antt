-- `judge::groups::flagged` meets its contract.
use Rattle.judge.proofs.{Grouped.lacks}
use Rattle.judge.proofs.groups.flagged.Goals as goal

pub returns-else-is_in : goal.returns-else-is_in
returns-else-is_in c = lacks _ _ _ _ _ _ c.in_ok-i.ensures.0 c.group-e.ensures.is c.is_in.ensures c.if-is_in.false
