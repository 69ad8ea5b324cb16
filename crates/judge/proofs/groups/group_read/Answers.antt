-- `judge::groups::group_read` meets its contract.
use Rattle.judge.proofs.{Grouped.{read_shut, read_open}}
use Rattle.judge.proofs.groups.group_read.Goals as goal

pub returns-in_default : goal.returns-in_default
returns-in_default c = search read_shut

pub returns : goal.returns
returns c = search read_open
