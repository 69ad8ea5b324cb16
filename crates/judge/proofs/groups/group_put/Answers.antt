-- `judge::groups::group_put` meets its contract.
use Rattle.judge.proofs.{Grouped.{put_shut, put_open}}
use Rattle.judge.proofs.groups.group_put.Goals as goal

pub returns-in_default : goal.returns-in_default
returns-in_default c = search put_shut

pub returns : goal.returns
returns c = search put_open
