-- `sheet::Sheet::group` meets its contract.
use Rattle.sheet.proofs.{places.Fields.{group_there, group_in}}
use Rattle.sheet.proofs.accepted.Sheet.group.Goals as goal

pub entry-e-requires : goal.entry-e-requires
entry-e-requires c = search group_there

pub returns : goal.returns
returns c = search group_in
