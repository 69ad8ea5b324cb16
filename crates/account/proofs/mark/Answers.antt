-- `account::mark` meets its contract. Assumes nothing.
use Rattle.account.proofs.{Marking.{first_needs, second_needs, level_needs, marked_all}}
use Rattle.account.proofs.mark.Goals as goal

pub catch_up-requires : goal.catch_up-requires
catch_up-requires c = search first_needs

pub catch_up-requires-2 : goal.catch_up-requires-2
catch_up-requires-2 c =
    second_needs _ _ _ _ c.requires _ _ _
    c.catch_up.ensures

pub mark_levels-requires : goal.mark_levels-requires
mark_levels-requires c =
    level_needs _ _ _ _ c.requires _ _ _
    c.catch_up.ensures _ _ c.catch_up-2.ensures

pub returns : goal.returns
returns c =
    marked_all _ _ _ _ c.requires _ _ _ c.catch_up.ensures
    _ _ c.catch_up-2.ensures _ _ _ c.mark_levels.ensures
