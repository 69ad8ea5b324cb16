-- `plain_check::bodies::length` meets its contract.
use Rattle.plain_check.proofs.{Placing.{property_long, group_long, region_long}}
use Rattle.plain_check.proofs.bodies.length.Goals as goal

pub returns-in-Properties : goal.returns-in-Properties
returns-in-Properties c = search property_long

pub returns-in-Groups : goal.returns-in-Groups
returns-in-Groups c = rw c.max.ensures (group_long _ _ _ _ c.in-Groups.is c.byte-in-Groups.ensures)

pub returns-in-Regions : goal.returns-in-Regions
returns-in-Regions c = search region_long
