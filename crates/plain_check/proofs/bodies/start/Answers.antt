-- `plain_check::bodies::start` meets its contract.
use Rattle.plain_check.proofs.{Placing.{property_starts, other_starts}}
use Rattle.plain_check.proofs.bodies.start.Goals as goal

pub returns-in-Properties : goal.returns-in-Properties
returns-in-Properties c = search property_starts

pub returns-in-Regions : goal.returns-in-Regions
returns-in-Regions c = search other_starts
