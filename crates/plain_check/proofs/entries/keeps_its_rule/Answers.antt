-- `plain_check::entries::keeps_its_rule` meets its contract.
use Rattle.plain_check.proofs.{ByBytes.{property_kept, group_kept, region_kept}}
use Rattle.plain_check.proofs.entries.keeps_its_rule.Goals as goal

pub returns-in-Properties : goal.returns-in-Properties
returns-in-Properties c = search property_kept

pub returns-in-Groups : goal.returns-in-Groups
returns-in-Groups c = search group_kept

pub returns-in-Regions : goal.returns-in-Regions
returns-in-Regions c = search region_kept
