-- `sheet::walk::step` meets its contract.
use Rattle.octets.proofs.Kit.{ap}
use Rattle.sheet.specs.Kind.{number_of}
use Rattle.sheet.proofs.rules.Rules.{says_region, says_property, says_group, says_user}
use Rattle.sheet.proofs.walk.step.Goals as goal

pub returns-in-Regions : goal.returns-in-Regions
returns-in-Regions c =
    says_region _ (number_of c.args.kind) _ _ _ _ _ _ _ c.requires.1 c.requires.2 (ap number_of c.in-Regions.is) c.part.ensures.is c.region_step.ensures

pub returns-in-Properties : goal.returns-in-Properties
returns-in-Properties c =
    says_property _ (number_of c.args.kind) _ _ _ _ _ _ _ c.requires.1 c.requires.2 (ap number_of c.in-Properties.is) c.part-in-Properties.ensures.is c.property_step.ensures

pub returns-in-Groups : goal.returns-in-Groups
returns-in-Groups c =
    says_group _ (number_of c.args.kind) _ _ _ _ _ _ _ c.requires.1 c.requires.2 (ap number_of c.in-Groups.is) c.part-in-Groups.ensures.is c.group_step.ensures

pub returns-in-Users : goal.returns-in-Users
returns-in-Users c =
    says_user _ (number_of c.args.kind) _ _ _ _ _ _ _ c.requires.1 c.requires.2 (ap number_of c.in-Users.is) c.part-in-Users.ensures.is c.region_step-in-Users.ensures
