-- `sheet::lookup::keyed` meets its contract.
use Rattle.sheet.specs.Kind.{number_of}
use Rattle.sheet.proofs.{places.Parts.{no_sheet_lem, found_in, none_in}}
use Rattle.sheet.proofs.lookup.keyed.Goals as goal

pub returns-in_default : goal.returns-in_default
returns-in_default c = no_sheet_lem _ (number_of c.args.kind) _ _ c.in_default.ensures.refusal

pub returns-in-Some : goal.returns-in-Some
returns-in-Some c = found_in c.in-Ok.sheet c.in-Ok.ensures.sheet (number_of c.args.kind) _ _ _ c.in-Some.ensures.0 c.body.ensures

pub returns-in-None : goal.returns-in-None
returns-in-None c = none_in c.in-Ok.sheet c.in-Ok.ensures.sheet (number_of c.args.kind) _ c.in-None.ensures
