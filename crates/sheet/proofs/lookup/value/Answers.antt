-- `sheet::lookup::value` meets its contract.
use Rattle.sheet.specs.Kind.{number_of}
use Rattle.sheet.proofs.{places.Parts.{no_sheet_lem, in_sheet}}
use Rattle.sheet.proofs.lookup.value.Goals as goal

pub returns-in-Ok : goal.returns-in-Ok
returns-in-Ok c = in_sheet c.in-Ok.sheet c.in-Ok.ensures.sheet (number_of c.args.kind) _ _ c.body.ensures

pub returns-in-Err : goal.returns-in-Err
returns-in-Err c = no_sheet_lem _ (number_of c.args.kind) _ _ c.in-Err.ensures.refusal
