-- `sheet::Sheet::property` meets its contract.
use Rattle.sheet.proofs.{searches.SearchLoops.ok_framed, places.Fields.{property_there, property_few, property_in}}
use Rattle.sheet.proofs.accepted.Sheet.property.Goals as goal

pub entry-e-requires : goal.entry-e-requires
entry-e-requires c = search property_there

pub place-requires : goal.place-requires
place-requires c = search (ok_framed, property_few)

pub returns : goal.returns
returns c = search property_in
