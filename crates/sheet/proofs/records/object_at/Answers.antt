-- `sheet::records::object_at` meets its contract.
use Rattle.sheet.proofs.{searches.Loops.object_of}
use Rattle.sheet.proofs.records.object_at.Goals as goal

pub returns : goal.returns
returns c = search object_of
