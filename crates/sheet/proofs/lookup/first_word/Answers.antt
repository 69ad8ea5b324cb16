-- `sheet::lookup::first_word` meets its contract.
use Rattle.sheet.proofs.{searches.SearchLoops.key_of_lem}
use Rattle.sheet.proofs.lookup.first_word.Goals as goal

pub returns : goal.returns
returns c = search key_of_lem
