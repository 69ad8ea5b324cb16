-- `sheet::table::part` meets its contract: the part starts where the entry stands, and is as long as an entry of its kind.
use Rattle.sheet.proofs.{rules.Entries.{part}}
use Rattle.sheet.proofs.table.part.Goals as goal

pub returns : goal.returns
returns c = part c.requires.0 c.requires.1 c.size.ensures
