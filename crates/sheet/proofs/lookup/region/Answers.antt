-- `sheet::lookup::region` meets its contract.
use Rattle.octets.proofs.Kit.{rules}
use Rattle.sheet.proofs.{places.Parts.{part_in, part_of}}
use Rattle.sheet.proofs.lookup.region.Goals as goal

pub cut-requires : goal.cut-requires
cut-requires c = search (part_in, rules)

pub returns : goal.returns
returns c = search part_of
