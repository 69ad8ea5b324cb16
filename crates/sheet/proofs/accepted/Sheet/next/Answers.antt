-- `sheet::Sheet::next` meets its contract.
use Rattle.octets.proofs.Kit.{rules}
use Rattle.sheet.proofs.{searches.{SearchLoops.{ok_framed, entry_in}}}
use Rattle.sheet.proofs.accepted.Sheet.next.Goals as goal

pub many-requires : goal.many-requires
many-requires c = search (ok_framed, rules)

pub entry-e-requires : goal.entry-e-requires
entry-e-requires c = search entry_in
