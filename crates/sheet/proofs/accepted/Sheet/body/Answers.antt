-- `sheet::Sheet::body` meets its contract.
use Rattle.octets.proofs.Kit.{rules}
use Rattle.sheet.proofs.{searches.SearchLoops.{ok_framed, entry_in, kind_known}, places.Parts.{no_part, the_part}}
use Rattle.sheet.proofs.accepted.Sheet.body.Goals as goal

pub many-requires : goal.many-requires
many-requires c = search (ok_framed, rules)

pub returns-then-many-i : goal.returns-then-many-i
returns-then-many-i c = search no_part

pub entry-e-requires : goal.entry-e-requires
entry-e-requires c = search entry_in

pub returns : goal.returns
returns c = search (the_part, kind_known)
