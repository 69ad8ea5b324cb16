-- `sheet::Sheet::flags` meets its contract.
use Rattle.octets.proofs.Kit.{rules}
use Rattle.sheet.proofs.{places.Fields.flags_low}
use Rattle.sheet.proofs.accepted.Sheet.flags.Goals as goal

pub returns : goal.returns
returns c = search (flags_low, rules)
