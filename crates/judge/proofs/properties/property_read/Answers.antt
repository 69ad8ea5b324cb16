-- `judge::properties::property_read` meets its contract.
use Rattle.octets.proofs.Kit.{rules}
use Rattle.judge.proofs.{Values.{read_missing, read_there}, Fields.small_offset}
use Rattle.judge.proofs.properties.property_read.Goals as goal

pub returns-in_default : goal.returns-in_default
returns-in_default c = search read_missing

pub read_in-requires : goal.read_in-requires
read_in-requires c = search (small_offset, rules)

pub returns : goal.returns
returns c = search read_there
