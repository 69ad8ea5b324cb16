-- `judge::properties::property_write` meets its contract.
use Rattle.octets.proofs.Kit.{rules}
use Rattle.judge.proofs.{Values.{write_missing, write_there}, Fields.{small_offset, small_place}}
use Rattle.judge.proofs.properties.property_write.Goals as goal

pub returns-in_default : goal.returns-in_default
returns-in_default c = search write_missing

pub write_in-requires : goal.write_in-requires
write_in-requires c = search (small_offset, small_place, rules)

pub returns : goal.returns
returns c = search write_there
