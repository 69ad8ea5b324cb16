-- `cemi::writing::put_table` meets its contract. Assumes nothing.
use Rattle.octets.proofs.Kit.{rules}
use Rattle.cemi.proofs.{Stores.table_put}
use Rattle.cemi.proofs.writing.put_table.Goals as goal

pub returns : goal.returns
returns c = search (table_put, rules)
