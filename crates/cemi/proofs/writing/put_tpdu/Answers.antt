-- `cemi::writing::put_tpdu` meets its contract. Assumes nothing.
use Rattle.octets.proofs.Kit.{rules}
use Rattle.cemi.proofs.{Stores.tpdu_put}
use Rattle.cemi.proofs.writing.put_tpdu.Goals as goal

pub returns : goal.returns
returns c = search (tpdu_put, rules)
