-- `device::store::changes` meets its contract.
use Rattle.device.proofs.{due.Runs.second_part}
use Rattle.device.proofs.store.changes.Goals as goal

pub part-requires-2 : goal.part-requires-2
part-requires-2 c = let a = c.args in second_part a.s.now a.d.now a.k.first a.k.second c.requires.0 c.requires.1 c.requires.3
