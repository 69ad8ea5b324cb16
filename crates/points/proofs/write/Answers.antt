-- `points::write` meets its contract.
use Rattle.points.proofs.{Writes.write_yes}
use Rattle.points.proofs.write.Goals as goal

pub returns : goal.returns
returns c = search (write_yes, c.in_ok-n.ensures)
