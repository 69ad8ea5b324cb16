-- `points::read` meets its contract.
use Rattle.points.proofs.{Laws.{read_none, read_short, read_whole}}
use Rattle.points.proofs.read.Goals as goal

pub returns-in_default : goal.returns-in_default
returns-in_default c = record { is = search read_none; bytes = λ i. (c.type_inv.bytes i).fits }

pub returns-then-bytes-w : goal.returns-then-bytes-w
returns-then-bytes-w c = record { is = search read_short; bytes = λ i. (c.type_inv.bytes i).fits }

pub returns : goal.returns
returns c = record { is = search read_whole; bytes = λ i. (c.type_inv.bytes i).fits }
