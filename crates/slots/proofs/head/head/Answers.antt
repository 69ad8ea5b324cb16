-- `slots::head::head` meets its contract. Assumes nothing.
use Rattle.slots.proofs.{Units.head_made}
use Rattle.slots.proofs.head.head.Goals as goal

pub returns : goal.returns
returns c = search head_made
