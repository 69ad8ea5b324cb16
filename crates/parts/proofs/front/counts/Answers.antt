-- `parts::front::counts` meets its contract.
use Rattle.parts.proofs.{Numbering.counts_are}
use Rattle.parts.proofs.front.counts.Goals as goal

pub returns : goal.returns
returns c = search counts_are
