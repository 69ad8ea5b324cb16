-- `parts::entries::write_number` meets its contract.
use Rattle.parts.proofs.{Runs.number_written}
use Rattle.parts.proofs.entries.write_number.Goals as goal

pub returns : goal.returns
returns c = search number_written
