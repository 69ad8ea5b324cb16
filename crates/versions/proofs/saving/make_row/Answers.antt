-- `versions::saving::make_row` meets its contract.
use Rattle.versions.proofs.{Saves.row_made}
use Rattle.versions.proofs.saving.make_row.Goals as goal

pub returns : goal.returns
returns c = search row_made
