-- `versions::saving::append` meets its contract.
use Rattle.versions.proofs.{Saves.append_steps}
use Rattle.versions.proofs.saving.append.Goals as goal

pub returns : goal.returns
returns c = search append_steps
