-- `versions::settings::extent_of` meets its contract.
use Rattle.versions.proofs.{Saves.{no_extent, some_extent}}
use Rattle.versions.proofs.settings.extent_of.Goals as goal

pub returns-then-n-eq0 : goal.returns-then-n-eq0
returns-then-n-eq0 c = search no_extent

pub returns : goal.returns
returns c = search some_extent
