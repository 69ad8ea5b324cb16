-- `versions::settings::give_back` meets its contract.
use Rattle.versions.proofs.{Restorer.given_steps}
use Rattle.versions.proofs.settings.give_back.Goals as goal

pub returns : goal.returns
returns c = given_steps _ _ _ c.requires.0 c.requires.1 _ _ _ c.entry_at-bodies.ensures c.splice.ensures c.splice-2.ensures
