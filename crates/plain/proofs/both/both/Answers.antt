-- `plain::both::both` meets its contract.
use Rattle.plain.proofs.{promises.EnginesAgree.first_and_plain}
use Rattle.plain.proofs.both.both.Goals as goal

pub returns : goal.returns
returns c = first_and_plain _ _ _ _ _ _ _ _ _ _ _ _ _ _ _ c.requires.0 c.requires.1 c.request-made.ensures c.request-plain.ensures
