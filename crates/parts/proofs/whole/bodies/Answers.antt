-- `parts::whole::bodies` meets its contract.
use Rattle.octets.proofs.Kit.{refl}
use Rattle.parts.proofs.{Filled.from_on}
use Rattle.parts.proofs.whole.bodies.Goals as goal

pub returns : goal.returns
returns c = from_on c.args.sheet.now _ _ _ _ refl refl c.splice.ensures c.requires
