-- `parts::whole::same` meets its contract.
use Rattle.octets.proofs.Kit.{rules, refl}
use Rattle.parts.proofs.{Back.written_again}
use Rattle.parts.proofs.whole.same.Goals as goal

pub returns : goal.returns
returns c =
    written_again _ (search rules) _ c.take_apart-parts.ensures (search rules) _ _
    refl c.write_again.ensures
