-- `plain_services::properties::with_elements` meets its contract.
use Rattle.octets.proofs.Kit.{refl, ◌∙◌}
use Rattle.plain_services.proofs.{Elements.{jumped_from, run_written}}
use Rattle.plain_services.proofs.properties.with_elements.Goals as goal

pub returns : goal.returns
returns c =
    c.with_bodies.ensures
    ∙ run_written _ _ _ _ _ _ _ _ c.jumped-zeros.ensures (jumped_from _ _ _ _ _ c.size_of.ensures.0) c.size_of-size.ensures.0
    _ _ _ _ c.requires.0 refl c.requires.2 c.fill.ensures c.splice.ensures
