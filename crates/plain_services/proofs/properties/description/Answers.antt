-- `plain_services::properties::description` meets its contract.
use Rattle.octets.proofs.Kit.{arith, inl, inr}
use Rattle.judge.specs.Properties.{described_at}
use Rattle.plain_services.specs.Found.{Finds}
use Rattle.plain_services.proofs.{Finding.{found_below, found_one, found_none}, Descriptions.{described, none_described, one_described}}
use Rattle.plain_services.proofs.properties.description.Goals as goal
use Rattle.plain_services.proofs.properties.description.Goals.{then-id-eq0, else-id-eq0}

pub returns-in_default : goal.returns-in_default
returns-in_default c =
    let found : Finds c.args.parts c.args.parts.counts.properties (λ s. described_at s c.args.object c.args.id c.args.index) c.if-id-eq0.found =
    elim c.if-id-eq0.branch [
      | then-id-eq0 w ↦ described _ _ _ _ _ _ w.found-is (inl (w.if-id-eq0.true, w.nth-found.ensures))
      | else-id-eq0 w ↦ described _ _ _ _ _ _ w.found-is (inr (w.if-id-eq0.false, w.find-found.ensures))
    ]
    in none_described _ _ _ _ _ _ (found_none _ _ _ _ found c.in_default.is) (omega arith) c.denied.ensures

pub returns : goal.returns
returns c =
    let found : Finds c.args.parts c.args.parts.counts.properties (λ s. described_at s c.args.object c.args.id c.args.index) c.if-id-eq0.found =
    elim c.if-id-eq0.branch [
      | then-id-eq0 w ↦ described _ _ _ _ _ _ w.found-is (inl (w.if-id-eq0.true, w.nth-found.ensures))
      | else-id-eq0 w ↦ described _ _ _ _ _ _ w.found-is (inr (w.if-id-eq0.false, w.find-found.ensures))
    ]
    in
    one_described _ _ _ _ _ _ (found_one _ _ _ _ found _ c.in-Some.is) (found_below _ _ _ _ found _ c.in-Some.is) _ _ _
    c.index_within.ensures.1 c.type_byte.ensures c.levels_byte.ensures c.answered.ensures
