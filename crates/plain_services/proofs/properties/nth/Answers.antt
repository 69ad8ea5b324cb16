-- `plain_services::properties::nth` meets its contract.
use Rattle.octets.proofs.Kit.{arith}
use Rattle.plain_services.proofs.{Descriptions.{nth_found, nth_missing}, Joined.{joined, moved_yes}}
use Rattle.plain_services.proofs.properties.nth.Goals as goal

pub returns-then-index_within-index : goal.returns-then-index_within-index
returns-then-index_within-index c =
    record {
      below = omega arith;
      is =
          λ s ok o t.
          nth_found s _ t _ _ _ (omega arith) (search (joined, moved_yes, c.index_within.ensures.1, c.if-properties-i.true, c.if-index_within-index.true));
    }

pub returns : goal.returns
returns c = record { below = tt; is = λ s ok o t. nth_missing s _ t _ _ (λ j h. c.loop-i.invariant.2 j (omega arith)) }
