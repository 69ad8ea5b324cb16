-- `plain_services::properties::find` meets its contract.
use Rattle.octets.proofs.Kit.{arith}
use Rattle.octets.proofs.Tests.{branches}
use Rattle.plain_services.proofs.{Finding.{hit, miss}}
use Rattle.plain_services.proofs.properties.find.Goals as goal

pub returns-then-parts-i-2 : goal.returns-then-parts-i-2
returns-then-parts-i-2 c = record { below = omega arith; is = λ s ok o t. hit _ _ _ s ok t _ (omega arith) (search branches) }

pub returns : goal.returns
returns c = record { below = tt; is = λ s ok o t. miss _ _ _ s ok t (omega arith) (λ j h. c.loop-i.invariant.2 j (omega arith)) o }
