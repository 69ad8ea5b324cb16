-- `plain_services::groups::find_group` meets its contract.
use Rattle.octets.proofs.Kit.{arith}
use Rattle.plain_services.proofs.{GroupValues.{group_hit, group_miss}}
use Rattle.plain_services.proofs.groups.find_group.Goals as goal

pub returns-then-parts-i : goal.returns-then-parts-i
returns-then-parts-i c = record { below = omega arith; is = λ s ok o t. group_hit _ _ s t ok _ (omega arith) c.if-parts-i.true }

pub returns : goal.returns
returns c = record { below = tt; is = λ s ok o t. group_miss _ _ s t (λ j h. c.loop-i.invariant.2 j (omega arith)) }
