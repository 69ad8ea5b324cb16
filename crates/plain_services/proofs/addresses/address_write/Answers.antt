-- `plain_services::addresses::address_write` meets its contract.
use Rattle.octets.proofs.Kit.{arith, refl}
use Rattle.plain_services.proofs.{Addressing.{address_set, address_kept}, Joined.{was_no, was_yes}}
use Rattle.plain_services.proofs.addresses.address_write.Goals as goal

pub returns-then-not-parts : goal.returns-then-not-parts
returns-then-not-parts c = address_kept _ _ _ (was_no _ (simp c.if-not-parts.true)) c.refused.ensures

pub returns : goal.returns
returns c = address_set _ _ _ _ (was_yes _ (simp c.if-not-parts.false)) (omega arith) refl c.done.ensures
