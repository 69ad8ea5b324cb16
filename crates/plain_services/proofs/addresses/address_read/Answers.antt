-- `plain_services::addresses::address_read` meets its contract.
use Rattle.plain_services.proofs.{Addressing.{address_shown, address_hidden}, Joined.{was_no, was_yes}}
use Rattle.plain_services.proofs.addresses.address_read.Goals as goal

pub returns-then-not-parts : goal.returns-then-not-parts
returns-then-not-parts c = address_hidden _ _ (was_no _ (simp c.if-not-parts.true)) c.refused.ensures

pub returns : goal.returns
returns c = address_shown _ _ (was_yes _ (simp c.if-not-parts.false)) c.answered.ensures
