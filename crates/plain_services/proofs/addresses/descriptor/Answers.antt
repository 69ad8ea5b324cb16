-- `plain_services::addresses::descriptor` meets its contract.
use Rattle.octets.proofs.Kit.{rules, arith}
use Rattle.plain_services.proofs.{Agreed.word_bytes, Addressing.{mask_told, no_type_lem, type_passed}}
use Rattle.plain_services.proofs.addresses.descriptor.Goals as goal

pub returns-then-t-eq0 : goal.returns-then-t-eq0
returns-then-t-eq0 c = mask_told _ _ _ (omega arith) _ (word_bytes _ _ c.to_be_bytes-mask.ensures) c.answered.ensures

pub returns-then-parts-eq1 : goal.returns-then-parts-eq1
returns-then-parts-eq1 c = no_type_lem _ _ _ (search rules) (omega arith) c.denied.ensures

pub returns : goal.returns
returns c = type_passed _ _ _ (search rules) (search rules) c.refused.ensures
