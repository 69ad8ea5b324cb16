-- `sheet::old::convert` meets its contract.
use Rattle.octets.proofs.Kit.{refl, lit≤}
use Rattle.sheet.proofs.promises.Converting.{not_converted, was_converted, convert_room}
use Rattle.sheet.proofs.old.convert.Goals as goal

pub returns-then-not-is_old : goal.returns-then-not-is_old
returns-then-not-is_old c = not_converted _ (λ o. let no = c.if-not-is_old.ensures.1 o in cc)

pub put-requires : goal.put-requires
put-requires c = (convert_room _ (c.if-not-is_old.ensures.0 refl), lit≤ tt)

pub returns : goal.returns
returns c = was_converted _ _ (c.if-not-is_old.ensures.0 refl) c.put.ensures
