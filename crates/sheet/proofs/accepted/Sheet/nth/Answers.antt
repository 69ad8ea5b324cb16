-- `sheet::Sheet::nth` meets its contract.
use Rattle.octets.proofs.Kit.{refl, sym, ◌∙◌, lit<, arith}
use Rattle.sheet.proofs.{searches.{SearchLoops.ok_entry, Objects.{nth_there, nth_short, nth_other}}}
use Rattle.sheet.proofs.accepted.Sheet.nth.Goals.{else-i-n-via-then-i-n+else-object_at-object, else-i-n-via-else-i-n}
use Rattle.sheet.proofs.accepted.Sheet.nth.Goals as goal

pub object_at-requires : goal.object_at-requires
object_at-requires c = ok_entry _ _ _ _ c.args.self.accepted (lit< tt) c.count-n.ensures c.if-i-n.true

pub returns-then-object_at-object : goal.returns-then-object_at-object
returns-then-object_at-object c =
    let p = nth_there _ c.args.self.accepted c.args.self.octets _ _ c.lower.ensures _ _ _ c.count-n.ensures refl _ c.if-i-n.true c.object_at.ensures c.if-object_at-object.true in
    (p, omega (arith, p, c.count-n.ensures.is))

pub returns-else-i-n : goal.returns-else-i-n
returns-else-i-n c =
    elim c.else-i-n.branch [
      | else-i-n-via-then-i-n+else-object_at-object w ↦
          sym (nth_other _ c.args.self.accepted c.args.self.octets _ _ c.lower.ensures _ _ _ c.count-n.ensures refl _ w.if-i-n.true w.object_at.ensures w.if-object_at-object.false)
          ∙ c.count-n.ensures.is
      | else-i-n-via-else-i-n w ↦
          sym (nth_short _ c.args.self.accepted c.args.self.octets _ _ c.lower.ensures _ _ _ c.count-n.ensures refl w.if-i-n.false) ∙ c.count-n.ensures.is
    ]
