-- `sheet::entry_rules::late_of` meets its contract.
use Rattle.octets.proofs.Kit.{arith}
use Rattle.sheet.proofs.{rules.Bodies.{none_late, not_late}}
use Rattle.sheet.proofs.entry_rules.late_of.Goals as goal

pub returns : goal.returns
returns c =
    record {
      even = λ e. let o = none_late _ _ _ _ e in (o.0, (o.1, (omega (arith, o.2), tt)));
      met = λ l h. not_late _ _ _ _ l h.0 (omega (arith, h.1.0));
    }
