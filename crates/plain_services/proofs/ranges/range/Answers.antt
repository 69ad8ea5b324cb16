-- `plain_services::ranges::range` meets its contract. The invariant: the addresses so far may be used.
use Rattle.octets.proofs.Kit.{arith}
use Rattle.plain_services.proofs.{Regions.{none_yet, too_few, too_many, one_refused, one_stands, all_stand}}
use Rattle.plain_services.proofs.ranges.range.Goals as goal
use Rattle.plain_services.proofs.ranges.range.Goals.{then-n-lt1-via-then-n-lt1, then-n-lt1-via-else-n-lt1+then-most-n}

pub returns-then-n-lt1 : goal.returns-then-n-lt1
returns-then-n-lt1 c =
    elim c.then-n-lt1.branch [
      | then-n-lt1-via-then-n-lt1 w ↦ too_few _ _ _ _ _ _ _ w.if-n-lt1.true
      | then-n-lt1-via-else-n-lt1+then-most-n w ↦ too_many _ _ _ _ _ _ _ w.if-most-n.true
    ]

pub loop-i-init : goal.loop-i-init
loop-i-init c = (omega arith, none_yet _ _ _ _ _)

pub returns-in_default : goal.returns-in_default
returns-in_default c = one_refused _ _ _ _ _ _ _ c.loop-i.i (omega arith) c.loop-i.invariant.1 _ c.stands.ensures c.in_default.is

pub loop-i-preserved : goal.loop-i-preserved
loop-i-preserved c = (omega arith, one_stands _ _ _ _ c.args.most c.args.n _ _ c.loop-i.invariant.1 _ _ c.stands.ensures c.in-Some.is)

pub returns : goal.returns
returns c = all_stand _ _ _ _ _ _ _ (omega arith) c.if-most-n.false c.loop-i.i (omega (arith, c.loop-i.invariant.0)) c.loop-i.invariant.1 _ c.stands-2.ensures
