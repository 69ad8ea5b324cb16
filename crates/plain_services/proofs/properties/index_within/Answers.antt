-- `plain_services::properties::index_within` meets its contract. The invariant: so many of the first j were seen.
use Rattle.octets.proofs.Kit.{arith}
use Rattle.plain_services.proofs.{Descriptions.{rank_start, one_counted, one_passed}}
use Rattle.plain_services.proofs.properties.index_within.Goals as goal
use Rattle.plain_services.proofs.properties.index_within.Goals.{then-properties-j, else-properties-j}

pub loop-j-init : goal.loop-j-init
loop-j-init c = (omega arith, omega arith, rank_start _ _)

pub loop-j-preserved : goal.loop-j-preserved
loop-j-preserved c = (
  omega arith,
  elim c.if-properties-j.branch [ then-properties-j w ↦ omega arith | else-properties-j w ↦ omega arith ],
  elim c.if-properties-j.branch [
    | then-properties-j w ↦ one_counted _ _ _ _ _ c.loop-j.invariant.2 w.if-properties-j.true w.seen-is
    | else-properties-j w ↦ one_passed _ _ _ _ _ c.loop-j.invariant.2 w.if-properties-j.false w.seen-is
  ],
)
