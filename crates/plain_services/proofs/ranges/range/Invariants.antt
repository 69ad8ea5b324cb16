-- `plain_services::ranges::range` meets its contract. The invariant: the addresses so far may be used.
use Rattle.octets.proofs.Kit.{◌-◌, ◌≤◌, ◌≡◌, true}
use Rattle.plain_services.specs.Memory.{all_allowed}
use Rattle.plain_services.proofs.ranges.range.Given as goal

abbrev pub invariant-loop-i : goal.invariant-loop-i
invariant-loop-i l = (l.i ≤ l.n) × (all_allowed l.area.regions l.area.count l.access l.level l.address l.i ≡ true)

abbrev pub decreases-loop-i : goal.decreases-loop-i
decreases-loop-i l = l.n - l.i
