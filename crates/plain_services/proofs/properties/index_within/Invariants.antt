-- `plain_services::properties::index_within` meets its contract. The invariant: so many of the first j were seen.
use Rattle.octets.proofs.Kit.{◌-◌, ◌≤◌, ◌≡◌}
use Rattle.plain_services.specs.Described.{rank_in}
use Rattle.plain_services.proofs.properties.index_within.Given as goal

abbrev pub invariant-loop-j : goal.invariant-loop-j
invariant-loop-j l = (l.j ≤ l.i) × (l.seen ≤ l.j) × (l.seen ≡ rank_in l.properties l.object l.j)

abbrev pub decreases-loop-j : goal.decreases-loop-j
decreases-loop-j l = l.i - l.j
