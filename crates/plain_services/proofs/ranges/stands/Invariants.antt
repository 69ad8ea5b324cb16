-- `plain_services::ranges::stands` meets its contract. The invariant: none so far has the address.
use Rattle.octets.proofs.Kit.{ℕ, ◌-◌, ◌≤◌, ◌<◌, ◌≡◌, false, get_or}
use Rattle.parts.specs.Records.{no_region}
use Rattle.plain_services.specs.Memory.{has}
use Rattle.plain_services.proofs.ranges.stands.Given as goal

abbrev pub invariant-loop-i : goal.invariant-loop-i
invariant-loop-i l = (l.i-end ≡ l.area.count) × (l.i ≤ l.i-end) × ((j : ℕ) → j < l.i → has (get_or l.area.regions j no_region) l.address ≡ false)

abbrev pub decreases-loop-i : goal.decreases-loop-i
decreases-loop-i l = l.i-end - l.i
