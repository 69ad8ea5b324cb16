-- `plain_services::groups::find_group` meets its contract.
use Rattle.octets.proofs.Kit.{ℕ, ◌≤◌, ◌<◌, ◌≡◌, false}
use Rattle.plain_services.proofs.{GroupValues.{addressed}}
use Rattle.plain_services.proofs.groups.find_group.Given as goal

abbrev pub invariant-loop-i : goal.invariant-loop-i
invariant-loop-i l = (l.i-end ≡ l.parts.counts.groups) × (l.i ≤ l.i-end) × ((j : ℕ) → j < l.i → addressed l.parts.groups l.address j ≡ false)
