-- `plain_services::properties::nth` meets its contract.
use Rattle.octets.proofs.Kit.{ℕ, ◌≤◌, ◌<◌, ◌≡◌, false}
use Rattle.plain_services.specs.Described.{is_nth}
use Rattle.plain_services.proofs.properties.nth.Given as goal

abbrev pub invariant-loop-i : goal.invariant-loop-i
invariant-loop-i l = (l.i-end ≡ l.fn.parts.counts.properties) × (l.i ≤ l.i-end) × ((j : ℕ) → j < l.i → is_nth l.properties l.object l.index j ≡ false)
