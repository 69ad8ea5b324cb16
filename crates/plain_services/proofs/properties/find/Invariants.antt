-- `plain_services::properties::find` meets its contract.
use Rattle.octets.proofs.Kit.{ℕ, ◌≤◌, ◌<◌, ◌≡◌, false}
use Rattle.plain_services.proofs.{Finding.{named}}
use Rattle.plain_services.proofs.properties.find.Given as goal

abbrev pub invariant-loop-i : goal.invariant-loop-i
invariant-loop-i l = (l.i-end ≡ l.parts.counts.properties) × (l.i ≤ l.i-end) × ((j : ℕ) → j < l.i → named l.parts l.object l.id j ≡ false)
