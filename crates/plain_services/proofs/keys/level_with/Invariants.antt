-- `plain_services::keys::level_with` meets its contract. The invariant: no level so far has the key.
use Rattle.octets.proofs.Kit.{ℕ, ◌-◌, ◌≤◌, ◌<◌, ◌≡◌, length, get_or}
use Rattle.plain_services.proofs.keys.level_with.Given as goal

abbrev pub invariant-loop-level : goal.invariant-loop-level
invariant-loop-level l = (l.level ≤ 3) × (length l.keys ≡ 3) × ((j : ℕ) → j < l.level → l.key ≡ get_or l.keys j 0 → ⊥)

abbrev pub decreases-loop-level : goal.decreases-loop-level
decreases-loop-level l = 3 - l.level
