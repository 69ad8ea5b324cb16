-- A property's index within its object is at most its number.
use Rattle.octets.proofs.Kit.{ℕ, zero, suc, ◌+◌, ◌≤◌, Bool, true, false, cond, List, eqb, arith}
use Rattle.sheet.specs.Lookup.{object_at, rank}

pub rank_bound : (s : List ℕ) (object i : ℕ) → rank s object i ≤ i
unfolding rank
rank_bound s object zero = omega arith
rank_bound s object (suc i) = go (eqb (object_at s i) object) (rank_bound s object i)
  where
    go : (t : Bool) → rank s object i ≤ i → rank s object i + cond t 1 0 ≤ suc i
    go true h = omega arith
    go false h = omega arith
