-- The number of the rules of an accepted sheet.
use Rattle.octets.proofs.Kit.{ℕ, ◌≡◌, refl, ◌⊎◌, inl, inr, List, ℕ_discrete, arith}
use Rattle.sheet.specs.{Layout.◌of◌, Head.{rules_of, later}, Rules.Accepted}
use Rattle.sheet.specs.Head as head
use Rattle.sheet.proofs.rules.{Good.good, Editions.latest_second}

-- THEY ARE 0, OR THE LATER
pub rules_known : (s : List ℕ) → Accepted s → (rules_of s ≡ 0) ⊎ (rules_of s ≡ later)
unfolding rules_of
rules_known s ok = go (ℕ_discrete (head.rules of s) 0)
  where
    go : Dec (head.rules of s ≡ 0) → (head.rules of s ≡ 0) ⊎ (head.rules of s ≡ later)
    go (yes z) = inl z
    go (no z) = let g = good s ok in inr (omega (arith, g.zeros, latest_second s (head.edition of s) refl g.own))
