-- The rights that levels have in common.
use Rattle.octets.proofs.Kit.{ℕ, suc, ◌/◌, ◌%◌, ◌≤◌, ◌<◌, ◌≡◌, subst, ◌↔◌, dec_lt, le_refl, arith}
use Rattle.sheet.specs.Lookup.{common}

module _ (l k : ℕ) where
  -- A LEVEL SUFFICES UNDER WHAT TWO HAVE IN COMMON exactly if it suffices under both: to read, and to write
  pub common_reading : (level : ℕ) → (level ≤ common l k / 16) ↔ ((level ≤ l / 16) × (level ≤ k / 16))
  unfolding common
  common_reading level = (λ h. omega arith, λ h. omega arith)

  pub common_writing : (level : ℕ) → (level ≤ common l k % 16) ↔ ((level ≤ l % 16) × (level ≤ k % 16))
  unfolding common
  common_writing level = (λ h. omega arith, λ h. omega arith)

  -- taken twice it is the same
  pub common_again : common (common l k) k ≡ common l k
  unfolding common
  common_again = omega arith

-- what has itself in common with itself is the same
pub common_self : (l : ℕ) → common l l ≡ l
unfolding common
common_self l = omega arith

-- levels are told by what suffices under them
pub levels_once : (l k : ℕ) → ((level : ℕ) → (level ≤ l / 16) ↔ (level ≤ k / 16)) → ((level : ℕ) → (level ≤ l % 16) ↔ (level ≤ k % 16)) → l ≡ k
levels_once l k r w = omega (arith, (r (l / 16)).0 (le_refl _), (r (k / 16)).1 (le_refl _), (w (l % 16)).0 (le_refl _), (w (k % 16)).1 (le_refl _))

-- what holds below n and of n holds below n + 1
pub below_suc : (P : ℕ → Type 0) (n : ℕ) → (((i : ℕ) → i < n → P i) × P n) ↔ ((i : ℕ) → i < suc n → P i)
below_suc P n = (λ h i l. go h i l (dec_lt i n), λ h. (λ i l. h i (omega arith), h n (omega arith)))
  where
    go : ((i : ℕ) → i < n → P i) × P n → (i : ℕ) → i < suc n → Dec (i < n) → P i
    go h i l (yes d) = h.0 i d
    go h i l (no d) = let e : n ≡ i = omega arith in subst P e h.1
