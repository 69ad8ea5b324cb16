-- Numbers that rise: what lies between the first and the last lies in one step, and in one alone.
use Rattle.octets.proofs.Kit.{ℕ, zero, suc, ◌<◌, ◌≤◌, ◌≡◌, dec_lt, le_refl, le_trans, arith}

-- p lies in a step of f, below n
pub record Step (f : ℕ → ℕ) (n p : ℕ) : Type 0 where
  pub index : ℕ
  pub below : index < n
  pub from : f index ≤ p
  pub to : p < f (suc index)

-- a position between the first and the last lies in a step
pub between : (f : ℕ → ℕ) (n p : ℕ) → f 0 ≤ p → p < f n → Step f n p
between f zero p h l = absurd (omega arith)
between f (suc n) p h l = go (dec_lt p (f n)) (between f n p h)
  where
    go : Dec (p < f n) → (p < f n → Step f n p) → Step f (suc n) p
    go (yes k) ih = let r = ih k in record { index = r.index; below = omega arith; from = r.from; to = r.to }
    go (no k) ih = record { index = n; below = omega arith; from = omega arith; to = l }

module _ (f : ℕ → ℕ) (n : ℕ) (up : (i : ℕ) → i < n → f i ≤ f (suc i)) where
  -- what rises at each step rises between any two
  pub rising : (i j : ℕ) → i ≤ j → j ≤ n → f i ≤ f j
  rising i zero h l = let q : i ≡ 0 = omega arith in rw q (le_refl _)
  rising i (suc j) h l = go (dec_lt i (suc j)) (λ p. rising i j (omega arith) (omega arith))
    where
      go : Dec (i < suc j) → (i < suc j → f i ≤ f j) → f i ≤ f (suc j)
      go (yes p) ih = le_trans (ih p) (up j l)
      go (no p) ih = let q : i ≡ suc j = omega arith in rw q (le_refl _)

  -- a position lies in one step at most
  pub once : {p : ℕ} (a b : Step f n p) → a.index ≡ b.index
  once a b = go (dec_lt a.index b.index) (dec_lt b.index a.index)
    where
      go : Dec (a.index < b.index) → Dec (b.index < a.index) → a.index ≡ b.index
      go (yes h) d = absurd (omega (arith, a, b, rising (suc a.index) b.index h (omega arith)))
      go (no h) (yes l) = absurd (omega (arith, a, b, rising (suc b.index) a.index l (omega arith)))
      go (no h) (no l) = omega arith
