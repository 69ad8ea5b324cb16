-- A choice by a test, case by case.
use Rattle.octets.proofs.Kit.{ℕ, ◌<◌, ◌≤◌, ◌≡◌, refl, Bool, true, false, cond, not, ◌&&◌, ltb, leb, eqb, ltb-true, ltb-false, leb-true, leb-false, eqb-true, eqb-false}
use Rattle.octets.proofs.Truths.{and_is}

module _ {D : Type 0} (P : D → Type 0) where
  pub by_test : (t : Bool) (x y : D) → (t ≡ true → P x) → (t ≡ false → P y) → P (cond t x y)
  by_test true x y f g = f refl
  by_test false x y f g = g refl

  pub by_not : (t : Bool) (x y : D) → (t ≡ false → P x) → (t ≡ true → P y) → P (cond (not t) x y)
  by_not true x y f g = g refl
  by_not false x y f g = f refl

  module _ (m n : ℕ) (x y : D) where
    pub by_lt : (m < n → P x) → (n ≤ m → P y) → P (cond (ltb m n) x y)
    by_lt f g = by_test (ltb m n) x y (λ e. f (ltb-true m n e)) (λ e. g (ltb-false m n e))

    pub by_le : (m ≤ n → P x) → (n < m → P y) → P (cond (leb m n) x y)
    by_le f g = by_test (leb m n) x y (λ e. f (leb-true m n e)) (λ e. g (leb-false m n e))

    pub by_eq : (m ≡ n → P x) → ((m ≡ n → ⊥) → P y) → P (cond (eqb m n) x y)
    by_eq f g = by_test (eqb m n) x y (λ e. f (eqb-true m n e)) (λ e. g (eqb-false m n e))

  -- two tests that both pass, or not
  pub by_both : (a b : Bool) (x y : D) → (a ≡ true → b ≡ true → P x) → P y → P (cond (a && b) x y)
  by_both a b x y f g = by_test (a && b) x y (λ e. let h = (and_is a b).0 e in f h.0 h.1) (λ e. g)
