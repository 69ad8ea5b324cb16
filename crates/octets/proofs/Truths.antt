-- What each test says, and what tests put together say.
use Rattle.octets.proofs.Kit.{ℕ, ◌≤◌, ◌<◌, ◌≡◌, refl, sym, ◌↔◌, ◌⊎◌, inl, inr, Bool, true, false, ◌&&◌, ◌||◌, ltb, leb, eqb, ltb-true, leb-true, eqb-true, lt-ltb, le-leb, eq-eqb}

-- false is not true
pub never {ℓ} : {A : Type ℓ} → false ≡ true → A
never e = absurd (mathlib.Core.Path.subst (λ (b : Bool). lib.Dec.T (mathlib.Core.Bool.not b)) e tt)

pub and_is : (a b : Bool) → ((a && b) ≡ true) ↔ ((a ≡ true) × (b ≡ true))
and_is true b = (λ e. (refl, e), λ h. h.1)
and_is false b = (λ e. (e, never e), λ h. h.0)

pub first_true : (a b : Bool) → (a && b) ≡ true → a ≡ true
first_true a b e = ((and_is a b).0 e).0

pub second_true : (a b : Bool) → (a && b) ≡ true → b ≡ true
second_true a b e = ((and_is a b).0 e).1

pub or_is : (a b : Bool) → ((a || b) ≡ true) ↔ ((a ≡ true) ⊎ (b ≡ true))
or_is true b = (λ e. inl refl, λ h. refl)
or_is false b = (λ e. inr e, λ h. mathlib.Core.Logic.⊎_elim (λ e. never e) (λ e. e) h)

pub below_is : (x y : ℕ) → (ltb x y ≡ true) ↔ (x < y)
below_is x y = (ltb-true x y, lt-ltb x y)

pub at_most_is : (x y : ℕ) → (leb x y ≡ true) ↔ (x ≤ y)
at_most_is x y = (leb-true x y, le-leb x y)

pub equal_is : (x y : ℕ) → (eqb x y ≡ true) ↔ (x ≡ y)
equal_is x y = (eqb-true x y, eq-eqb x y)

-- a test is one or the other
pub decided : (t : Bool) → (t ≡ true) ⊎ (t ≡ false)
decided true = inl refl
decided false = inr refl

-- two tests that hold together are the same
pub bool_same : (a b : Bool) → (a ≡ true → b ≡ true) → (b ≡ true → a ≡ true) → a ≡ b
bool_same true b f g = sym (f refl)
bool_same false true f g = g refl
bool_same false false f g = refl

-- a test that can't hold
pub must_fail : (a : Bool) → (a ≡ true → ⊥) → a ≡ false
must_fail true f = absurd (f refl)
must_fail false f = refl
