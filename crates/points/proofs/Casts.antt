-- What a signed number's cast, negation and magnitude ask, once for every function: `to_z w (of_z w z)` is z where z fits.
use Rattle.octets.proofs.Kit.{◌≡◌, sym, ap, ap₂, ◌∙◌, subst, ℕ, zero, suc, ◌<◌, ◌^◌, arith, ℤ, pos, nat_abs}
use Rattle.octets.proofs.Kit.{neg_ℤ, ◌-ℤ◌, +ℤ_idl, mag}
use mir.{Syntax.{w32}, Val.{SFits, to_z, of_z}, Facts.to_z-of_z}
use Rattle.points.specs.Code.{quotient, limit, exponent_from, exponent_of, stepped, code_of}

-- 0 - z, as MIR writes a negation
from_zero : (z : ℤ) → pos 0 -ℤ z ≡ neg_ℤ z
from_zero z = +ℤ_idl (neg_ℤ z)

-- a number below half the range, as `i32`
pub as_signed : {m : ℕ} → m < 2 ^ 31 → to_z w32 m ≡ pos m
as_signed {m} h = to_z-of_z {w = w32} {z = pos m} (record { sfits = h })

minus_in : (m : ℕ) → m < 2 ^ 31 → mag (neg_ℤ (pos m)) < 2 ^ 31
minus_in zero h = omega arith
minus_in (suc m) h = omega (arith, h)

minus_fits : {m : ℕ} → m < 2 ^ 31 → SFits w32 (pos 0 -ℤ to_z w32 m)
minus_fits {m} h = record { sfits = subst (λ (y : ℤ). mag y < 2 ^ 31) (sym (ap (λ (y : ℤ). pos 0 -ℤ y) (as_signed h) ∙ from_zero (pos m))) (minus_in m h) }

-- a magnitude taken of such a number
pub abs_is : {x : ℤ} {q : ℕ} → SFits w32 x → q ≡ nat_abs (to_z w32 (of_z w32 x)) → q ≡ nat_abs x
abs_is f e = e ∙ ap nat_abs (to_z-of_z f)

-- minus such a number
pub minus_is : {m : ℕ} → m < 2 ^ 31 → to_z w32 (of_z w32 (pos 0 -ℤ to_z w32 m)) ≡ neg_ℤ (pos m)
minus_is {m} h = to_z-of_z (minus_fits h) ∙ ap (λ (y : ℤ). pos 0 -ℤ y) (as_signed h) ∙ from_zero (pos m)

-- the steps of the choice, x stored as its bits
pub exponent_is : (x : ℤ) (a l e : ℕ) → SFits w32 x → a ≡ nat_abs (to_z w32 (of_z w32 x)) → l ≡ limit (to_z w32 (of_z w32 x)) → e ≡ exponent_from 15 a l 0 → e ≡ exponent_of x
exponent_is x a l e f h i j = j ∙ ap₂ (λ (m n : ℕ). exponent_from 15 m n 0) (abs_is f h) (i ∙ ap limit (to_z-of_z f))

pub mantissa_is : (x : ℤ) (e p : ℕ) (m : ℤ) → SFits w32 x → e ≡ exponent_of x → p ≡ 2 ^ e → m ≡ quotient (to_z w32 (of_z w32 x)) p → m ≡ quotient x (2 ^ exponent_of x)
mantissa_is x e p m f h i j = j ∙ ap₂ quotient (to_z-of_z f) (i ∙ ap (λ (k : ℕ). 2 ^ k) h)

pub code_is : (x : ℤ) (e r : ℕ) (m : ℤ) → SFits w32 m → e ≡ exponent_of x → m ≡ quotient x (2 ^ exponent_of x) → r ≡ stepped e (to_z w32 (of_z w32 m)) → r ≡ code_of x
unfolding code_of
code_is x e r m f h i j = j ∙ ap₂ stepped h (to_z-of_z f ∙ i)
