-- Which bits are those of finite floats.
use Rattle.octets.proofs.Kit.{◌≡◌, refl, sym, ap, ◌∙◌, subst, ℕ, ◌<◌, ◌≤◌, ◌%◌, ◌/◌, arith, le_of_lt, Bool, true, false, not, cond, T, eqb}
use Rattle.octets.proofs.Kit.{Float, nan, inf, fin, binary32, nan_bits, to_bits, of_bits, of_fields, fits, nan_bits_above, of_bits-to_bits, le-ltb}
use Rattle.std.specs.Float.{float_is_finite}
use Rattle.points.specs.{Point.{finite}}

no_nan_low : (n : ℕ) → n % 2147483648 < 2139095040 → T (not (nan_bits binary32 n))
no_nan_low n h = subst (λ (b : Bool). T (not b)) (sym (nan_bits_above binary32 n ∙ le-ltb _ _ (le_of_lt h))) tt

all_ones : (s : Bool) (t x : ℕ) → x ≡ 255 → finite (of_fields binary32 s x t) ≡ false
unfolding of_fields
all_ones s t x e = subst (λ (y : ℕ). finite (of_fields binary32 s y t) ≡ false) (sym e) (pick (eqb t 0))
  where
    pick : (b : Bool) → finite (cond b (inf s) nan) ≡ false
    pick true = refl
    pick false = refl

field_is : (n : ℕ) → 2139095040 ≤ n % 2147483648 → n % 2147483648 / 8388608 ≡ 255
field_is n h = omega (arith, h)

above_none : (n : ℕ) → 2139095040 ≤ n % 2147483648 → finite (of_bits binary32 n) ≡ false
unfolding of_bits
above_none n h = all_ones _ (n % 8388608) (n % 2147483648 / 8388608) (field_is n h)

above : (x : Float) → T (fits binary32 x) → 2139095040 ≤ to_bits binary32 x % 2147483648 → finite x ≡ false
above x ok h = ap finite (sym (of_bits-to_bits binary32 x ok)) ∙ above_none (to_bits binary32 x) h

-- a number of which the exponent's eight bits
pub no_nan : (n : ℕ) → n / 8388608 % 256 < 255 → T (not (nan_bits binary32 n))
no_nan n h = no_nan_low n (omega (arith, h))

pub above_infinite : (x : Float) → T (fits binary32 x) → 255 ≤ to_bits binary32 x / 8388608 % 256 → finite x ≡ false
above_infinite x ok h = above x ok (omega (arith, h))

-- the bits of a finite float are written, and no others
pub finite_is : (x : Float) → float_is_finite x ≡ finite x
unfolding float_is_finite
finite_is nan = refl
finite_is (inf s) = refl
finite_is (fin s m k) = refl
