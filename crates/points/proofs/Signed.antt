-- Numbers by sign and magnitude, and how far two of them are apart.
use Rattle.octets.proofs.Kit.{◌≡◌, refl, sym, ap, ◌∙◌, ℕ, zero, suc, ◌+◌, ◌-◌, ◌≤◌, ◌<◌, Bool, true, false, cond, arith, ltb, leb, ℤ, pos, negsuc, neg_ℤ, nat_abs, sub_ℕ, ◌-ℤ◌, pos-ne-negsuc}
use Rattle.octets.proofs.Kit.{ltb-true, ltb-false, leb-true}
use Rattle.octets.proofs.Truths.{first_true}
use Rattle.points.specs.Nine.{in_range}
use Rattle.points.proofs.Best.{dist, Nearer}

abbrev pub sgn : Bool → ℕ → ℤ
sgn true a = neg_ℤ (pos a)
sgn false a = pos a

pub abs_sgn : (s : Bool) (a : ℕ) → nat_abs (sgn s a) ≡ a
abs_sgn true zero = refl
abs_sgn true (suc a) = refl
abs_sgn false a = refl

-- two numbers of unequal sign that are equal are 0
pub zero_sgn : (s : Bool) (a b : ℕ) → sgn s a ≡ sgn (mathlib.Core.Bool.not s) b → a ≡ 0
zero_sgn true zero b e = refl
zero_sgn true (suc a) b e = absurd (pos-ne-negsuc b a (sym e))
zero_sgn false a zero e = ap nat_abs e
zero_sgn false a (suc b) e = absurd (pos-ne-negsuc a b e)

-- the distance by the signs
abbrev pub far : Bool → Bool → ℕ → ℕ → ℕ
far true true a b = dist a b
far false false a b = dist a b
far true false a b = a + b
far false true a b = a + b

abs_sub : (a b : ℕ) → nat_abs (sub_ℕ a b) ≡ dist a b
abs_sub a b = go (ltb a b) refl
  where
    go : (c : Bool) → ltb a b ≡ c → nat_abs (cond c (negsuc (b - suc a)) (pos (a - b))) ≡ dist a b
    go true e = omega (arith, ltb-true a b e)
    go false e = omega (arith, ltb-false a b e)

pub far_is : (s t : Bool) (a b : ℕ) → nat_abs (sgn s a -ℤ sgn t b) ≡ far s t a b
far_is false false a zero = omega arith
far_is false false a (suc b) = abs_sub a (suc b)
far_is false true a zero = refl
far_is false true a (suc b) = refl
far_is true false zero zero = refl
far_is true false zero (suc b) = abs_sub 0 (suc b) ∙ omega arith
far_is true false (suc a) zero = abs_sub 0 (suc a) ∙ omega arith
far_is true false (suc a) (suc b) = omega arith
far_is true true zero zero = refl
far_is true true zero (suc b) = omega arith
far_is true true (suc a) zero = abs_sub 0 (suc a) ∙ omega arith
far_is true true (suc a) (suc b) = abs_sub (suc b) (suc a) ∙ omega arith

-- a result of m's sign that is nearer than any of that sign, 0 included, is nearer than any
pub compare : (s t : Bool) (m a f : ℕ) → (t ≡ s → Nearer m a f) → Nearer m a 0 → (far s s a m ≤ far t s f m) × (far s s a m ≡ far t s f m → a ≤ f)
compare true true m a f n z = (omega (arith, (n refl).0), λ e. (n refl).1 (omega (arith, e)))
compare false false m a f n z = (omega (arith, (n refl).0), λ e. (n refl).1 (omega (arith, e)))
compare true false m a f n z = (omega (arith, z.0), λ e. across m a f z e)
  where
    across : (m a f : ℕ) → Nearer m a 0 → dist a m ≡ f + m → a ≤ f
    across m a f z e = omega (arith, z.1 (omega (arith, z.0, e)))
compare false true m a f n z = (omega (arith, z.0), λ e. omega (arith, z.1 (omega (arith, z.0, e))))

-- no distance at all
pub far_none : (s t : Bool) (a b : ℕ) → far s t a b ≤ 0 → sgn s a ≡ sgn t b
far_none true true a b h = let i : a ≡ b = omega (arith, h) in ap (sgn true) i
far_none false false a b h = let i : a ≡ b = omega (arith, h) in ap (sgn false) i
far_none true false a b h =
    let i : a ≡ 0 = omega (arith, h) in
    let j : 0 ≡ b = omega (arith, h) in
    ap (sgn true) i ∙ ap (sgn false) j
far_none false true a b h =
    let i : a ≡ 0 = omega (arith, h) in
    let j : 0 ≡ b = omega (arith, h) in
    ap (sgn false) i ∙ ap (sgn true) j

-- the range by magnitudes
pub range_plus : (m : ℕ) → in_range (pos m) ≡ true → m ≤ 67043328
range_plus m h = leb-true m 67043328 h

pub range_minus : (n : ℕ) → in_range (negsuc n) ≡ true → n < 67108864
range_minus n h = omega (arith, leb-true n 67108863 (first_true (leb n 67108863) true h))

pub range_abs : (x : ℤ) → in_range x ≡ true → nat_abs x ≤ 67108864
range_abs (pos m) h = omega (arith, range_plus m h)
range_abs (negsuc n) h = omega (arith, range_minus n h)
