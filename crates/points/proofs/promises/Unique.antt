-- What is promised of the code determines it; and a number that a code has is read back.
use Rattle.octets.proofs.Kit.{◌≡◌, refl, sym, ap, ◌∙◌, subst, ◌⊎◌, inl, inr, ℕ, zero, suc, ◌*◌, ◌^◌, ◌≤◌, ◌<◌, Bool, true, false, not, arith, le_antisymm, eq_of_mul-eq-mul_right, pow_pos, ℤ}
use Rattle.octets.proofs.Kit.{pos, negsuc, nat_abs, ◌-ℤ◌}
use Rattle.points.specs.{Nine.{exponent_at, res, Valid, in_range, off, Chosen}, Code.code_of}
use Rattle.points.proofs.{Signed.{sgn, zero_sgn, far, far_is, far_none}, promises.Choice.{view, code, off_is, size_is, chosen}}

-- x by its sign
abbrev is_minus : ℤ → Bool
is_minus (pos m) = false
is_minus (negsuc n) = true

signed : (x : ℤ) → x ≡ sgn (is_minus x) (nat_abs x)
signed (pos m) = refl
signed (negsuc n) = refl

-- the magnitude of a code's result
abbrev size : ℕ → ℕ
size c = (view c).factor * 2 ^ exponent_at c

off_at : (x : ℤ) (c : ℕ) → off x c ≡ far (view c).minus (is_minus x) (size c) (nat_abs x)
off_at x c = ap (λ (y : ℤ). nat_abs (res c -ℤ y)) (signed x) ∙ off_is (is_minus x) (view c).minus (nat_abs x) (size c) c (view c).is

-- the code 0 is valid, and as far from x as 0 is
zero_valid : Valid 0
zero_valid = record { word = omega arith; other = λ e. omega (arith, e) }

from_zero : (s : Bool) (m : ℕ) → far false s 0 m ≡ m
from_zero true m = omega arith
from_zero false m = omega arith

zero_off : (x : ℤ) → off x 0 ≡ nat_abs x
unfolding res
zero_off x = ap (λ (y : ℤ). nat_abs (pos 0 -ℤ y)) (signed x) ∙ far_is false (is_minus x) 0 (nat_abs x) ∙ from_zero (is_minus x) (nat_abs x)

-- on the other side of zero nothing but 0 is as near as 0
other_side : (s t : Bool) (a m : ℕ) → t ≡ not s → far t s a m ≤ m → a ≡ 0
other_side true true a m e h = absurd (subst lib.Dec.T e tt)
other_side true false a m e h = omega (arith, h)
other_side false true a m e h = omega (arith, h)
other_side false false a m e h = absurd (subst lib.Dec.T (sym e) tt)

sides : (s t u : Bool) → (t ≡ u) ⊎ ((t ≡ not s) ⊎ (u ≡ not s))
sides true true true = inl refl
sides true true false = inr (inr refl)
sides true false true = inr (inl refl)
sides true false false = inl refl
sides false true true = inl refl
sides false true false = inr (inl refl)
sides false false true = inr (inr refl)
sides false false false = inl refl

none_sgn : (t u : Bool) → sgn t 0 ≡ sgn u 0
none_sgn true true = refl
none_sgn true false = refl
none_sgn false true = refl
none_sgn false false = refl

module _ (x : ℤ) (c d : ℕ) (g : Chosen x c) (h : Chosen x d) where
  sizes : size c ≡ size d
  sizes =
      let o : off x c ≡ off x d = le_antisymm (g.nearest d h.valid) (h.nearest c g.valid) in
      sym (size_is (view c).minus (size c) c (view c).is)
      ∙ le_antisymm (g.smaller d h.valid o) (h.smaller c g.valid (sym o))
      ∙ size_is (view d).minus (size d) d (view d).is

  -- a result on the other side of zero is 0
  none : (k : ℕ) → Chosen x k → (view k).minus ≡ not (is_minus x) → size k ≡ 0
  none k i e =
      other_side (is_minus x) (view k).minus (size k) (nat_abs x) e
      (subst (λ (n : ℕ). n ≤ nat_abs x) (off_at x k) (subst (λ (n : ℕ). off x k ≤ n) (zero_off x) (i.nearest 0 zero_valid)))

  zeros : size c ≡ 0 → size d ≡ 0 → res c ≡ res d
  zeros i j =
      (view c).is ∙ ap (sgn (view c).minus) i ∙ none_sgn (view c).minus (view d).minus ∙ sym ((view d).is ∙ ap (sgn (view d).minus) j)

  results : res c ≡ res d
  results = go (sides (is_minus x) (view c).minus (view d).minus)
    where
      go : ((view c).minus ≡ (view d).minus) ⊎ (((view c).minus ≡ not (is_minus x)) ⊎ ((view d).minus ≡ not (is_minus x))) → res c ≡ res d
      go (inl e) = (view c).is ∙ ap (λ (t : Bool). sgn t (size c)) e ∙ ap (sgn (view d).minus) sizes ∙ sym (view d).is
      go (inr (inl e)) = zeros (none c g e) (sym sizes ∙ none c g e)
      go (inr (inr e)) = zeros (sizes ∙ none d h e) (none d h e)

  exponents : exponent_at c ≡ exponent_at d
  exponents = le_antisymm (g.least d h.valid results) (h.least c g.valid (sym results))

  factors : (view c).factor ≡ (view d).factor
  factors = eq_of_mul-eq-mul_right (2 ^ exponent_at d) (pow_pos (exponent_at d)) (view c).factor (view d).factor (ap (λ (k : ℕ). (view c).factor * 2 ^ k) (sym exponents) ∙ sizes)

  -- a factor of 0 has the sign plus
  some_minus : (k : ℕ) → (view k).minus ≡ true → 0 < size k
  some_minus k e = positive (view k).factor (2 ^ exponent_at k) ((view k).some e) (pow_pos (exponent_at k))
    where
      positive : (a b : ℕ) → 0 < a → 0 < b → 0 < a * b
      positive zero b i j = absurd (omega (arith, i))
      positive (suc a) b i j = omega (arith, j, native.Mathlib.Nat.suc-mul a b)

  clash : (i j : ℕ) → res i ≡ res j → (view i).minus ≡ true → (view j).minus ≡ false → ⊥
  clash i j r e f =
      let z : size i ≡ 0 = zero_sgn true (size i) (size j) (ap (λ (t : Bool). sgn t (size i)) (sym e) ∙ sym (view i).is ∙ r ∙ (view j).is ∙ ap (λ (t : Bool). sgn t (size j)) f) in
      omega (arith, z, some_minus i e)

  signs : (t u : Bool) → (view c).minus ≡ t → (view d).minus ≡ u → t ≡ u
  signs true true e f = refl
  signs false false e f = refl
  signs true false e f = absurd (clash c d results e f)
  signs false true e f = absurd (clash d c (sym results) f e)

  -- WHAT IS PROMISED OF THE CODE DETERMINES IT
  pub unique : c ≡ d
  unique =
      (view c).whole g.valid.word
      ∙ ap (λ (t : Bool). code t (exponent_at c) (view c).factor) (signs (view c).minus (view d).minus refl refl)
      ∙ ap (λ (e : ℕ). code (view d).minus e (view c).factor) exponents
      ∙ ap (code (view d).minus (exponent_at d)) factors
      ∙ sym ((view d).whole h.valid.word)

-- WHAT IS WRITTEN OF A NUMBER THAT A VALID CODE HAS READS AS THAT NUMBER
pub back : (c : ℕ) → Valid c → in_range (res c) ≡ true → res (code_of (res c)) ≡ res c
back c v r =
    (view (code_of (res c))).is
    ∙ far_none (view (code_of (res c))).minus (is_minus (res c)) (size (code_of (res c))) (nat_abs (res c))
    (subst (λ (n : ℕ). n ≤ 0) (off_at (res c) (code_of (res c))) (subst (λ (n : ℕ). off (res c) (code_of (res c)) ≤ n) (ap nat_abs (lib.IntN.+ℤ_invr (res c))) ((chosen (res c) r).nearest c v)))
    ∙ sym (signed (res c))
