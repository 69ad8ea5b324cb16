-- The first exponent at which a magnitude m rounds to a mantissa of at most `most` gives a result no further from m than any other,
-- of two equally near ones the smaller, and but for one case the least exponent. One argument over exponent and mantissa, for both signs.
use Rattle.octets.proofs.Kit.{◌≡◌, refl, sym, ap, ◌∙◌, subst, ◌⊎◌, inl, inr, ℕ, zero, suc, ◌+◌, ◌*◌, ◌-◌, ◌<◌, ◌≤◌, ◌^◌, zero-le, arith, add-one, mul_comm, pow-suc, le_of_suc-le-suc}
use Rattle.octets.proofs.Kit.{le_antisymm, mul_left_comm, div-mul-le_self, lt-div-mul-add, mul-le-mul, mul-le-mul_right, suc-mul, mul_assoc, pow-le-pow_right, eq-or-lt_of_le, Bool, true}
use Rattle.octets.proofs.Kit.{false, cond, leb, pow-add, pow_pos, leb-true, leb-false}
use Rattle.points.specs.Code.{rounded, exponent_from}

abbrev pub dist : ℕ → ℕ → ℕ
dist a b = (a - b) + (b - a)

-- a is as near to m as t, and where t is as near, a is no larger
abbrev pub Nearer : ℕ → ℕ → ℕ → Type 0
Nearer m a t = (dist m a ≤ dist m t) × (dist m a ≡ dist m t → a ≤ t)

-- what the quotient says, with q * p for its result
pub between : (m p : ℕ) → 0 < p → (2 * m ≤ 2 * (rounded m p * p) + p) × (2 * (rounded m p * p) < 2 * m + p)
between m p h = (
  omega (arith, h, lt-div-mul-add {a = 2 * m + p - 1} {b = 2 * p} (omega (arith, h)), mul_left_comm (rounded m p) 2 p),
  omega (arith, h, div-mul-le_self (2 * m + p - 1) (2 * p), mul_left_comm (rounded m p) 2 p),
)

-- among the multiples of p none is nearer
at_rest : (m p a t : ℕ) → 2 * m ≤ 2 * a + p → 2 * a < 2 * m + p → (t ≡ a) ⊎ ((t + p ≤ a) ⊎ (a + p ≤ t)) → Nearer m a t
at_rest m p a t l u (inl e) = (omega (arith, l, u, e), λ w. omega (arith, e))
at_rest m p a t l u (inr (inl e)) = (omega (arith, l, u, e), λ w. omega (arith, l, u, e, w))
at_rest m p a t l u (inr (inr e)) = (omega (arith, l, u, e), λ w. omega (arith, e))

step : (p : ℕ) {s t : ℕ} → s < t → s * p + p ≤ t * p
step p {s} {t} h = subst (λ (x : ℕ). x ≤ t * p) (suc-mul s p) (mul-le-mul_right p h)

apart : (p q t : ℕ) → (t * p ≡ q * p) ⊎ ((t * p + p ≤ q * p) ⊎ (q * p + p ≤ t * p))
apart p q t = go (leb t q) refl
  where
    below : (t ≡ q) ⊎ (t < q) → (t * p ≡ q * p) ⊎ ((t * p + p ≤ q * p) ⊎ (q * p + p ≤ t * p))
    below (inl e) = inl (ap (λ (x : ℕ). x * p) e)
    below (inr l) = inr (inl (step p l))

    go : (b : Bool) → leb t q ≡ b → (t * p ≡ q * p) ⊎ ((t * p + p ≤ q * p) ⊎ (q * p + p ≤ t * p))
    go true e = below (eq-or-lt_of_le (leb-true t q e))
    go false e = inr (inr (step p (leb-false t q e)))

multiples : (m p t : ℕ) → 0 < p → Nearer m (rounded m p * p) (t * p)
multiples m p t h = at_rest m p (rounded m p * p) (t * p) (between m p h).0 (between m p h).1 (apart p (rounded m p) t)

-- an exponent that is no smaller: its results are multiples of 2 ^ e
above : (m e e' q : ℕ) → e ≤ e' → Nearer m (rounded m (2 ^ e) * 2 ^ e) (q * 2 ^ e')
above m e e' q l = subst (Nearer m (rounded m (2 ^ e) * 2 ^ e)) eq (multiples m (2 ^ e) (q * 2 ^ (e' - e)) (pow_pos e))
  where
    eq : q * 2 ^ (e' - e) * 2 ^ e ≡ q * 2 ^ e'
    eq = mul_assoc q (2 ^ (e' - e)) (2 ^ e) ∙ ap (λ (x : ℕ). q * x) (sym (pow-add 2 (e' - e) e) ∙ ap (λ (x : ℕ). 2 ^ x) (omega (arith, l)))

-- a smaller exponent: at the last one before, p', the quotient was above `most`. k is the factor of the multiple of 2 * p' at most * p' or right above
not_below : (m p' most t a k : ℕ) → 0 < p' → 2 * (most * p') + p' < 2 * m → t ≤ most * p' → Nearer m a (k * (2 * p'))
    → (k * (2 * p') ≡ most * p') ⊎ (k * (2 * p') ≡ most * p' + p') → Nearer m a t
not_below m p' most t a k h l u n (inl e) = (omega (arith, l, u, n.0, e), λ w. go w (eq-or-lt_of_le u))
  where
    go : dist m a ≡ dist m t → (t ≡ most * p') ⊎ (t < most * p') → a ≤ t
    go w (inl f) = omega (arith, n.1 (w ∙ ap (dist m) (f ∙ sym e)), e, f)
    go w (inr f) = omega (arith, l, n.0, e, f, w)
not_below m p' most t a k h l u n (inr e) = (omega (arith, l, u, n.0, e), λ w. omega (arith, h, l, u, n.0, e, w))

pub twice_of : (r e : ℕ) → r * 2 ^ suc e ≡ 2 * r * 2 ^ e
twice_of r e = ap (λ (x : ℕ). r * x) (pow-suc 2 e) ∙ sym (mul_assoc r (2 ^ e) 2) ∙ mul_comm (r * 2 ^ e) 2 ∙ sym (mul_assoc 2 r (2 ^ e))

module _ (m most l k : ℕ) (half : (2 * k ≡ most) ⊎ (2 * k ≡ most + 1)) (odd : l ≡ 2 * most + 1) where
  limit_is : (p : ℕ) → l * p ≡ 2 * (most * p) + p
  limit_is p = ap (λ (x : ℕ). x * p) (odd ∙ add-one (2 * most)) ∙ suc-mul (2 * most) p ∙ ap (λ (x : ℕ). x + p) (mul_assoc 2 most p)

  -- what is known where the exponent e is tried
  abbrev pub Before : ℕ → Type 0
  Before zero = Unit {0}
  Before (suc e) = l * 2 ^ e < 2 * m

  past : (e : ℕ) → Before (suc e) → 2 * (most * 2 ^ e) + 2 ^ e < 2 * m
  past e b = omega (arith, b, limit_is (2 ^ e))

  -- no result at an exponent up to e, where m was past the limit, is nearer than the best at the next
  under : (e e' q : ℕ) → Before (suc e) → e' ≤ e → q ≤ most → Nearer m (rounded m (2 ^ e * 2) * (2 ^ e * 2)) (q * 2 ^ e')
  under e e' q b i w =
      not_below m (2 ^ e) most (q * 2 ^ e') (rounded m (2 ^ e * 2) * (2 ^ e * 2)) k (pow_pos e) (past e b) (mul-le-mul w (pow-le-pow_right (omega arith) i))
      (subst (λ (x : ℕ). Nearer m (rounded m (2 ^ e * 2) * (2 ^ e * 2)) (k * x)) (mul_comm (2 ^ e) 2) (multiples m (2 ^ e * 2) k (omega (arith, pow_pos e)))) (side half)
    where
      twice : k * (2 * 2 ^ e) ≡ 2 * k * 2 ^ e
      twice = mul_left_comm k 2 (2 ^ e) ∙ sym (mul_assoc 2 k (2 ^ e))

      side : (2 * k ≡ most) ⊎ (2 * k ≡ most + 1) → (k * (2 * 2 ^ e) ≡ most * 2 ^ e) ⊎ (k * (2 * 2 ^ e) ≡ most * 2 ^ e + 2 ^ e)
      side (inl h) = inl (twice ∙ ap (λ (x : ℕ). x * 2 ^ e) h)
      side (inr h) = inr (twice ∙ ap (λ (x : ℕ). x * 2 ^ e) (h ∙ add-one most) ∙ suc-mul most (2 ^ e))

  -- NONE IS NEARER
  pub nearest : (e : ℕ) → Before e → (e' q : ℕ) → q ≤ most → Nearer m (rounded m (2 ^ e) * 2 ^ e) (q * 2 ^ e')
  nearest zero b e' q w = above m 0 e' q zero-le
  nearest (suc e) b e' q w = go (leb (suc e) e') refl
    where
      go : (c : Bool) → leb (suc e) e' ≡ c → Nearer m (rounded m (2 ^ suc e) * 2 ^ suc e) (q * 2 ^ e')
      go true f = above m (suc e) e' q (leb-true (suc e) e' f)
      go false f = subst (λ (x : ℕ). Nearer m (rounded m x * x) (q * 2 ^ e')) (sym (pow-suc 2 e)) (under e e' q b (le_of_suc-le-suc (leb-false (suc e) e' f)) w)

  -- past the limit at e, the quotient at the next is at least half of `most`
  pub low : (e : ℕ) → Before (suc e) → most ≤ 2 * rounded m (2 ^ suc e)
  low e b = go (leb most (2 * rounded m (2 ^ suc e))) refl
    where
      r : ℕ
      r = rounded m (2 ^ suc e)

      go : (c : Bool) → leb most (2 * r) ≡ c → most ≤ 2 * r
      go true f = leb-true most (2 * r) f
      go false f = absurd (omega (arith, past e b, pow-suc 2 e, twice_of r e, step (2 ^ e) (leb-false most (2 * r) f), (between m (2 ^ suc e) (pow_pos (suc e))).0))

  -- a smaller exponent has the result only where the quotient is exactly that
  pub high : (e e' q : ℕ) → e' ≤ e → q ≤ most → rounded m (2 ^ suc e) * 2 ^ suc e ≡ q * 2 ^ e' → 2 * rounded m (2 ^ suc e) ≤ most
  high e e' q i w h = go (leb (2 * rounded m (2 ^ suc e)) most) refl
    where
      r : ℕ
      r = rounded m (2 ^ suc e)

      go : (c : Bool) → leb (2 * r) most ≡ c → 2 * r ≤ most
      go true f = leb-true (2 * r) most f
      go false f =
          let p = mul-le-mul {n₁ = q} {m₁ = 2 ^ e'} {n₂ = most} {m₂ = 2 ^ e} w (pow-le-pow_right (omega arith) i) in
          absurd (omega (arith, pow_pos e, twice_of r e, h, step (2 ^ e) (leb-false (2 * r) most f), p))

  -- THE LEAST EXPONENT, but where the quotient is exactly half of `most`
  pub least : (e : ℕ) → Before e → (e' q : ℕ) → q ≤ most → rounded m (2 ^ e) * 2 ^ e ≡ q * 2 ^ e' → (e ≤ e') ⊎ ((0 < e) × (2 * rounded m (2 ^ e) ≡ most))
  least zero b e' q w h = inl zero-le
  least (suc e) b e' q w h = go (leb (suc e) e') refl
    where
      go : (c : Bool) → leb (suc e) e' ≡ c → (suc e ≤ e') ⊎ ((0 < suc e) × (2 * rounded m (2 ^ suc e) ≡ most))
      go true f = inl (leb-true (suc e) e' f)
      go false f = inr (omega arith, le_antisymm (high e e' q (le_of_suc-le-suc (leb-false (suc e) e' f)) w h) (low e b))

  -- what the search finds
  pub before : (n e : ℕ) → Before e → Before (exponent_from n m l e)
  unfolding exponent_from
  before zero e b = b
  before (suc n) e b = go (leb (2 * m) (l * 2 ^ e)) refl (λ b'. before n (e + 1) (subst Before (sym (add-one e)) b'))
    where
      go : (c : Bool) → leb (2 * m) (l * 2 ^ e) ≡ c → (l * 2 ^ e < 2 * m → Before (exponent_from n m l (e + 1))) → Before (cond c e (exponent_from n m l (e + 1)))
      go true f next = b
      go false f next = next (leb-false (2 * m) (l * 2 ^ e) f)

  pub reach : (n e : ℕ) → (2 * m ≤ l * 2 ^ exponent_from n m l e) ⊎ (exponent_from n m l e ≡ e + n)
  unfolding exponent_from
  reach zero e = inr (omega arith)
  reach (suc n) e = go (leb (2 * m) (l * 2 ^ e)) refl (reach n (e + 1))
    where
      later : (2 * m ≤ l * 2 ^ exponent_from n m l (e + 1)) ⊎ (exponent_from n m l (e + 1) ≡ e + 1 + n) → (2 * m ≤ l * 2 ^ exponent_from n m l (e + 1)) ⊎ (exponent_from n m l (e + 1) ≡ e + suc n)
      later (inl h) = inl h
      later (inr h) = inr (omega (arith, h))

      go : (c : Bool) → leb (2 * m) (l * 2 ^ e) ≡ c → (2 * m ≤ l * 2 ^ exponent_from n m l (e + 1)) ⊎ (exponent_from n m l (e + 1) ≡ e + 1 + n)
          → (2 * m ≤ l * 2 ^ cond c e (exponent_from n m l (e + 1))) ⊎ (cond c e (exponent_from n m l (e + 1)) ≡ e + suc n)
      go true f next = inl (leb-true (2 * m) (l * 2 ^ e) f)
      go false f next = later next

  -- within the limit the quotient is a mantissa
  pub within : (e : ℕ) → 2 * m ≤ l * 2 ^ e → rounded m (2 ^ e) ≤ most
  within e h = go (leb (rounded m (2 ^ e)) most) refl
    where
      go : (c : Bool) → leb (rounded m (2 ^ e)) most ≡ c → rounded m (2 ^ e) ≤ most
      go true f = leb-true (rounded m (2 ^ e)) most f
      go false f = absurd (omega (arith, h, limit_is (2 ^ e), step (2 ^ e) (leb-false (rounded m (2 ^ e)) most f), (between m (2 ^ e) (pow_pos e)).1))

-- the search tries 16 exponents
pub up_to : (m l n e : ℕ) → exponent_from n m l e ≤ e + n
unfolding exponent_from
up_to m l zero e = omega arith
up_to m l (suc n) e = go (leb (2 * m) (l * 2 ^ e)) (up_to m l n (e + 1))
  where
    go : (c : Bool) → exponent_from n m l (e + 1) ≤ e + 1 + n → cond c e (exponent_from n m l (e + 1)) ≤ e + suc n
    go true next = omega arith
    go false next = omega (arith, next)
