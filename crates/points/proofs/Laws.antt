-- What the branches of reading and writing ask.
use Rattle.octets.proofs.Kit.{ℕ, zero, suc, ◌*◌, ◌-◌, ◌/◌, ◌%◌, ◌^◌, ◌≤◌, ◌<◌, ◌≡◌, refl, sym, ap, ◌∙◌, subst, Bool, true, false, cond, arith, pow-le-pow_right, mul-le-mul, eqb, pow_pos}
use Rattle.octets.proofs.Kit.{pos, neg_ℤ, ◌*ℤ◌, List, length, lt-ltb, le-ltb, eq-eqb, ne_eqb, eqb-true, eqb-false}
use Rattle.std.specs.Prelude.{Option, Some, None, Result, Err}
use Rattle.octets.specs.Bytes.{num_at, IsNum}
use Rattle.points.specs.{Nine.{res, exponent_at}, Point.{width_at, width_given, point_at, read_point}, declared.{Datapoint.{Datapoint}, Refusal.Refusal}}
use Rattle.points.specs.declared.Refusal.TheVariants as why

-- a power of two with an exponent up to 15
pub small : (e : ℕ) → e ≤ 15 → (0 < 2 ^ e) × (2 ^ e ≤ 32768)
small e l = (pow_pos e, omega (arith, pow-le-pow_right {n = 2} (omega arith) l))

pub shifted : (e : ℕ) → e ≤ 15 → (1 * 2 ^ e) % 2 ^ 32 ≡ 2 ^ e
shifted e l = omega (arith, (small e l).1)

-- a mantissa times such a power
pub product : (q e : ℕ) → q ≤ 2048 → e ≤ 15 → q * 2 ^ e ≤ 67108864
product q e h l = omega (arith, mul-le-mul {n₁ = q} {m₁ = 2 ^ e} {n₂ = 2048} {m₂ = 32768} h (small e l).1)

pub minus_times : (q p : ℕ) → neg_ℤ (pos q) *ℤ pos p ≡ neg_ℤ (pos (q * p))
minus_times zero p = ap (λ (n : ℕ). pos n) (omega arith) ∙ ap (λ (n : ℕ). neg_ℤ (pos n)) (sym (zero_times p))
  where
    zero_times : (p : ℕ) → 0 * p ≡ 0
    zero_times p = omega arith
minus_times (suc q) p = refl

pub res_plus : (c : ℕ) → c < 32768 → pos (c % 2048 * 2 ^ (c / 2048 % 16)) ≡ res c
unfolding res
res_plus c h = ap (λ (b : Bool). cond b (pos (c % 2048)) (neg_ℤ (pos (2048 - c % 2048))) *ℤ pos (2 ^ exponent_at c)) (sym (lt-ltb c 32768 h))

pub res_minus : (c : ℕ) → 32768 ≤ c → neg_ℤ (pos ((2048 - c % 2048) * 2 ^ (c / 2048 % 16))) ≡ res c
unfolding res
res_minus c h =
    sym (minus_times (2048 - c % 2048) (2 ^ exponent_at c))
    ∙ ap (λ (b : Bool). cond b (pos (c % 2048)) (neg_ℤ (pos (2048 - c % 2048))) *ℤ pos (2 ^ exponent_at c)) (sym (le-ltb c 32768 h))

-- a width that is given
given : (t w : ℕ) → Some w ≡ width_given t → (w ≡ width_at t) × (w ≡ 0 → ⊥)
given t w e = go (eqb (width_at t) 0) refl e
  where
    go : (b : Bool) → eqb (width_at t) 0 ≡ b → Some w ≡ cond b None (Some (width_at t)) → (w ≡ width_at t) × (w ≡ 0 → ⊥)
    go true f h = cc
    go false f h =
        let i : w ≡ width_at t = cc in
        (i, λ z. eqb-false (width_at t) 0 f (sym i ∙ z))

none : (t : ℕ) → None ≡ width_given t → width_at t ≡ 0
none t e = go (eqb (width_at t) 0) refl e
  where
    go : (b : Bool) → eqb (width_at t) 0 ≡ b → None ≡ cond b None (Some (width_at t)) → width_at t ≡ 0
    go true f h = eqb-true (width_at t) 0 f
    go false f h = cc

-- what reading gives, branch by branch
pub read_25 : (t w : ℕ) (b : List ℕ) → w ≡ width_at t → w ≡ 0 → Err why.Kind ≡ read_point t b
unfolding read_point
read_25 t w b e z = sym (simp (eq-eqb (width_at t) 0 (sym e ∙ z)))

pub read_20 : (t w : ℕ) (b : List ℕ) → w ≡ width_at t → (w ≡ 0 → ⊥) → (length b ≡ w → ⊥) → Err why.Length ≡ read_point t b
unfolding read_point
read_20 t w b e z l = sym (simp (ne_eqb (width_at t) 0 (λ y. z (e ∙ y)), ne_eqb (length b) (width_at t) (λ y. l (y ∙ sym e))))

pub read_is : (t w n : ℕ) (b : List ℕ) (r : Result Datapoint Refusal) → w ≡ width_at t → (w ≡ 0 → ⊥) → length b ≡ w → IsNum b 0 w (256 ^ w) n → r ≡ point_at t n → r ≡ read_point t b
unfolding read_point
read_is t w n b r e z l i h =
    h
    ∙ ap (point_at t) (i.value ∙ ap (num_at b 0) e)
    ∙ sym (simp (ne_eqb (width_at t) 0 (λ y. z (e ∙ y)), eq-eqb (length b) (width_at t) (l ∙ e)))

-- the same of a call of `width`
module _ (t : ℕ) (b : List ℕ) (o : Option ℕ) (e : o ≡ width_given t) where
  pub read_none : o ≡ None → Err why.Kind ≡ read_point t b
  read_none h = read_25 t 0 b (sym (none t (sym h ∙ e))) refl

  module _ (w : ℕ) (h : o ≡ Some w) where
    pub read_short : (length b ≡ w → ⊥) → Err why.Length ≡ read_point t b
    read_short l = read_20 t w b (given t w (sym h ∙ e)).0 (given t w (sym h ∙ e)).1 l

    pub read_whole : (n : ℕ) (r : Result Datapoint Refusal) → length b ≡ w → IsNum b 0 w (256 ^ w) n → r ≡ point_at t n → r ≡ read_point t b
    read_whole n r l i g = read_is t w n b r (given t w (sym h ∙ e)).0 (given t w (sym h ∙ e)).1 l i g

-- a result's magnitude, with the power as a call gave it
pub product_by : (q e p b : ℕ) → p ≡ 2 ^ e → q ≤ 2048 → e ≤ 15 → 67108864 < b → q * p < b
product_by q e p b h i j k = subst (λ (x : ℕ). q * x < b) (sym h) (omega (arith, product q e i j, k))
