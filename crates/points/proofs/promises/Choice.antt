-- The code that is written is the one promised.
use Rattle.octets.proofs.Kit.{◌≡◌, refl, sym, ap, ap₂, ◌∙◌, subst, ◌⊎◌, inl, inr, ℕ, zero, suc, ◌+◌, ◌*◌, ◌-◌, ◌%◌, ◌^◌, ◌≤◌, ◌<◌, zero-le, Bool, true, false, cond, not, arith}
use Rattle.octets.proofs.Kit.{mul-le-mul_right, pow-suc, pow-le-pow_right, pow_pos, T, ltb, leb, eqb, ℤ, pos, negsuc, neg_ℤ, nat_abs, ◌-ℤ◌, ltb-true, ltb-false, leb-true, leb-false, eqb-true}
use Rattle.octets.proofs.Kit.{eqb-false, ne_eqb}
use Rattle.points.specs.{Nine.{exponent_at, res, Valid, in_range, off, Chosen}, Code.{rounded, quotient, exponent_from, exponent_of, packed, stepped, code_of}}
use Rattle.points.proofs.{Best.{Nearer, Before, nearest, low, least, before, reach, within, up_to, twice_of}, Laws.{res_plus, res_minus}}
use Rattle.points.proofs.Signed.{sgn, abs_sgn, zero_sgn, far, far_is, compare, range_plus, range_minus}

-- the largest mantissa of a sign
abbrev pub most : Bool → ℕ
most true = 2048
most false = 2047

-- what makes exponent e and mantissa q the choice for the magnitude m
pub record Good (s : Bool) (m e q : ℕ) : Type 0 where
  pub top : e ≤ 15
  pub fits : q ≤ most s
  pub some : s ≡ true → 0 < q
  pub free : s ≡ false → e ≡ 15 → q ≤ 2046
  pub near : (e' q' : ℕ) → q' ≤ most s → Nearer m (q * 2 ^ e) (q' * 2 ^ e')
  pub first : (e' q' : ℕ) → q' ≤ most s → q * 2 ^ e ≡ q' * 2 ^ e' → e ≤ e'

no : {A : Type 0} → false ≡ true → A
no e = absurd (subst T (sym e) tt)

-- above zero
plus_last : (m e : ℕ) → m ≤ 67043328 → e ≡ 15 → rounded m (2 ^ e) ≤ 2046
plus_last m e h i = subst (λ (k : ℕ). rounded m (2 ^ k) ≤ 2046) (sym i) (omega (arith, h))

good_plus : (m : ℕ) → m ≤ 67043328 → Good false m (exponent_from 15 m 4095 0) (rounded m (2 ^ exponent_from 15 m 4095 0))
good_plus m h =
    record {
      top = omega (arith, up_to m 4095 15 0);
      fits = fits (reach m 2047 4095 1024 (inr refl) refl 15 0);
      some = λ e. no e;
      free = λ _ i. plus_last m e h i;
      near = nearest m 2047 4095 1024 (inr refl) refl e b;
      first = λ e' q' w i. pick e' (least m 2047 4095 1024 (inr refl) refl e b e' q' w i);
    }
  where
    e : ℕ
    e = exponent_from 15 m 4095 0

    b : Before m 2047 4095 1024 (inr refl) refl e
    b = before m 2047 4095 1024 (inr refl) refl 15 0 tt

    fits : (2 * m ≤ 4095 * 2 ^ e) ⊎ (e ≡ 0 + 15) → rounded m (2 ^ e) ≤ 2047
    fits (inl i) = within m 2047 4095 1024 (inr refl) refl e i
    fits (inr i) = omega (arith, plus_last m e h i)

    pick : (e' : ℕ) → (e ≤ e') ⊎ ((0 < e) × (2 * rounded m (2 ^ e) ≡ 2047)) → e ≤ e'
    pick e' (inl i) = i
    pick e' (inr i) = absurd (omega (arith, i.1))

-- below zero
module _ (m : ℕ) (h : m ≤ 67108864) (z : 0 < m) where
  abbrev e : ℕ
  e = exponent_from 15 m 4097 0

  b : Before m 2048 4097 1024 (inl refl) refl e
  b = before m 2048 4097 1024 (inl refl) refl 15 0 tt

  minus_fits : rounded m (2 ^ e) ≤ 2048
  minus_fits = go (reach m 2048 4097 1024 (inl refl) refl 15 0)
    where
      go : (2 * m ≤ 4097 * 2 ^ e) ⊎ (e ≡ 0 + 15) → rounded m (2 ^ e) ≤ 2048
      go (inl i) = within m 2048 4097 1024 (inl refl) refl e i
      go (inr i) = subst (λ (k : ℕ). rounded m (2 ^ k) ≤ 2048) (sym i) (omega (arith, h))

  minus_some : 0 < rounded m (2 ^ e)
  minus_some = go e b
    where
      go : (k : ℕ) → Before m 2048 4097 1024 (inl refl) refl k → 0 < rounded m (2 ^ k)
      go zero c = omega (arith, z)
      go (suc k) c = omega (arith, low m 2048 4097 1024 (inl refl) refl k c)

  good_minus : (0 < e → rounded m (2 ^ e) ≡ 1024 → ⊥) → Good true m e (rounded m (2 ^ e))
  good_minus n =
      record {
        top = omega (arith, up_to m 4097 15 0);
        fits = minus_fits;
        some = λ _. minus_some;
        free = λ f. no (sym f);
        near = nearest m 2048 4097 1024 (inl refl) refl e b;
        first = λ e' q' w i. pick e' (least m 2048 4097 1024 (inl refl) refl e b e' q' w i);
      }
    where
      pick : (e' : ℕ) → (e ≤ e') ⊎ ((0 < e) × (2 * rounded m (2 ^ e) ≡ 2048)) → e ≤ e'
      pick e' (inl i) = i
      pick e' (inr i) = absurd (n i.0 (omega (arith, i.1)))

  -- −1,024 at an exponent is −2,048 at the one below, which no smaller exponent has
  good_step : (k : ℕ) → e ≡ suc k → rounded m (2 ^ e) ≡ 1024 → Good true m k 2048
  good_step k i r =
      record {
        top = omega (arith, i, up_to m 4097 15 0);
        fits = omega arith;
        some = λ _. omega arith;
        free = λ f. no (sym f);
        near = λ e' q' w. subst (λ (x : ℕ). Nearer m x (q' * 2 ^ e')) same (nearest m 2048 4097 1024 (inl refl) refl e b e' q' w);
        first = first;
      }
    where
      same : rounded m (2 ^ e) * 2 ^ e ≡ 2048 * 2 ^ k
      same = ap (λ (x : ℕ). x * 2 ^ e) r ∙ ap (λ (j : ℕ). 1024 * 2 ^ j) i ∙ twice_of 1024 k

      first : (e' q' : ℕ) → q' ≤ 2048 → 2048 * 2 ^ k ≡ q' * 2 ^ e' → k ≤ e'
      first e' q' w s = go (leb k e') refl
        where
          go : (c : Bool) → leb k e' ≡ c → k ≤ e'
          go true f = leb-true k e' f
          go false f =
              let p = pow-le-pow_right {n = 2} (omega arith) {i = suc e'} {j = k} (leb-false k e' f) in
              absurd (omega (arith, s, mul-le-mul_right {m = q'} {n = 2048} (2 ^ e') w, pow_pos e', pow-suc 2 e', p))

-- a code by sign, exponent and mantissa
abbrev pub code : Bool → ℕ → ℕ → ℕ
code true e q = 32768 + e * 2048 + (2048 - q)
code false e q = e * 2048 + q

pub code_exponent : (s : Bool) (e q : ℕ) → e ≤ 15 → q ≤ most s → (s ≡ true → 0 < q) → exponent_at (code s e q) ≡ e
code_exponent true e q h i j = omega (arith, h, i, j refl)
code_exponent false e q h i j = omega (arith, h, i)

pub code_res : (s : Bool) (e q : ℕ) → e ≤ 15 → q ≤ most s → (s ≡ true → 0 < q) → res (code s e q) ≡ sgn s (q * 2 ^ e)
code_res true e q h i j =
    let f : 2048 - (32768 + e * 2048 + (2048 - q)) % 2048 ≡ q = omega (arith, h, i, j refl) in
    sym (res_minus (code true e q) (omega arith)) ∙ ap₂ (λ (x y : ℕ). neg_ℤ (pos (x * 2 ^ y))) f (code_exponent true e q h i j)
code_res false e q h i j =
    let f : (e * 2048 + q) % 2048 ≡ q = omega (arith, h, i) in
    sym (res_plus (code false e q) (omega (arith, h, i))) ∙ ap₂ (λ (x y : ℕ). pos (x * 2 ^ y)) f (code_exponent false e q h i j)

pub code_valid : (s : Bool) (e q : ℕ) → e ≤ 15 → q ≤ most s → (s ≡ true → 0 < q) → (s ≡ false → e ≡ 15 → q ≤ 2046) → Valid (code s e q)
code_valid true e q h i j k = record { word = omega (arith, h, j refl); other = λ x. omega (arith, x) }
code_valid false e q h i j k = record { word = omega (arith, h, i); other = λ x. last x (omega (arith, h, i, x)) }
  where
    last : e * 2048 + q ≡ 32767 → e ≡ 15 → ⊥
    last x y = omega (arith, x, y, k refl y)

-- every code is such a one
pub record View (c : ℕ) : Type 0 where
  pub minus : Bool
  pub factor : ℕ
  pub is : res c ≡ sgn minus (factor * 2 ^ exponent_at c)
  pub fits : factor ≤ most minus
  pub some : minus ≡ true → 0 < factor
  pub whole : c < 65536 → c ≡ code minus (exponent_at c) factor

pub view : (c : ℕ) → View c
view c = go (ltb c 32768) refl
  where
    go : (t : Bool) → ltb c 32768 ≡ t → View c
    go true f =
        record {
          minus = false;
          factor = c % 2048;
          is = sym (res_plus c (ltb-true c 32768 f));
          fits = omega arith;
          some = λ e. no e;
          whole = λ h. omega (arith, ltb-true c 32768 f);
        }
    go false f =
        record {
          minus = true;
          factor = 2048 - c % 2048;
          is = sym (res_minus c (ltb-false c 32768 f));
          fits = omega arith;
          some = λ e. omega arith;
          whole = λ h. omega (arith, h, ltb-false c 32768 f);
        }

-- how far a result of known sign is from x
pub off_is : (s u : Bool) (m a c : ℕ) → res c ≡ sgn u a → off (sgn s m) c ≡ far u s a m
off_is s u m a c e = ap (λ (y : ℤ). nat_abs (y -ℤ sgn s m)) e ∙ far_is u s a m

pub size_is : (u : Bool) (a c : ℕ) → res c ≡ sgn u a → nat_abs (res c) ≡ a
size_is u a c e = ap nat_abs e ∙ abs_sgn u a

pub same? : (s t : Bool) → (t ≡ s) ⊎ (t ≡ not s)
same? true true = inl refl
same? false false = inl refl
same? true false = inr refl
same? false true = inr refl

module _ (s : Bool) (m e q : ℕ) (g : Good s m e q) where
  c : ℕ
  c = code s e q

  c_is : res (code s e q) ≡ sgn s (q * 2 ^ e)
  c_is = code_res s e q g.top g.fits g.some

  against : (d : ℕ) → (far s s (q * 2 ^ e) m ≤ far (view d).minus s ((view d).factor * 2 ^ exponent_at d) m)
      × (far s s (q * 2 ^ e) m ≡ far (view d).minus s ((view d).factor * 2 ^ exponent_at d) m → q * 2 ^ e ≤ (view d).factor * 2 ^ exponent_at d)
  against d =
      compare s (view d).minus m (q * 2 ^ e) ((view d).factor * 2 ^ exponent_at d)
      (λ t. g.near (exponent_at d) (view d).factor (subst (λ (u : Bool). (view d).factor ≤ most u) t (view d).fits))
      (subst (Nearer m (q * 2 ^ e)) (omega arith) (g.near 0 0 zero-le))

  off_c : off (sgn s m) (code s e q) ≡ far s s (q * 2 ^ e) m
  off_c = off_is s s m (q * 2 ^ e) (code s e q) c_is

  off_d : (d : ℕ) → off (sgn s m) d ≡ far (view d).minus s ((view d).factor * 2 ^ exponent_at d) m
  off_d d = off_is s (view d).minus m ((view d).factor * 2 ^ exponent_at d) d (view d).is

  first_of : (d : ℕ) → res (code s e q) ≡ res d → e ≤ exponent_at d
  first_of d h = go (same? s (view d).minus)
    where
      v : View d
      v = view d

      eq : sgn s (q * 2 ^ e) ≡ sgn v.minus (v.factor * 2 ^ exponent_at d)
      eq = sym c_is ∙ h ∙ v.is

      go : (v.minus ≡ s) ⊎ (v.minus ≡ not s) → e ≤ exponent_at d
      go (inl t) =
          g.first (exponent_at d) v.factor (subst (λ (u : Bool). v.factor ≤ most u) t v.fits)
          (sym (abs_sgn s (q * 2 ^ e)) ∙ ap nat_abs eq ∙ abs_sgn v.minus (v.factor * 2 ^ exponent_at d))
      go (inr t) =
          let none : q * 2 ^ e ≡ 0 = zero_sgn s (q * 2 ^ e) (v.factor * 2 ^ exponent_at d) (eq ∙ ap (λ (u : Bool). sgn u (v.factor * 2 ^ exponent_at d)) t) in
          omega (arith, g.first 0 0 zero-le (none ∙ omega arith))

  chosen_by : Chosen (sgn s m) (code s e q)
  chosen_by =
      record {
        valid = code_valid s e q g.top g.fits g.some g.free;
        nearest = λ d v. subst (λ (x : ℕ). x ≤ off (sgn s m) d) (sym off_c) (subst (λ (x : ℕ). far s s (q * 2 ^ e) m ≤ x) (sym (off_d d)) (against d).0);
        smaller = λ d v h.
            subst (λ (x : ℕ). x ≤ nat_abs (res d)) (sym (size_is s (q * 2 ^ e) (code s e q) c_is))
            (subst (λ (x : ℕ). q * 2 ^ e ≤ x) (sym (size_is (view d).minus ((view d).factor * 2 ^ exponent_at d) d (view d).is)) ((against d).1 (sym off_c ∙ h ∙ off_d d)));
        least = λ d v h. subst (λ (x : ℕ). x ≤ exponent_at d) (sym (code_exponent s e q g.top g.fits g.some)) (first_of d h);
      }

-- the code of the definition, by its sign
stepped_plus : (e q : ℕ) → stepped e (pos q) ≡ code false e q
stepped_plus zero q = refl
stepped_plus (suc e) q = simp (ne_eqb (suc e) 0 (λ x. omega (arith, x)))

-- with the choice for either
minus_code : (m e q : ℕ) → 0 < q → ((0 < e → q ≡ 1024 → ⊥) → Good true m e q) → ((k : ℕ) → e ≡ suc k → q ≡ 1024 → Good true m k 2048) → Chosen (sgn true m) (stepped e (neg_ℤ (pos q)))
minus_code m e zero z plain step = absurd (omega (arith, z))
minus_code m zero (suc j) z plain step = chosen_by true m 0 (suc j) (plain (λ x. absurd (omega (arith, x))))
minus_code m (suc k) (suc j) z plain step =
    subst (Chosen (sgn true m)) (sym (simp (ne_eqb (suc k) 0 (λ x. omega (arith, x))))) (go (eqb j 1023) refl)
  where
    go : (t : Bool) → eqb j 1023 ≡ t → Chosen (sgn true m) (cond t (packed (suc k - 1) (negsuc 2047)) (packed (suc k) (negsuc j)))
    go true f = subst (λ (x : ℕ). Chosen (sgn true m) (32768 + x * 2048 + (2048 - 2048))) (omega arith) (chosen_by true m k 2048 (step k refl (omega (arith, eqb-true j 1023 f))))
    go false f = chosen_by true m (suc k) (suc j) (plain (λ _ x. eqb-false j 1023 f (omega (arith, x))))

-- THE CODE WRITTEN FOR x IS THE ONE PROMISED
pub chosen : (x : ℤ) → in_range x ≡ true → Chosen x (code_of x)
unfolding code_of
chosen (pos m) h =
    subst (Chosen (pos m)) (sym (stepped_plus (exponent_of (pos m)) (rounded m (2 ^ exponent_of (pos m)))))
    (chosen_by false m (exponent_of (pos m)) (rounded m (2 ^ exponent_of (pos m))) (good_plus m (range_plus m h)))
chosen (negsuc n) h =
    let r : suc n ≤ 67108864 = range_minus n h in
    let e : ℕ = exponent_of (negsuc n) in
    minus_code (suc n) e (rounded (suc n) (2 ^ e)) (minus_some (suc n) r (omega arith)) (good_minus (suc n) r (omega arith)) (good_step (suc n) r (omega arith))

-- its mantissa fits
pub mantissa_fits : (x : ℤ) → in_range x ≡ true → nat_abs (quotient x (2 ^ exponent_of x)) ≤ 2048
mantissa_fits (pos m) h = omega (arith, (good_plus m (range_plus m h)).fits)
mantissa_fits (negsuc n) h =
    subst (λ (x : ℕ). x ≤ 2048) (sym (abs_sgn true (rounded (suc n) (2 ^ exponent_of (negsuc n))))) (minus_fits (suc n) (range_minus n h) (omega arith))
