-- A test that passes for all numbers below n: what it says of each, and as a loop meets it.
use Rattle.octets.proofs.Kit.{ℕ, zero, suc, ◌+◌, ◌≤◌, ◌<◌, ◌≡◌, refl, sym, ap, ◌∙◌, Bool, true, false, not, dec_lt, add-one, arith, not-true, not-false}
use Rattle.octets.specs.Every.{every}
use Rattle.octets.proofs.Truths.{never, and_is, must_fail}

module _ (f : ℕ → Bool) where
  pub every_at : (n : ℕ) → every n f ≡ true → (i : ℕ) → i < n → f i ≡ true
  unfolding every
  every_at zero e i h = absurd (omega arith)
  every_at (suc n) e i h = go (dec_lt i n) (λ k. every_at n ((and_is (every n f) (f n)).0 e).0 i k)
    where
      go : Dec (i < n) → (i < n → f i ≡ true) → f i ≡ true
      go (yes k) g = g k
      go (no k) g = let q : i ≡ n = omega arith in ap f q ∙ ((and_is (every n f) (f n)).0 e).1

  pub every_all : (n : ℕ) → ((i : ℕ) → i < n → f i ≡ true) → every n f ≡ true
  unfolding every
  every_all zero g = refl
  every_all (suc n) g = (and_is (every n f) (f n)).1 (every_all n (λ i h. g i (omega arith)), g n (omega arith))

pub every_same : (f g : ℕ → Bool) (n : ℕ) → ((i : ℕ) → f i ≡ g i) → every n f ≡ every n g
unfolding every
every_same f g zero e = refl
every_same f g (suc n) e = rw (every_same f g n e, e n)

-- A LOOP THAT STOPS WHERE THE TEST FAILS: it passed for all before i
pub record Checked (f : ℕ → Bool) (n i : ℕ) : Type 0 where
  pub within : i ≤ n
  pub all : every i f ≡ true

module _ (f : ℕ → Bool) (n : ℕ) where
  pub check_begin : Checked f n 0
  unfolding every
  check_begin = record { within = omega arith; all = refl }

  module _ (i : ℕ) (w : Checked f n i) where
    module _ (r : Bool) (h : i < n) (e : r ≡ f i) where
      pub check_stop : not r ≡ true → false ≡ every n f
      check_stop t = sym (must_fail (every n f) (λ k. never (sym (sym e ∙ not-true r t) ∙ every_at f n k i h)))

      pub check_go : not r ≡ false → Checked f n (i + 1)
      unfolding every
      check_go t =
          record {
            within = omega arith;
            all = ap (λ (k : ℕ). every k f) (add-one i) ∙ (and_is (every i f) (f i)).1 (w.all, sym e ∙ not-false r t);
          }

    pub check_end : n ≤ i → true ≡ every n f
    check_end h = let q : n ≡ i = omega (arith, w.within) in sym (ap (λ (j : ℕ). every j f) q ∙ w.all)
