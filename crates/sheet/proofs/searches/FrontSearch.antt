-- A search from the front: what it finds, and when.
use Rattle.octets.proofs.Kit.{ℕ, zero, suc, ◌+◌, ◌<◌, ◌≤◌, ◌≡◌, refl, sym, ◌∙◌, Bool, true, false, cond, true≢false, dec_lt, arith}
use Rattle.sheet.specs.Lookup.{seek}

-- r is the first of i, .., i + d - 1 that passes, and i + d where none does
pub record Sought (t : ℕ → Bool) (i d r : ℕ) : Type 0 where
  pub from : i ≤ r
  pub to : r ≤ i + d
  pub before : (j : ℕ) → i ≤ j → j < r → t j ≡ false
  pub passes : r < i + d → t r ≡ true

module _ (t : ℕ → Bool) where
  -- the search finds it
  pub sought : (i d : ℕ) → Sought t i d (seek t i d)
  unfolding seek
  sought i zero =
      record { from = omega arith; to = omega arith; before = λ j h l. absurd (omega arith); passes = λ l. absurd (omega arith) }
  sought i (suc d) = go (t i) refl (sought (suc i) d)
    where
      go : (b : Bool) → t i ≡ b → Sought t (suc i) d (seek t (suc i) d) → Sought t i (suc d) (cond b i (seek t (suc i) d))
      go true e r = record { from = omega arith; to = omega arith; before = λ j h l. absurd (omega arith); passes = λ l. e }
      go false e r =
          record {
            from = omega (arith, r.from);
            to = omega (arith, r.to);
            before = λ j h l. early j h l (dec_lt i j);
            passes = λ l. r.passes (omega arith);
          }
        where
          early : (j : ℕ) → i ≤ j → j < seek t (suc i) d → Dec (i < j) → t j ≡ false
          early j h l (yes k) = r.before j k l
          early j h l (no k) = let q : j ≡ i = omega arith in rw q e

  module _ {i d : ℕ} where
    earlier : {r r' : ℕ} → Sought t i d r → Sought t i d r' → r < r' → ⊥
    earlier {r} {r'} a b h = true≢false (sym (a.passes (omega (arith, b.to))) ∙ b.before r a.from h)

    -- there is one such number
    pub sought_once : {r r' : ℕ} → Sought t i d r → Sought t i d r' → r ≡ r'
    sought_once {r} {r'} a b = go (dec_lt r r') (dec_lt r' r)
      where
        go : Dec (r < r') → Dec (r' < r) → r ≡ r'
        go (yes h) d = absurd (earlier a b h)
        go (no h) (yes l) = absurd (earlier b a l)
        go (no h) (no l) = omega arith

  module _ (n : ℕ) where
    -- a search ends within its bound
    pub seek_bound : seek t 0 n ≤ n
    seek_bound = omega (arith, (sought 0 n).to)

    -- what it stops at passes
    pub seek_passes : seek t 0 n < n → t (seek t 0 n) ≡ true
    seek_passes h = (sought 0 n).passes (omega arith)

    -- it stops at the first that passes
    pub seek_first : (j : ℕ) → j < n → t j ≡ true → ((m : ℕ) → m < j → t m ≡ false) → seek t 0 n ≡ j
    seek_first j h e f =
        sought_once (sought 0 n)
        (record { from = omega arith; to = omega arith; before = λ m k l. f m l; passes = λ l. e })

    -- it stops at the only one that passes
    pub seek_hit : (j : ℕ) → j < n → t j ≡ true → ((m : ℕ) → m < n → t m ≡ true → m ≡ j) → seek t 0 n ≡ j
    seek_hit j h e f = go (dec_lt (seek t 0 n) n)
      where
        go : Dec (seek t 0 n < n) → seek t 0 n ≡ j
        go (yes l) = f (seek t 0 n) l (seek_passes l)
        go (no l) = absurd (true≢false (sym e ∙ (sought 0 n).before j (omega arith) (omega arith)))

    -- where none passes it comes to the end
    pub seek_none : ((j : ℕ) → j < n → t j ≡ true → ⊥) → seek t 0 n ≡ n
    seek_none f = go (dec_lt (seek t 0 n) n)
      where
        go : Dec (seek t 0 n < n) → seek t 0 n ≡ n
        go (yes l) = absurd (f (seek t 0 n) l (seek_passes l))
        go (no l) = omega (arith, seek_bound)

-- a search by a test with the same answers
pub seek_same : (t t' : ℕ → Bool) (i d : ℕ) → ((j : ℕ) → i ≤ j → j < i + d → t j ≡ t' j) → seek t i d ≡ seek t' i d
unfolding seek
seek_same t t' i zero h = refl
seek_same t t' i (suc d) h =
    rw (h i (omega arith) (omega arith), seek_same t t' (suc i) d (λ j k l. h j (omega arith) (omega arith)))
