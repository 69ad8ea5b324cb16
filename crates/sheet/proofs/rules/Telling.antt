-- A number that says whether a proposition holds: 0 if it does, the rule's if not.
use Rattle.octets.proofs.Kit.{ℕ, zero, suc, ◌<◌, ◌≤◌, List, [], ◌∷◌, ◌++◌, Bool, true, false, cond, ◌≡◌, refl, sym, ◌∙◌, T, eqb, leb, dec_lt, arith, eqb-true, leb-true}
use Rattle.sheet.specs.{Demand.{Demand, test, Holds, breach, Met}, First.{first, or_else}}
use Rattle.sheet.proofs.rules.{Demands.{passed, failed, contrary, both, named}, First.or_else_some}

-- r is 0 and P holds, or r is n and P does not
pub data Says (n : ℕ) (P : Type 0) (r : ℕ) : Type 0 where
  holds : P → r ≡ 0 → Says n P r
  fails : (P → ⊥) → r ≡ n → Says n P r

module _ {n r : ℕ} {P : Type 0} where
  -- where P holds, it is 0
  pub says_yes : Says n P r → P → r ≡ 0
  says_yes (holds p e) h = e
  says_yes (fails p e) h = absurd (p h)

  -- where P does not hold, it is n
  pub says_no : Says n P r → (P → ⊥) → r ≡ n
  says_no (holds p e) h = absurd (h p)
  says_no (fails p e) h = e

  -- an equivalent proposition
  pub says_map : {Q : Type 0} → (P → Q) → (Q → P) → Says n P r → Says n Q r
  says_map f g (holds p e) = holds (f p) e
  says_map f g (fails p e) = fails (λ q. p (g q)) e

module _ (n : ℕ) (pos : 0 < n) where
  -- two propositions, one after the other
  pub says_and : {P Q : Type 0} {r t : ℕ} → Says n P r → Says n Q t → Says n (P × Q) (or_else r t)
  says_and (holds p e) (holds q f) = holds (p, q) (rw e f)
  says_and (holds p e) (fails q f) = fails (λ h. q h.1) (rw e f)
  says_and {r = r} {t = t} (fails p e) q = fails (λ h. p h.0) (or_else_some r t (λ z. omega arith) ∙ e)

  -- a proposition of each of m numbers
  pub says_all :
      (P : ℕ → Type 0) (f : ℕ → ℕ) (m : ℕ) → ((i : ℕ) → i < m → Says n (P i) (f i)) → Says n ((i : ℕ) → i < m → P i) (first f m)
  unfolding first
  says_all P f zero h = holds (λ i l. absurd (omega arith)) refl
  says_all P f (suc m) h =
      says_map
      (λ b i l. last i b (dec_lt i m) l)
      (λ a. ((λ i l. a i (omega arith)), a m (omega arith)))
      (says_and (says_all P f m (λ i l. h i (omega arith))) (h m (omega arith)))
    where
      last : (i : ℕ) → ((i : ℕ) → i < m → P i) × P m → Dec (i < m) → i < suc m → P i
      last i b (yes l) k = b.0 i l
      last i b (no l) k = let e : i ≡ m = omega arith in rw e b.1

  -- a table whose every row is of the rule
  abbrev pub ruled : List Demand → Bool
  ruled [] = true
  ruled (d ∷ ds) = both (eqb d.rule n) (ruled ds)

  -- that all its rows hold
  pub says_rows : (ds : List Demand) → T (ruled ds) → Says n (Met ds) (breach ds)
  unfolding breach
  says_rows [] t = holds tt refl
  says_rows (d ∷ ds) t = split (test d.order) refl (eqb d.rule n) refl t (says_rows ds)
    where
      more : Holds d.order → Says n (Met ds) (breach ds) → Says n (Met (d ∷ ds)) (breach ds)
      more h s = says_map (λ m. (h, m)) (λ m. m.1) s

      split : (b : Bool) → test d.order ≡ b → (a : Bool) → eqb d.rule n ≡ a → T (both a (ruled ds))
          → (T (ruled ds) → Says n (Met ds) (breach ds)) → Says n (Met (d ∷ ds)) (cond b (breach ds) d.rule)
      split true p true q t f = more (passed d.order p) (f t)
      split true p false q t f = absurd t
      split false p true q t f = fails (λ m. contrary d.order m.0 (failed d.order p)) (eqb-true _ _ q)
      split false p false q t f = absurd t

-- a table in two parts
pub breach_append : (ds es : List Demand) → T (named ds) → breach (ds ++ es) ≡ or_else (breach ds) (breach es)
unfolding breach
breach_append [] es t = refl
breach_append (d ∷ ds) es t = split (test d.order) (leb 1 d.rule) refl t (breach_append ds es)
  where
    split : (b a : Bool) → leb 1 d.rule ≡ a → T (both a (named ds)) → (T (named ds) → breach (ds ++ es) ≡ or_else (breach ds) (breach es))
        → cond b (breach (ds ++ es)) d.rule ≡ or_else (cond b (breach ds) d.rule) (breach es)
    split true true q t f = f t
    split true false q t f = absurd t
    split false true q t f =
        let h : 1 ≤ d.rule = leb-true _ _ q in sym (or_else_some d.rule (breach es) (λ z. omega arith))
    split false false q t f = absurd t
