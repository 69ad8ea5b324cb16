-- The version with a number, found by its row.
use Rattle.octets.proofs.Kit.{ℕ, zero, suc, ◌+◌, ◌*◌, ◌<◌, ◌≡◌, refl, sym, ap, ◌∙◌, true, false, List, ◌∷◌, ◌++◌, arith, eqb, eq-eqb, ne_eqb}
use Rattle.versions.specs.{Store.{Version, in_row, version_at, versions_from, has, body_of}, Removing.without}
use Rattle.versions.specs.Row as row

module _ (s : List ℕ) where
  -- THE VERSIONS BEFORE ROW i, ITS OWN, AND THOSE AFTER
  pub split : (i m p : ℕ) → versions_from s p (i + suc m) ≡ versions_from s p i ++ (version_at s (p + 8 * i) ∷ versions_from s (p + 8 * suc i) m)
  unfolding versions_from
  split zero m p =
      let e : zero + suc m ≡ suc m = omega arith in
      let f : p + 8 * zero ≡ p = omega arith in
      let g : p + 8 * suc zero ≡ p + 8 = omega arith in
      rw (e, f, g)
  split (suc i) m p =
      let e : suc i + suc m ≡ suc (i + suc m) = omega arith in
      let f : p + 8 + 8 * i ≡ p + 8 * suc i = omega arith in
      let g : p + 8 + 8 * suc i ≡ p + 8 * suc (suc i) = omega arith in
      rw e (ap (λ (l : List Version). version_at s p ∷ l) (split i m (p + 8) ∙ rw (f, g)))

  abbrev num : ℕ → ℕ
  num p = in_row s p row.number

  module _ (x : ℕ) where
    pub found : (i m p : ℕ) → ((j : ℕ) → j < i → num (p + 8 * j) ≡ x → ⊥) → num (p + 8 * i) ≡ x → has x (versions_from s p (i + suc m)) ≡ true
    unfolding versions_from has version_at
    found zero m p h e =
        let o : zero + suc m ≡ suc m = omega arith in
        let f : p + 8 * zero ≡ p = omega arith in
        let t : eqb (num p) x ≡ true = eq-eqb (num p) x (rw f at e) in
        rw (o, t)
    found (suc i) m p h e =
        let o : suc i + suc m ≡ suc (i + suc m) = omega arith in
        let z : p + 8 * zero ≡ p = omega arith in
        let f : p + 8 * suc i ≡ p + 8 + 8 * i = omega arith in
        let t : eqb (num p) x ≡ false = ne_eqb (num p) x (rw z at (h zero (omega arith))) in
        rw (o, t) (found i m (p + 8) (λ j l q. h (suc j) (omega arith) (ap num (omega arith) ∙ q)) (rw f at e))

    pub left_found : (i m p : ℕ) → ((j : ℕ) → j < i → num (p + 8 * j) ≡ x → ⊥) → num (p + 8 * i) ≡ x →
        without x (versions_from s p (i + suc m)) ≡ versions_from s p i ++ versions_from s (p + 8 * suc i) m
    unfolding versions_from without version_at
    left_found zero m p h e =
        let o : zero + suc m ≡ suc m = omega arith in
        let f : p + 8 * zero ≡ p = omega arith in
        let g : p + 8 * suc zero ≡ p + 8 = omega arith in
        let t : eqb (num p) x ≡ true = eq-eqb (num p) x (rw f at e) in
        rw (o, g, t)
    left_found (suc i) m p h e =
        let o : suc i + suc m ≡ suc (i + suc m) = omega arith in
        let z : p + 8 * zero ≡ p = omega arith in
        let f : p + 8 * suc i ≡ p + 8 + 8 * i = omega arith in
        let g : p + 8 * suc (suc i) ≡ p + 8 + 8 * suc i = omega arith in
        let t : eqb (num p) x ≡ false = ne_eqb (num p) x (rw z at (h zero (omega arith))) in
        let ih = left_found i m (p + 8) (λ j l q. h (suc j) (omega arith) (ap num (omega arith) ∙ q)) (rw f at e) in
        rw (o, t, g) (ap (λ (l : List Version). version_at s p ∷ l) ih)

    pub body_found : (i m p : ℕ) → ((j : ℕ) → j < i → num (p + 8 * j) ≡ x → ⊥) → num (p + 8 * i) ≡ x →
        body_of x (versions_from s p (i + suc m)) ≡ (version_at s (p + 8 * i)).body
    unfolding versions_from body_of version_at
    body_found zero m p h e =
        let o : zero + suc m ≡ suc m = omega arith in
        let f : p + 8 * zero ≡ p = omega arith in
        let t : eqb (num p) x ≡ true = eq-eqb (num p) x (rw f at e) in
        rw (o, t) (ap (λ (q : ℕ). (version_at s q).body) (sym f))
    body_found (suc i) m p h e =
        let o : suc i + suc m ≡ suc (i + suc m) = omega arith in
        let z : p + 8 * zero ≡ p = omega arith in
        let f : p + 8 * suc i ≡ p + 8 + 8 * i = omega arith in
        let t : eqb (num p) x ≡ false = ne_eqb (num p) x (rw z at (h zero (omega arith))) in
        rw (o, t, f) (body_found i m (p + 8) (λ j l q. h (suc j) (omega arith) (ap num (omega arith) ∙ q)) (rw f at e))

    pub missed : (n p : ℕ) → ((j : ℕ) → j < n → num (p + 8 * j) ≡ x → ⊥) → has x (versions_from s p n) ≡ false
    unfolding versions_from has version_at
    missed zero p h = refl
    missed (suc n) p h =
        let z : p + 8 * zero ≡ p = omega arith in
        let t : eqb (num p) x ≡ false = ne_eqb (num p) x (rw z at (h zero (omega arith))) in
        rw t (missed n (p + 8) (λ j l q. h (suc j) (omega arith) (ap num (omega arith) ∙ q)))
