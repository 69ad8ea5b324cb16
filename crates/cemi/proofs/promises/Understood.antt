-- WHAT A FRAME MEANS IS ONE THING, AND ALWAYS SOMETHING. Assumes nothing.
use Rattle.octets.proofs.Kit.{ℕ, ◌≤◌, ◌<◌, ◌≡◌, refl, Bool, true, false, cond, ◌&&◌, inl, inr, ⊎_elim, arith, leb, eqb, le-leb, lt-leb, eq-eqb, ne_eqb, leb-true, leb-false, eqb-true}
use Rattle.octets.proofs.Kit.{eqb-false}
use Rattle.std.specs.Prelude.{Result, Err}
use Rattle.octets.proofs.{Truths.{first_true, second_true}, Walks.by_test, Tests.{both, not_second_lem}}
use Rattle.cemi.specs.Meaning.{to_group, control, numbered, to_one, meaning_of}
use Rattle.cemi.specs.{Means.{Means, to_all, to_some, to_none, plain, numbered as isNumbered, connects, disconnects, acknowledges, other, Group, Individual, octet}, declared.Frame.Frame}
use Rattle.cemi.specs.declared.{Meaning.Meaning, NoMeaning.{NoMeaning, TheVariants.Transport}}

not_both : (a b : Bool) → (a && b) ≡ false → (a ≡ true) × (b ≡ true) → ⊥
not_both a b e h = let z : true ≡ false = cc (both a b h.0 h.1) in true_false z
  where
    true_false : true ≡ false → ⊥
    true_false q = let y : ◌≡◌ {A = ℕ} 0 1 = cc in omega arith

module _ (f : Frame) where
  abbrev t : ℕ
  t = f.fields.transport

  -- ALWAYS SOMETHING
  grouped : Group f → Means f (to_group t f.fields.destination)
  unfolding to_group
  grouped g =
      by_test (Means f) (eqb t 0) _ _
      (λ e. by_test (Means f) (eqb f.fields.destination 0) _ _
      (λ d. to_all g (eqb-true t 0 e) (eqb-true f.fields.destination 0 d)) (λ d. to_some g (eqb-true t 0 e) (eqb-false f.fields.destination 0 d)))
      (λ e. to_none g (eqb-false t 0 e))

  module _ (g : Individual f) (n : t ≡ 0 → ⊥) (m : (16 ≤ t) × (t ≤ 31) → ⊥) where
    controls : f.stated ≡ 0 → Means f (control t f.low)
    unfolding control
    controls z =
        by_test (Means f) (eqb (octet f) 128) _ _ (λ e. connects g z (eqb-true (octet f) 128 e))
        (λ a. by_test (Means f) (eqb (octet f) 129) _ _ (λ e. disconnects g z (eqb-true (octet f) 129 e))
        (λ b. by_test (Means f) (leb 48 t && leb 2 f.low) _ _
        (λ e. acknowledges g z (leb-true 48 t (first_true (leb 48 t) (leb 2 f.low) e), leb-true 2 f.low (second_true (leb 48 t) (leb 2 f.low) e)))
        (λ c. other g n m (λ _ h. ⊎_elim (eqb-false (octet f) 128 a) (λ k. ⊎_elim (eqb-false (octet f) 129 b)
        (λ p. not_both (leb 48 t) (leb 2 f.low) c (le-leb 48 t p.0, le-leb 2 f.low p.1)) k) h))))

  single : Individual f → Means f (to_one t f.low f.stated)
  unfolding to_one numbered
  single g =
      by_test (Means f) (eqb t 0) _ _ (λ e. plain g (eqb-true t 0 e))
      (λ a. by_test (Means f) (leb 16 t && leb t 31) _ _
      (λ e. isNumbered g (leb-true 16 t (first_true (leb 16 t) (leb t 31) e)) (leb-true t 31 (second_true (leb 16 t) (leb t 31) e)))
      (λ b.
      let m : (16 ≤ t) × (t ≤ 31) → ⊥ = λ p. not_both (leb 16 t) (leb t 31) b (le-leb 16 t p.0, le-leb t 31 p.1) in
      by_test (Means f) (eqb f.stated 0) _ _ (λ e. controls g (eqb-false t 0 a) m (eqb-true f.stated 0 e))
      (λ c. other g (eqb-false t 0 a) m (λ z _. eqb-false f.stated 0 c z))))

  pub means : Means f (meaning_of f)
  unfolding meaning_of
  means =
      by_test (Means f) (leb 128 f.fields.control2) _ _ (λ e. grouped (leb-true 128 f.fields.control2 e))
      (λ e. single (leb-false 128 f.fields.control2 e))

  -- AND ONE THING: the low bits of a frame are two
  pub means_one : (m : Result Meaning NoMeaning) → f.low < 4 → Means f m → m ≡ meaning_of f
  unfolding meaning_of to_group to_one numbered control
  means_one m w (to_all g a b) = simp (le-leb 128 _ g, eq-eqb _ _ a, eq-eqb _ _ b)
  means_one m w (to_some g a b) = simp (le-leb 128 _ g, eq-eqb _ _ a, ne_eqb _ _ b)
  means_one m w (to_none g a) = simp (le-leb 128 _ g, ne_eqb _ _ a)
  means_one m w (plain g a) = simp (lt-leb 128 _ g, eq-eqb _ _ a)
  means_one m w (isNumbered g a b) =
      let n : t ≡ 0 → ⊥ = omega arith in simp (lt-leb 128 _ g, ne_eqb _ _ n, le-leb 16 _ a, le-leb _ 31 b)
  means_one m w (connects g z a) =
      let n : t ≡ 0 → ⊥ = omega arith in
      let k : 31 < t = omega arith in
      simp (lt-leb 128 _ g, ne_eqb _ _ n, not_second_lem (leb 16 t) (leb t 31) (lt-leb t 31 k), eq-eqb _ _ z, eq-eqb _ _ a)
  means_one m w (disconnects g z a) =
      let n : t ≡ 0 → ⊥ = omega arith in
      let k : 31 < t = omega arith in
      let o : octet f ≡ 128 → ⊥ = omega arith in
      simp (lt-leb 128 _ g, ne_eqb _ _ n, not_second_lem (leb 16 t) (leb t 31) (lt-leb t 31 k), eq-eqb _ _ z, ne_eqb _ _ o, eq-eqb _ _ a)
  means_one m w (acknowledges g z p) =
      let n : t ≡ 0 → ⊥ = omega arith in
      let k : 31 < t = omega arith in
      let o : octet f ≡ 128 → ⊥ = omega arith in
      let q : octet f ≡ 129 → ⊥ = omega arith in
      simp (lt-leb 128 _ g, ne_eqb _ _ n, not_second_lem (leb 16 t) (leb t 31) (lt-leb t 31 k), eq-eqb _ _ z, ne_eqb _ _ o, ne_eqb _ _ q, le-leb 48 _ p.0, le-leb 2 _ p.1)
  means_one m w (other g n k h) =
      let c : (leb 16 t && leb t 31) ≡ false = not_in (leb 16 t) (leb t 31) (λ p. k (leb-true 16 t p.0, leb-true t 31 p.1)) in
      simp (lt-leb 128 _ g, ne_eqb _ _ n, c) (rest (eqb f.stated 0) (eqb-true f.stated 0))
    where
      not_in : (a b : Bool) → ((a ≡ true) × (b ≡ true) → ⊥) → (a && b) ≡ false
      not_in true true e = absurd (e (refl, refl))
      not_in true false e = refl
      not_in false b e = refl

      alone : f.stated ≡ 0 → Err Transport ≡ control t f.low
      alone z =
          let d : (leb 48 t && leb 2 f.low) ≡ false = not_in (leb 48 t) (leb 2 f.low) (λ p. h z (inr (inr (leb-true 48 t p.0, leb-true 2 f.low p.1)))) in
          simp (ne_eqb (octet f) 128 (λ e. h z (inl e)), ne_eqb (octet f) 129 (λ e. h z (inr (inl e))), d)

      rest : (b : Bool) → (b ≡ true → f.stated ≡ 0) → Err Transport ≡ cond b (control t f.low) (Err Transport)
      rest true e = alone (e refl)
      rest false e = refl
