-- Which of two slots is the newer, and where a save goes, case by case. Assumes nothing.
use Rattle.octets.proofs.Kit.{ℕ, ◌≡◌, sym, ◌∙◌, eq-eqb, ne_eqb}
use Rattle.slots.specs.{Slot.{next_of, newer_of, target_of}, declared.Slot.Slot}

module _ (a b : Slot) where
  pub neither : (a.refusal ≡ 0 → ⊥) → (b.refusal ≡ 0 → ⊥) → 2 ≡ newer_of a b
  unfolding newer_of
  neither h k = simp (ne_eqb a.refusal 0 h, ne_eqb b.refusal 0 k)

  pub second_alone : (a.refusal ≡ 0 → ⊥) → b.refusal ≡ 0 → 1 ≡ newer_of a b
  unfolding newer_of
  second_alone h k = simp (ne_eqb a.refusal 0 h, eq-eqb b.refusal 0 k)

  pub first_alone : a.refusal ≡ 0 → (b.refusal ≡ 0 → ⊥) → 0 ≡ newer_of a b
  unfolding newer_of
  first_alone h k = simp (eq-eqb a.refusal 0 h, ne_eqb b.refusal 0 k)

  pub second_newer : (n : ℕ) → a.refusal ≡ 0 → b.refusal ≡ 0 → n ≡ next_of a.number → b.number ≡ n → 1 ≡ newer_of a b
  unfolding newer_of
  second_newer n h k e f = simp (eq-eqb a.refusal 0 h, eq-eqb b.refusal 0 k, eq-eqb b.number (next_of a.number) (f ∙ e))

  pub first_newer : (n : ℕ) → a.refusal ≡ 0 → b.refusal ≡ 0 → n ≡ next_of a.number → (b.number ≡ n → ⊥) → 0 ≡ newer_of a b
  unfolding newer_of
  first_newer n h k e f =
      simp (eq-eqb a.refusal 0 h, eq-eqb b.refusal 0 k, ne_eqb b.number (next_of a.number) (λ z. f (z ∙ sym e)))

  module _ (at : ℕ) (is : at ≡ newer_of a b) where
    pub to_second : (n : ℕ) → at ≡ 0 → n ≡ next_of a.number → record { slot = 1; number = n } ≡ target_of a b
    unfolding target_of
    to_second n h e = simp (eq-eqb (newer_of a b) 0 (sym is ∙ h), e)

    pub to_first : (n : ℕ) → (at ≡ 0 → ⊥) → at ≡ 1 → n ≡ next_of b.number → record { slot = 0; number = n } ≡ target_of a b
    unfolding target_of
    to_first n g h e = simp (ne_eqb (newer_of a b) 0 (λ z. g (is ∙ z)), eq-eqb (newer_of a b) 1 (sym is ∙ h), e)

    pub to_none_lem : (at ≡ 0 → ⊥) → (at ≡ 1 → ⊥) → record { slot = 0; number = 0 } ≡ target_of a b
    unfolding target_of
    to_none_lem g h = simp (ne_eqb (newer_of a b) 0 (λ z. g (is ∙ z)), ne_eqb (newer_of a b) 1 (λ z. h (is ∙ z)))
