-- What is known where tests joined by `&&` and `||` meet.
use Rattle.octets.proofs.Kit.{ℕ, ◌≡◌, refl, sym, ap, ◌∙◌, eqb, eq-eqb, ne_eqb, Bool, true, false, not, ◌&&◌, ◌⊎◌, inl, inr}
use Rattle.octets.proofs.{Truths.never, Tests.branches}

pub was_no : (b : Bool) → not b ≡ true → b ≡ false
was_no true e = never e
was_no false e = refl

pub was_yes : (b : Bool) → not b ≡ false → b ≡ true
was_yes true e = refl
was_yes false e = never (sym e)

-- the flag of `a && b`, where it was tested later
pub both_held : {A B : Type 0} {f x y : Bool} → (A × (f ≡ x)) ⊎ (B × (f ≡ y)) → (B → y ≡ false) → f ≡ true → A × (x ≡ true)
both_held (inl (a, e)) n h = (a, sym e ∙ h)
both_held (inr (b, e)) n h = never (sym (n b) ∙ sym e ∙ h)

pub and_assoc : (a b c : Bool) → (a && b && c) ≡ (a && (b && c))
and_assoc true b c = refl
and_assoc false b c = refl

-- tests, with `!`
pub ruleset joined = (branches, was_no, was_yes)

-- a test of a number that a call has given
pub moved_yes : (x y z : ℕ) → x ≡ y → x ≡ z → eqb y z ≡ true
moved_yes x y z e h = eq-eqb y z (sym e ∙ h)

pub moved_no : (x y z : ℕ) → x ≡ y → (x ≡ z → ⊥) → eqb y z ≡ false
moved_no x y z e h = ne_eqb y z (λ k. h (e ∙ k))

pub moved : (x y z : ℕ) (b : Bool) → x ≡ y → eqb x z ≡ b → eqb y z ≡ b
moved x y z b e q = ap (λ (n : ℕ). eqb n z) (sym e) ∙ q
