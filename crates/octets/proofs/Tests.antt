-- From the facts that code has where it returns to definitions that go by tests.
use Rattle.octets.proofs.Kit.{ℕ, ◌≡◌, refl, sym, ◌∙◌, Bool, true, false, cond, ◌&&◌, leb, eqb, lt-ltb, le-ltb, le-leb, lt-leb, eq-eqb, ne_eqb}

pub yes : {A : Type 0} (t : Bool) (x y r : A) → t ≡ true → r ≡ x → r ≡ cond t x y
yes t x y r e h = simp e h

pub no : {A : Type 0} (t : Bool) (x y r : A) → t ≡ false → r ≡ y → r ≡ cond t x y
no t x y r e h = simp e h

-- a test that a call has made
pub made_yes : (r t : Bool) → r ≡ t → r ≡ true → t ≡ true
made_yes r t e h = sym e ∙ h

pub made_no : (r t : Bool) → r ≡ t → r ≡ false → t ≡ false
made_no r t e h = sym e ∙ h

pub both : (a b : Bool) → a ≡ true → b ≡ true → (a && b) ≡ true
both a b e h = simp (e, h)

pub not_first_lem : (a b : Bool) → a ≡ false → (a && b) ≡ false
not_first_lem a b e = simp e

pub not_second_lem : (a b : Bool) → b ≡ false → (a && b) ≡ false
not_second_lem true b h = h
not_second_lem false b h = refl

-- what is answered is the second part, or no
pub and_second : (a b r : Bool) → a ≡ true → r ≡ b → r ≡ (a && b)
and_second a b r e h = simp e h

pub and_no : (a b r : Bool) → a ≡ false → r ≡ false → r ≡ (a && b)
and_no a b r e h = simp e h

-- a test of a number that a call has given
pub same_eqb : (x y z : ℕ) → x ≡ y → eqb x z ≡ eqb y z
same_eqb x y z e = simp e

pub same_leb : (x y z : ℕ) → x ≡ y → leb x z ≡ leb y z
same_leb x y z e = simp e

-- whether a number is one that a call has given
pub given_eqb : (x y z : ℕ) → y ≡ z → x ≡ y → eqb x z ≡ true
given_eqb x y z e h = eq-eqb x z (h ∙ e)

pub other_eqb : (x y z : ℕ) → y ≡ z → (x ≡ y → ⊥) → eqb x z ≡ false
other_eqb x y z e h = ne_eqb x z (λ k. h (k ∙ sym e))

-- a test whose answer is known
pub ruleset tests = (lt-ltb, le-ltb, le-leb, lt-leb, eq-eqb, ne_eqb)

-- a choice by tests
pub ruleset branches = (yes, no, lt-ltb, le-ltb, le-leb, lt-leb, eq-eqb, ne_eqb, made_yes, made_no, both, not_first_lem, not_second_lem, and_second, and_no, same_eqb, same_leb)

-- a choice by numbers that calls have given
pub ruleset given = (yes, no, given_eqb, other_eqb)
