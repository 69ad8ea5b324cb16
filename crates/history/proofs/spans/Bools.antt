-- Tests put together, and what each of them says; two laws of tests are passed on.
use Rattle.octets.proofs.Kit.{ℕ, zero, suc, ◌≡◌, refl, sym, Bool, true, false, ◌&&◌, cond, List, [], ◌∷◌, get_or}
use Rattle.octets.proofs.Truths.{never, and_is}
use Rattle.history.specs.Span.{all}
pub use Rattle.octets.proofs.Truths.{bool_same, must_fail}

pub and_fails : (a b : Bool) → a ≡ false → (a && b) ≡ false
and_fails true b e = never (sym e)
and_fails false b e = refl

pub and_false : (t : Bool) → (t && false) ≡ false
and_false true = refl
and_false false = refl

pub cond_same : {A : Type 0} (t : Bool) (y : A) → cond t y y ≡ y
cond_same true y = refl
cond_same false y = refl

-- each of several tests that hold together, and all of them
pub all_at : (bs : List Bool) → all bs ≡ true → (i : ℕ) → get_or bs i true ≡ true
all_at [] e i = refl
all_at (b ∷ bs) e zero = ((and_is b (all bs)).0 e).0
all_at (b ∷ bs) e (suc i) = all_at bs ((and_is b (all bs)).0 e).1 i
