-- A test of each number below n, as `all` over a range tells it. Assumes nothing.
use Rattle.octets.proofs.Kit.{ℕ, zero, suc, ◌+◌, ◌≡◌, refl, sym, ap, ap₂, ◌∙◌, Bool, true, false, arith}
use Rattle.std.specs.Prelude.{◌&&◌}
use Rattle.std.specs.List.{list_all, range_with_len}
use Rattle.octets.specs.Every.{every}

and_assoc : (a b c : Bool) → (a && (b && c)) ≡ ((a && b) && c)
and_assoc true b c = refl
and_assoc false b c = refl

and_true : (a : Bool) → a ≡ (a && true)
and_true true = refl
and_true false = refl

-- one more at the end
all_last : (f : ℕ → Bool) (a n : ℕ) → list_all f (range_with_len a (suc n)) ≡ (list_all f (range_with_len a n) && f (a + n))
all_last f a zero = let e : a ≡ a + 0 = omega arith in sym (and_true (f a)) ∙ ap f e
all_last f a (suc n) =
    let e : a + 1 + n ≡ a + suc n = omega arith in
    ap (λ (b : Bool). f a && b) (all_last f (a + 1) n ∙ ap (λ (i : ℕ). list_all f (range_with_len (a + 1) n) && f i) e)
    ∙ and_assoc (f a) (list_all f (range_with_len (a + 1) n)) (f (a + suc n))

range_all : (f : ℕ → Bool) (n : ℕ) → list_all f (range_with_len 0 n) ≡ every n f
unfolding every
range_all f zero = refl
range_all f (suc n) = let e : 0 + n ≡ n = omega arith in all_last f 0 n ∙ ap₂ (λ (b : Bool) (i : ℕ). b && f i) (range_all f n) e

pub all_every : (f : ℕ → Bool) (n : ℕ) (r : Bool) → r ≡ list_all f (range_with_len 0 n) → r ≡ every n f
all_every f n r e = e ∙ range_all f n
