-- Every valid code's result is in the range that is written; read-back of whole datapoints.
use Rattle.octets.proofs.Kit.{◌≡◌, refl, sym, ap, ap₂, ◌∙◌, subst, ℕ, zero, suc, ◌*◌, ◌/◌, ◌%◌, ◌^◌, ◌≤◌, ◌<◌, Bool, true, false, cond, not, ◌&&◌, List, [], append-nil, arith, mul-le-mul}
use Rattle.octets.proofs.Kit.{length, get_or, ext_get_or, T, eqb, ℤ, pos, Float, binary32, to_bits, of_bits, is_nan, fits, of_bits-to_bits, to_bits-of_bits, to_bits-lt, nan_bits_is, le-leb, ne_eqb}
use Rattle.octets.proofs.Kit.{ltb-true, ltb-false, eqb-true, eqb-false}
use Rattle.octets.{specs.{Bytes.{num_at, bytes_of}, Octets.{Octets, ReadFrom}}, proofs.Numbers.{num_back, length_bytes, bytes_back, num_below}}
use Rattle.points.specs.{Nine.{exponent_at, res, Valid, in_range}, Code.code_of}
use Rattle.points.specs.Point.{type_of, width_at, finite, finite_bits, point_at, read_point, refusal_of, number_of, point_bytes, Typed, Exact, as_written}
use Rattle.std.specs.Prelude.{Result, Ok, Err}
use Rattle.points.specs.declared.{Datapoint.{Datapoint, TheVariants.{Switch, Byte, Hundredths, Float as Single}}, Refusal.Refusal}
use Rattle.points.specs.declared.Refusal.TheVariants as why
use Rattle.points.proofs.{Laws.{small, read_is}, Floats.{no_nan, above_infinite}, promises.Choice.{view, code, most, chosen}, Signed.sgn, promises.Unique.back}

-- the results by their bounds
plus_in : (a : ℕ) → a ≤ 67043328 → in_range (sgn false a) ≡ true
plus_in a h = le-leb a 67043328 h

minus_in : (a : ℕ) → a ≤ 67108864 → in_range (sgn true a) ≡ true
minus_in zero h = refl
minus_in (suc a) h = ap (λ (b : Bool). b && true) (le-leb a 67108863 (omega (arith, h)))

size_in : (s : Bool) (f e : ℕ) → f ≤ most s → e ≤ 15 → (s ≡ false → e ≡ 15 → f ≤ 2046) → in_range (sgn s (f * 2 ^ e)) ≡ true
size_in true f e h i j = minus_in (f * 2 ^ e) (omega (arith, mul-le-mul {n₁ = f} {m₁ = 2 ^ e} {n₂ = 2048} {m₂ = 32768} h (small e i).1))
size_in false f e h i j = go (eqb e 15) refl
  where
    below : e ≤ 14 → f * 2 ^ e ≤ 67043328
    below l = omega (arith, mul-le-mul {n₁ = f} {m₁ = 2 ^ e} {n₂ = 2047} {m₂ = 16384} h (omega (arith, native.Mathlib.Nat.pow-le-pow_right {n = 2} (omega arith) {i = e} {j = 14} l)))

    go : (t : Bool) → eqb e 15 ≡ t → in_range (pos (f * 2 ^ e)) ≡ true
    go true k =
        let x : e ≡ 15 = eqb-true e 15 k in
        plus_in (f * 2 ^ e) (subst (λ (n : ℕ). f * 2 ^ n ≤ 67043328) (sym x) (omega (arith, j refl x)))
    go false k = plus_in (f * 2 ^ e) (below (omega (arith, i, eqb-false e 15 k)))

-- EVERY VALID CODE'S RESULT IS WRITTEN, AND READS AS ITSELF
pub valid_in : (c : ℕ) → Valid c → in_range (res c) ≡ true
valid_in c v =
    subst (λ (x : ℤ). in_range x ≡ true) (sym (view c).is)
    (size_in (view c).minus (view c).factor (exponent_at c) (view c).fits (omega arith) last)
  where
    last : (view c).minus ≡ false → exponent_at c ≡ 15 → (view c).factor ≤ 2046
    last e k =
        let w : c ≡ code false 15 (view c).factor = (view c).whole v.word ∙ ap₂ (λ (s : Bool) (n : ℕ). code s n (view c).factor) e k in
        let f : (view c).factor ≤ 2047 = subst (λ (s : Bool). (view c).factor ≤ most s) e (view c).fits in
        go (eqb (view c).factor 2047) refl w f
      where
        go : (t : Bool) → eqb (view c).factor 2047 ≡ t → c ≡ code false 15 (view c).factor → (view c).factor ≤ 2047 → (view c).factor ≤ 2046
        go true i w f = absurd (v.other (w ∙ ap (code false 15) (eqb-true (view c).factor 2047 i)))
        go false i w f = omega (arith, f, eqb-false (view c).factor 2047 i)

pub result_back : (c : ℕ) → Valid c → res (code_of (res c)) ≡ res c
result_back c v = back c v (valid_in c v)

-- the number of a datapoint that is written stands in its bytes
written_in : (z : ℤ) → refusal_of (Hundredths z) ≡ 0 → in_range z ≡ true
written_in z h = go (in_range z) refl h
  where
    go : (b : Bool) → in_range z ≡ b → ◌≡◌ {A = ℕ} (cond b 0 23) 0 → in_range z ≡ true
    go true e f = e
    go false e f = absurd (omega (arith, f))

written_finite : (x : Float) → refusal_of (Single x) ≡ 0 → finite x ≡ true
written_finite x h = go (finite x) refl h
  where
    go : (b : Bool) → finite x ≡ b → ◌≡◌ {A = ℕ} (cond b 0 24) 0 → finite x ≡ true
    go true e f = e
    go false e f = absurd (omega (arith, f))

bit_small : (b : Bool) → cond b 1 0 < 256
bit_small true = omega arith
bit_small false = omega arith

pub number_small : (d : Datapoint) → Typed d → refusal_of d ≡ 0 → number_of d < 256 ^ width_at (type_of d)
number_small (Switch b) t r = bit_small b
number_small (Byte n) t r = t
number_small (Hundredths z) t r = (chosen z (written_in z r)).valid.word
number_small (Single x) t r = to_bits-lt binary32 x t

some_width : (d : Datapoint) → width_at (type_of d) ≡ 0 → ⊥
some_width (Switch b) e = omega (arith, e)
some_width (Byte n) e = omega (arith, e)
some_width (Hundredths z) e = omega (arith, e)
some_width (Single x) e = omega (arith, e)

in_bytes : (w n : ℕ) → n < 256 ^ w → num_at (bytes_of w n) 0 w ≡ n
in_bytes w n h = ap (λ (l : List ℕ). num_at l 0 w) (sym (append-nil (bytes_of w n))) ∙ num_back w n [] [] h

pub read_number : (d : Datapoint) → Typed d → refusal_of d ≡ 0 → point_at (type_of d) (number_of d) ≡ read_point (type_of d) (point_bytes d)
unfolding point_bytes
read_number d t r =
    let w : ℕ = width_at (type_of d) in
    let n : ℕ = number_of d in
    let h = number_small d t r in
    read_is (type_of d) w n (bytes_of w n) (point_at (type_of d) n) refl (some_width d) (length_bytes w n) (record { value = sym (in_bytes w n h); below = h }) refl

finite_bits_lem : (x : Float) → T (fits binary32 x) → finite x ≡ true → finite_bits (to_bits binary32 x) ≡ true
finite_bits_lem x t f = go (finite_bits (to_bits binary32 x)) refl
  where
    go : (b : Bool) → finite_bits (to_bits binary32 x) ≡ b → finite_bits (to_bits binary32 x) ≡ true
    go true e = e
    go false e = absurd (subst T (sym (sym (above_infinite x t (ltb-false (to_bits binary32 x / 8388608 % 256) 255 e)) ∙ f)) tt)

-- the number of a datapoint that is written says it, hundredths as they are written
pub point_written : (d : Datapoint) → Typed d → refusal_of d ≡ 0 → point_at (type_of d) (number_of d) ≡ Ok (as_written d)
point_written (Switch true) t r = refl
point_written (Switch false) t r = refl
point_written (Byte n) t r = refl
point_written (Hundredths z) t r =
    ap (λ (b : Bool). cond b (Err why.Invalid) (Ok (Hundredths (res (code_of z))))) (ne_eqb (code_of z) 32767 (chosen z (written_in z r)).valid.other)
point_written (Single x) t r =
    ap (λ (b : Bool). cond b (Ok (Single (of_bits binary32 (to_bits binary32 x)))) (Err why.Infinite)) (finite_bits_lem x t (written_finite x r))
    ∙ ap (λ (y : Float). Ok (Single y)) (of_bits-to_bits binary32 x t)

-- A DATAPOINT THAT IS WRITTEN IS READ BACK FROM ITS BYTES, hundredths as they are written
pub written_back : (d : Datapoint) → Typed d → refusal_of d ≡ 0 → read_point (type_of d) (point_bytes d) ≡ Ok (as_written d)
written_back d t r = sym (read_number d t r) ∙ point_written d t r

-- WHICH IS AS THEY WERE where a valid code has them
pub exact_written : (d : Datapoint) → Exact d → as_written d ≡ d
exact_written (Switch b) e = refl
exact_written (Byte n) e = refl
exact_written (Hundredths z) e =
    ap Hundredths (ap (λ (y : ℤ). res (code_of y)) (sym e.1.1) ∙ result_back e.0 e.1.0 ∙ e.1.1)
exact_written (Single x) e = refl

pub read_back : (d : Datapoint) → Typed d → refusal_of d ≡ 0 → Exact d → read_point (type_of d) (point_bytes d) ≡ Ok d
read_back d t r e = written_back d t r ∙ ap Ok (exact_written d e)

refused : (r : Refusal) (d : Datapoint) → ◌≡◌ {A = Result Datapoint Refusal} (Err r) (Ok d) → ⊥
refused r d e = cc

-- THE BITS OF A FLOAT THAT READS ARE WRITTEN AS THEY WERE
abbrev value_of : Result Datapoint Refusal → Datapoint
value_of (Ok d) = d
value_of (Err r) = Switch false

no_nan_is : (n : ℕ) → finite_bits n ≡ true → T (not (is_nan (of_bits binary32 n)))
no_nan_is n f = subst (λ (b : Bool). T (not b)) (nan_bits_is binary32 n) (no_nan n (ltb-true (n / 8388608 % 256) 255 f))

same_bytes_lem : (b : List ℕ) → length b ≡ 4 → Octets b → bytes_of 4 (num_at b 0 4) ≡ b
same_bytes_lem b l h =
    ext_get_or 0 (bytes_of 4 (num_at b 0 4)) b (length_bytes 4 (num_at b 0 4) ∙ sym l)
    (λ i k. bytes_back b 0 4 h i (omega (arith, k, length_bytes 4 (num_at b 0 4))) ∙ ap (λ (j : ℕ). get_or b j 0) (omega arith))

pub bits_kept : (b : List ℕ) (d : Datapoint) → ReadFrom b (Ok d) (read_point 14 b) → point_bytes d ≡ b
unfolding read_point point_bytes
bits_kept b d call = long (eqb (length b) 4) refl (sym call.is)
  where
    h : Octets b
    h = call.bytes

    bits : (t : Bool) → finite_bits (num_at b 0 4) ≡ t → length b ≡ 4 → cond t (Ok (Single (of_bits binary32 (num_at b 0 4)))) (Err why.Infinite) ≡ Ok d → point_bytes d ≡ b
    bits true f l g =
        ap point_bytes (sym (ap value_of g))
        ∙ ap (bytes_of 4) (to_bits-of_bits binary32 (num_at b 0 4) (num_below b 0 4 h) (no_nan_is (num_at b 0 4) f))
        ∙ same_bytes_lem b l h
    bits false f l g = absurd (refused why.Infinite d g)

    long : (t : Bool) → eqb (length b) 4 ≡ t → cond t (point_at 14 (num_at b 0 4)) (Err why.Length) ≡ Ok d → point_bytes d ≡ b
    long true f g = bits (finite_bits (num_at b 0 4)) refl (eqb-true (length b) 4 f) g
    long false f g = absurd (refused why.Length d g)
