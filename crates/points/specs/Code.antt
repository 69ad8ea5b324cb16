-- How the code of type 9 is found: the first exponent at which the number, divided and rounded, is a mantissa. That it is the code promised is the theorem `chosen`.
use Rattle.std.specs.Prelude.{ℕ, zero, suc, ◌+◌, ◌*◌, ◌-◌, ◌/◌, ◌^◌, Bool, false, cond, leb, eqb, ℤ, pos, negsuc, neg_ℤ, nat_abs}

-- m / p, rounded to the nearest, a half toward zero
abbrev pub rounded : ℕ → ℕ → ℕ
rounded m p = (2 * m + p - 1) / (2 * p)

-- x / p, rounded likewise
abbrev pub quotient : ℤ → ℕ → ℤ
quotient (pos m) p = pos (rounded m p)
quotient (negsuc n) p = neg_ℤ (pos (rounded (suc n) p))

-- twice the magnitude that still rounds to a mantissa, which is from −2,048 to 2,047
abbrev pub limit : ℤ → ℕ
limit (pos m) = 4095
limit (negsuc n) = 4097

-- the first exponent from e on at which a magnitude rounds to a mantissa; with n more to try the last
unfoldable pub exponent_from : ℕ → ℕ → ℕ → ℕ → ℕ
exponent_from zero m l e = e
exponent_from (suc n) m l e = cond (leb (2 * m) (l * 2 ^ e)) e (exponent_from n m l (e + 1))

abbrev pub exponent_of : ℤ → ℕ
exponent_of x = exponent_from 15 (nat_abs x) (limit x) 0

-- E and M in a code
abbrev pub packed : ℕ → ℤ → ℕ
packed e (pos q) = e * 2048 + q
packed e (negsuc n) = 32768 + e * 2048 + (2048 - suc n)

-- a mantissa of −1,024 is −2,048 at the exponent below
abbrev pub is_half : ℤ → Bool
is_half (pos q) = false
is_half (negsuc n) = eqb n 1023

abbrev pub stepped : ℕ → ℤ → ℕ
stepped e m = cond (eqb e 0) (packed 0 m) (cond (is_half m) (packed (e - 1) (negsuc 2047)) (packed e m))

-- THE CODE WRITTEN FOR x
unfoldable pub code_of : ℤ → ℕ
code_of x = stepped (exponent_of x) (quotient x (2 ^ exponent_of x))
