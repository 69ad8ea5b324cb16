-- Type 9: what a code of two bytes says, and what is promised of the code that is written for a number of hundredths.
use Rattle.std.specs.Prelude.{ℕ, ◌-◌, ◌/◌, ◌%◌, ◌^◌, ◌≤◌, ◌<◌, ◌≡◌, Bool, cond, ◌&&◌, ltb, ℤ, pos, negsuc, neg_ℤ, nat_abs, ◌-ℤ◌, ◌*ℤ◌}
use Rattle.std.specs.Int.Signed.{le_z}

-- the exponent E: four bits
abbrev pub exponent_at : ℕ → ℕ
exponent_at c = c / 2048 % 16

-- the mantissa M: the sign bit and the eleven low bits, in two's complement
abbrev pub mantissa_at : ℕ → ℤ
mantissa_at c = cond (ltb c 32768) (pos (c % 2048)) (neg_ℤ (pos (2048 - c % 2048)))

-- WHAT A CODE SAYS: M·2^E hundredths
unfoldable pub res : ℕ → ℤ
res c = mantissa_at c *ℤ pos (2 ^ exponent_at c)

-- every code of two bytes but 7FFFh
pub record Valid (c : ℕ) : Type 0 where
  pub word : c < 65536
  pub other : c ≡ 32767 → ⊥

-- which numbers are written: −67,108,864 to 67,043,328
abbrev pub in_range : ℤ → Bool
in_range x = le_z (negsuc 67108863) x && le_z x (pos 67043328)

-- how far the result of a code is from x
abbrev pub off : ℤ → ℕ → ℕ
off x c = nat_abs (res c -ℤ x)

-- WHAT IS PROMISED OF THE CODE c WRITTEN FOR x: no valid code is nearer, of two equally near results it has the one nearer zero, of codes with one result the smallest E
pub record Chosen (x : ℤ) (c : ℕ) : Type 0 where
  pub valid : Valid c
  pub nearest : (d : ℕ) → Valid d → off x c ≤ off x d
  pub smaller : (d : ℕ) → Valid d → off x c ≡ off x d → nat_abs (res c) ≤ nat_abs (res d)
  pub least : (d : ℕ) → Valid d → res c ≡ res d → exponent_at c ≤ exponent_at d
