-- Numbers in bytes, the first byte the highest.
use Rattle.std.specs.Prelude.{ℕ, zero, suc, ◌+◌, ◌*◌, ◌/◌, ◌%◌, ◌<◌, ◌≡◌, List, [], ◌∷◌, ◌++◌, get_or}

-- the number in the w bytes of s from place `at`; past the end every byte is 0
unfoldable pub num_at : List ℕ → ℕ → ℕ → ℕ
num_at s at zero = 0
num_at s at (suc w) = num_at s at w * 256 + get_or s (at + w) 0

-- the w low bytes of x
unfoldable pub bytes_of : ℕ → ℕ → List ℕ
bytes_of zero x = []
bytes_of (suc w) x = bytes_of w (x / 256) ++ (x % 256 ∷ [])

-- r is the number in the w bytes from `at`, and below b
pub record IsNum (s : List ℕ) (at w b r : ℕ) : Type 0 where
  pub value : r ≡ num_at s at w
  pub below : r < b
