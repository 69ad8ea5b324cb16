-- A list of bytes, which every lent slice is.
use Rattle.std.specs.Prelude.{ℕ, ◌<◌, ◌≡◌, List, get_or}

abbrev pub Octets : List ℕ → Type 0
Octets s = (i : ℕ) → get_or s i 0 < 256

-- WHAT READING GAVE for the bytes b that were lent: r, and that is x
pub record ReadFrom {A : Type 0} (b : List ℕ) (r x : A) : Type 0 where
  pub is : r ≡ x
  pub bytes : Octets b
