-- A test and what it says.
use Rattle.std.specs.Prelude.{◌≡◌, Bool, true, false}

-- r says whether P holds
pub record Says (P : Type 0) (r : Bool) : Type 0 where
  pub yes : r ≡ true → P
  pub no : r ≡ false → P → ⊥
