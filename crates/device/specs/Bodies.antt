-- Two sheets that differ at most in body bytes of memory and properties.
use Rattle.std.specs.Prelude.{ℕ, ◌<◌, ◌≡◌, List, length, get_or}
use Rattle.sheet.specs.Kind.{groups}
use Rattle.sheet.specs.Entries.{contents, InBody}

pub record SameButBodies (s s' : List ℕ) : Type 0 where
  pub long : length s' ≡ length s
  -- head and entries
  pub before : (p : ℕ) → p < contents s → get_or s' p 0 ≡ get_or s p 0
  -- the bodies of group objects
  pub values : (i p : ℕ) → InBody s groups i p → get_or s' p 0 ≡ get_or s p 0
