-- What a straight search among the parts of a sheet gives.
use Rattle.std.specs.Prelude.{ℕ, ◌<◌, ◌≡◌, List, Option, Some, None, IfSome}
use Rattle.octets.specs.Octets.{Octets}
use Rattle.sheet.specs.Rules.{Accepted}
use Rattle.parts.specs.declared.Parts.{Parts}
use Rattle.parts.specs.Records.{Taken}

-- the number that was found, n where there is none
abbrev pub found_or : Option ℕ → ℕ → ℕ
found_or (Some i) n = i
found_or None n = n

-- r is the number, of those below n, that f gives of each sheet whose parts are u; none where f gives n
pub record Finds (u : Parts) (n : ℕ) (f : List ℕ → ℕ) (r : Option ℕ) : Type 0 where
  pub below : IfSome r (λ i. i < n)
  pub is : (s : List ℕ) → Accepted s → Octets s → Taken s u → found_or r n ≡ f s
