-- What the program says of a sheet.
use Rattle.std.specs.Prelude.{ℕ, ◌+◌, ◌≤◌, ◌≡◌, cond, List, [], ◌∷◌, eqb, length, take}
use Rattle.sheet.specs.Rules.{verdict_of, old}

-- the line of a verdict: OK of an accepted sheet, OLD of an old one, else S and the digit of the rule; and a newline
abbrev pub line_of : ℕ → List ℕ
line_of v =
    cond (eqb v 0) (0x4F ∷ 0x4B ∷ 0x0A ∷ [])
    (cond (eqb v old) (0x4F ∷ 0x4C ∷ 0x44 ∷ 0x0A ∷ []) (0x53 ∷ (0x30 + v) ∷ 0x0A ∷ []))

-- WHAT IS SAID OF A SHEET
abbrev pub said_of : List ℕ → List ℕ
said_of s = line_of (verdict_of s)

-- the first n bytes of a buffer are these
pub record Fronts (bytes : List ℕ) (n : ℕ) (l : List ℕ) : Type 0 where
  pub most : n ≤ length l
  pub is : take n l ≡ bytes
