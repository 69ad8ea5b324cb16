-- Spans: bytes of memory, of a property or of a key that stand side by side, and what a write gives to each.
use Rattle.std.specs.Prelude.{ℕ, ◌+◌, ◌-◌, List, [], ◌∷◌, Bool, true, false, cond, ◌&&◌, ◌||◌, ltb, leb, eqb}
use Rattle.sheet.specs.Kind.{kind_of}
use Rattle.history.specs.Location.{Location, memory, body, counter, key}

abbrev pub all : List Bool → Bool
all [] = true
all (b ∷ bs) = b && all bs

-- whose byte a location is, in numbers that can be compared: a memory, the body or the count of a property, the key of a level
abbrev pub owner : Location → List ℕ
owner (memory m y) = 0 ∷ kind_of m ∷ []
owner (body o i j) = 1 ∷ o ∷ i ∷ []
owner (counter o i j) = 2 ∷ o ∷ i ∷ []
owner (key l j) = 3 ∷ l ∷ []

abbrev pub same : List ℕ → List ℕ → Bool
same [] [] = true
same [] (y ∷ t) = false
same (x ∷ s) [] = false
same (x ∷ s) (y ∷ t) = eqb x y && same s t

-- and which of its bytes
abbrev pub byte : Location → ℕ
byte (memory m y) = y
byte (body o i j) = j
byte (counter o i j) = j
byte (key l j) = j

-- so many bytes of one owner, the first of them at `from`; byte j of these gets `give j`
pub record Span : Type 0 where
  pub from : Location
  pub long : ℕ
  pub give : ℕ → ℕ

abbrev pub span : Location → ℕ → (ℕ → ℕ) → Span
span x n g = record { from = x; long = n; give = g }

-- A SPAN HAS A BYTE
unfoldable pub has : Span → Location → Bool
has p x =
    all (same (owner p.from) (owner x) ∷ leb (byte p.from) (byte x) ∷ ltb (byte x) (byte p.from + p.long) ∷ [])

-- what it gives to a byte that it has
unfoldable pub put : Span → Location → ℕ
put p x = p.give (byte x - byte p.from)

-- SOME SPAN NAMES A BYTE
unfoldable pub names : List Span → Location → Bool
names [] x = false
names (p ∷ ps) x = has p x || names ps x

-- WHAT THE FIRST SPAN THAT HAS IT GIVES TO A BYTE
unfoldable pub gives : List Span → Location → ℕ
gives [] x = 0
gives (p ∷ ps) x = cond (has p x) (put p x) (gives ps x)
