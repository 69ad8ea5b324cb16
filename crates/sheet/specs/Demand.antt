-- A rule as rows of a table: each row says of two numbers how they stand to each other, and which rule is broken if they don't.
use Rattle.std.specs.Prelude.{◌≡◌, ℕ, ◌<◌, ◌≤◌, Bool, cond, List, [], ◌∷◌, ◌==◌, nat_le}

pub data Order : Type 0 where
  ◌≼◌ : ℕ → ℕ → Order
  ◌≐◌ : ℕ → ℕ → Order

infix 30 ◌≼◌ ◌≐◌
pub record Demand : Type 0 where
  pub rule : ℕ
  pub order : Order

infix 20 ◌⦂◌
abbrev pub ◌⦂◌ : ℕ → Order → Demand
n ⦂ o = record { rule = n; order = o }

abbrev pub test : Order → Bool
test (a ≼ b) = nat_le a b
test (a ≐ b) = a == b

-- the rule of the first row that does not hold, and 0 where all hold
unfoldable pub breach : List Demand → ℕ
breach [] = 0
breach (d ∷ ds) = cond (test d.order) (breach ds) d.rule

-- the two numbers stand so, and not so
abbrev pub Holds : Order → Type 0
Holds (a ≼ b) = a ≤ b
Holds (a ≐ b) = a ≡ b

abbrev pub Fails : Order → Type 0
Fails (a ≼ b) = b < a
Fails (a ≐ b) = a ≡ b → ⊥

-- every row holds
abbrev pub Met : List Demand → Type 0
Met [] = Unit
Met (d ∷ ds) = Holds d.order × Met ds

-- r is the rule of the first row that does not hold, row by row: what is proved at a return
abbrev pub Tells : ℕ → List Demand → Type 0
Tells r [] = r ≡ 0
Tells r (d ∷ ds) = (Fails d.order → r ≡ d.rule) × (Holds d.order → Tells r ds)
