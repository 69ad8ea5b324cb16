-- Named fields: where a number stands in the head or in an entry, and in how many bytes.
use Rattle.std.specs.Prelude.{ℕ, List}
use Rattle.octets.specs.Bytes.{num_at}

pub record Field : Type 0 where
  pub at : ℕ
  pub width : ℕ

abbrev pub field : ℕ → ℕ → Field
field a w = record { at = a; width = w }

infix 75 ◌of◌
abbrev pub ◌of◌ : Field → List ℕ → ℕ
f of e = num_at e f.at f.width
