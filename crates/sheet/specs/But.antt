-- Two sheets that are the same but at some positions.
use Rattle.std.specs.Prelude.{◌≡◌, ℕ, List, length, slice_index}

-- as long, and every byte the same but those of H
pub record But (H : ℕ → Type 0) (s s' : List ℕ) : Type 0 where
  pub long : length s' ≡ length s
  pub others : (p : ℕ) → (H p → ⊥) → slice_index s' p ≡ slice_index s p
