-- What stays of an APDU that is read and written again.
use Rattle.std.specs.Prelude.{ℕ, ◌+◌, ◌%◌, ◌≤◌, ◌<◌, ◌≡◌, ◌⊎◌, List, [], ◌∷◌, length, get_or}
use Rattle.pdu.specs.Item.{Item, low, num, cap, duo, skip, Row}

-- place j is in bytes of no meaning, the items standing from place `at` on
abbrev pub Skipped : List Item → ℕ → ℕ → Type 0
Skipped [] at j = ⊥
Skipped (low f m ∷ is) at j = Skipped is at j
Skipped (num f w ∷ is) at j = Skipped is (at + w) j
Skipped (cap f w m ∷ is) at j = Skipped is (at + w) j
Skipped (duo f g ∷ is) at j = Skipped is (at + 2) j
Skipped (skip w ∷ is) at j = ((at ≤ j) × (j < at + w)) ⊎ Skipped is (at + w) j

-- c IS b WITHOUT THE TOP SIX BITS OF THE FIRST BYTE AND WITHOUT THE BYTES OF NO MEANING
pub record Cleared (r : Row) (b c : List ℕ) : Type 0 where
  pub as_long : length c ≡ length b
  pub first : get_or c 0 0 ≡ get_or b 0 0 % 4
  pub skipped : (j : ℕ) → Skipped r.items 2 j → get_or c j 0 ≡ 0
  pub kept : (j : ℕ) → 0 < j → (Skipped r.items 2 j → ⊥) → get_or c j 0 ≡ get_or b j 0
