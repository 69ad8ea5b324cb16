-- What the table allows, as plain propositions.
use Rattle.std.specs.Prelude.{ℕ, ◌+◌, ◌*◌, ◌^◌, ◌≤◌, ◌<◌, ◌≡◌, ◌⊎◌, true, List, [], ◌∷◌, length}
use Rattle.pdu.specs.Item.{Item, low, num, cap, duo, skip, Tail, none, by, twice, between, group, Row, Value, the}
use Rattle.pdu.specs.Table.{row_of, has}
use Rattle.pdu.specs.Pdus.{service_of, values_of}
use Rattle.pdu.specs.Rules.{code_of, values_at, head_of}
use Rattle.pdu.specs.declared.Pdu.{Pdu}

-- the field of an item is within its limit
abbrev pub Within : Item → List Value → Type 0
Within (low f m) x = the x f < m
Within (num f w) x = the x f < 256 ^ w
Within (cap f w m) x = the x f < m
Within (duo f g) x = (the x f < 16) × (the x g < 4096)
Within (skip w) x = Unit {0}

abbrev pub AllWithin : List Item → List Value → Type 0
AllWithin [] x = Unit {0}
AllWithin (i ∷ is) x = Within i x × AllWithin is x

-- n bytes in all, of which the first h are code and items, suit the rule for the data
abbrev pub Length : Tail → ℕ → List Value → ℕ → Type 0
Length none h x n = n ≡ h
Length (by f) h x n = n ≡ h + the x f
Length (twice f) h x n = n ≡ h + 2 * the x f
Length (between lo hi) h x n = (h + lo ≤ n) × (n ≤ h + hi)
Length (group f) h x n = (n ≡ h) ⊎ (the x f ≡ 0)

-- THE ROW ALLOWS THESE FIELDS IN n BYTES
pub record Allows (r : Row) (x : List Value) (n : ℕ) : Type 0 where
  pub fields : AllWithin r.items x
  pub suited : Length r.tail (head_of r) x n
  pub most : n ≤ 16

-- The numbers of a PDU fit the widths of its row's plain fields. A `num` of one, two or four bytes is a u8, u16 or u32 of the code, so every PDU that the code holds is such.
abbrev pub Wide : Item → List Value → Type 0
Wide (low f m) x = Unit {0}
Wide (num f w) x = the x f < 256 ^ w
Wide (cap f w m) x = Unit {0}
Wide (duo f g) x = Unit {0}
Wide (skip w) x = Unit {0}

abbrev pub AllWide : List Item → List Value → Type 0
AllWide [] x = Unit {0}
AllWide (i ∷ is) x = Wide i x × AllWide is x

abbrev pub Typed : Pdu → Type 0
Typed p = AllWide (row_of (service_of p)).items (values_of p)

-- THE BYTES CARRY THE PDU: their code is one of its row's, its fields are those that stand in them, and the row allows these in so many bytes
pub record Carries (b : List ℕ) (p : Pdu) : Type 0 where
  pub least : 2 ≤ length b
  pub code : has (row_of (service_of p)) (code_of b) ≡ true
  pub fields : values_of p ≡ values_at (row_of (service_of p)).items 2 b
  pub allowed : Allows (row_of (service_of p)) (values_of p) (length b)
