-- What a row says of the bytes of a PDU: the fields in them, whether these and the length suit the row, and the bytes of given fields.
use Rattle.std.specs.Prelude.{ℕ, ◌+◌, ◌*◌, ◌/◌, ◌%◌, List, [], ◌∷◌, ◌++◌, Bool, ◌&&◌, ◌||◌, leb, ltb, eqb}
use Rattle.octets.specs.Bytes.{num_at, bytes_of}
use Rattle.pdu.specs.Item.{Item, low, num, cap, duo, skip, Tail, none, by, twice, between, group, Row, Value, ◌≔◌, the}

-- the service code: the ten low bits of the first two bytes
abbrev pub code_of : List ℕ → ℕ
code_of b = num_at b 0 2 % 1024

-- the low bits of the code; the four high and the twelve low bits of two bytes
unfoldable pub low_at : List ℕ → ℕ → ℕ
low_at b m = num_at b 0 2 % m

unfoldable pub four_at : List ℕ → ℕ → ℕ
four_at b at = num_at b at 2 / 4096

unfoldable pub twelve_at : List ℕ → ℕ → ℕ
twelve_at b at = num_at b at 2 % 4096

-- the fields in the bytes, the items standing from place `at` on
abbrev pub values_at : List Item → ℕ → List ℕ → List Value
values_at [] at b = []
values_at (low f m ∷ is) at b = f ≔ low_at b m ∷ values_at is at b
values_at (num f w ∷ is) at b = f ≔ num_at b at w ∷ values_at is (at + w) b
values_at (cap f w m ∷ is) at b = f ≔ num_at b at w ∷ values_at is (at + w) b
values_at (duo f g ∷ is) at b = f ≔ four_at b at ∷ g ≔ twelve_at b at ∷ values_at is (at + 2) b
values_at (skip w ∷ is) at b = values_at is (at + w) b

-- the place after the items
abbrev pub end_of : ℕ → List Item → ℕ
end_of at [] = at
end_of at (low f m ∷ is) = end_of at is
end_of at (num f w ∷ is) = end_of (at + w) is
end_of at (cap f w m ∷ is) = end_of (at + w) is
end_of at (duo f g ∷ is) = end_of (at + 2) is
end_of at (skip w ∷ is) = end_of (at + w) is

-- where a row's data starts: after two bytes of code and the items
abbrev pub head_of : Row → ℕ
head_of r = end_of 2 r.items

-- each field keeps its item's limit, and then t; the limit of a `num` is its width, which its type keeps
abbrev pub under : List Item → List Value → Bool → Bool
under [] x t = t
under (low f m ∷ is) x t = ltb (the x f) m && under is x t
under (num f w ∷ is) x t = under is x t
under (cap f w m ∷ is) x t = ltb (the x f) m && under is x t
under (duo f g ∷ is) x t = ltb (the x f) 16 && (ltb (the x g) 4096 && under is x t)
under (skip w ∷ is) x t = under is x t

-- n bytes in all, of which the first h are code and items, suit the rule for the data
abbrev pub suits : Tail → ℕ → List Value → ℕ → Bool
suits none h x n = eqb n h
suits (by f) h x n = eqb n (h + the x f)
suits (twice f) h x n = eqb n (h + 2 * the x f)
suits (between lo hi) h x n = leb (h + lo) n && leb n (h + hi)
suits (group f) h x n = eqb n h || eqb (the x f) 0

-- THE ROW LETS THESE FIELDS STAND IN n BYTES
abbrev pub fits : Row → List Value → ℕ → Bool
fits r x n = under r.items x (suits r.tail (head_of r) x n)

-- the code of a PDU with these fields, b being the row's first
abbrev pub code_by : ℕ → List Item → List Value → ℕ
code_by b [] x = b
code_by b (low f m ∷ is) x = b + the x f
code_by b (num f w ∷ is) x = b
code_by b (cap f w m ∷ is) x = b
code_by b (duo f g ∷ is) x = b
code_by b (skip w ∷ is) x = b

abbrev pub code_for : Row → List Value → ℕ
code_for r x = code_by r.base r.items x

-- two fields as one number of two bytes: four bits, then twelve
abbrev pub pair_of : ℕ → ℕ → ℕ
pair_of x y = x * 4096 + y

-- what bytes of no meaning are written as
abbrev pub ignored : ℕ
ignored = 0

-- the bytes of the items
abbrev pub item_bytes : List Item → List Value → List ℕ
item_bytes [] x = []
item_bytes (low f m ∷ is) x = item_bytes is x
item_bytes (num f w ∷ is) x = bytes_of w (the x f) ++ item_bytes is x
item_bytes (cap f w m ∷ is) x = bytes_of w (the x f) ++ item_bytes is x
item_bytes (duo f g ∷ is) x = bytes_of 2 (pair_of (the x f) (the x g)) ++ item_bytes is x
item_bytes (skip w ∷ is) x = bytes_of w ignored ++ item_bytes is x

-- code and items of a row with these fields
unfoldable pub head_bytes : Row → List Value → List ℕ
head_bytes r x = bytes_of 2 (code_for r x) ++ item_bytes r.items x
