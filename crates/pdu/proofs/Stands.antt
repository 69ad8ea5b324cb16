-- Fields that stand in bytes, item by item.
use Rattle.octets.proofs.Kit.{ℕ, ◌+◌, ◌%◌, ◌≡◌, ap, List, [], ◌∷◌, arith}
use Rattle.octets.{specs.{Bytes.num_at, Octets.Octets}, proofs.Numbers.num_below}
use Rattle.pdu.specs.{Item.{Name, Item, low, num, cap, duo, skip, Value, ◌≔◌, the}, Rules.{low_at, four_at, twelve_at, values_at}, Allows.AllWide}
use Rattle.pdu.proofs.{Formed.LowOf, Sound.chosen}

abbrev pub Stands : List Item → List Value → ℕ → List ℕ → Type 0
Stands [] x at b = Unit {0}
Stands (low f m ∷ is) x at b = (the x f ≡ num_at b 0 2 % m) × Stands is x at b
Stands (num f w ∷ is) x at b = (the x f ≡ num_at b at w) × Stands is x (at + w) b
Stands (cap f w m ∷ is) x at b = (the x f ≡ num_at b at w) × Stands is x (at + w) b
Stands (duo f g ∷ is) x at b = (the x f ≡ four_at b at) × (the x g ≡ twelve_at b at) × Stands is x (at + 2) b
Stands (skip w ∷ is) x at b = Stands is x (at + w) b

-- two lists of fields are equal if their first fields and their rests are
first_number : List Value → ℕ
first_number [] = 0
first_number (v ∷ vs) = v.number

rest : List Value → List Value
rest [] = []
rest (v ∷ vs) = vs

split : (f : Name) (m n : ℕ) (x y : List Value) → f ≔ m ∷ x ≡ f ≔ n ∷ y → (m ≡ n) × (x ≡ y)
unfolding first_number rest
split f m n x y e = (ap first_number e, ap rest e)

-- the fields of the bytes stand in them
pub stands : (is : List Item) (x : List Value) (at : ℕ) (b : List ℕ) → chosen is x ≡ values_at is at b → Stands is x at b
unfolding low_at
stands [] x at b e = tt
stands (low f m ∷ is) x at b e =
    let h = split f (the x f) (num_at b 0 2 % m) (chosen is x) (values_at is at b) e in
    (h.0, stands is x at b h.1)
stands (num f w ∷ is) x at b e =
    let h = split f (the x f) (num_at b at w) (chosen is x) (values_at is (at + w) b) e in
    (h.0, stands is x (at + w) b h.1)
stands (cap f w m ∷ is) x at b e =
    let h = split f (the x f) (num_at b at w) (chosen is x) (values_at is (at + w) b) e in
    (h.0, stands is x (at + w) b h.1)
stands (duo f g ∷ is) x at b e =
    let h = split f (the x f) (four_at b at) (g ≔ the x g ∷ chosen is x) (g ≔ twelve_at b at ∷ values_at is (at + 2) b) e in
    let k = split g (the x g) (twelve_at b at) (chosen is x) (values_at is (at + 2) b) h.1 in
    (h.0, k.0, stands is x (at + 2) b k.1)
stands (skip w ∷ is) x at b e = stands is x (at + w) b e

-- THEY KEEP THEIR WIDTHS, the bytes being below 256
pub stands_wide : (is : List Item) (x : List Value) (at : ℕ) (b : List ℕ) → Octets b → Stands is x at b → AllWide is x
stands_wide [] x at b h s = tt
stands_wide (low f m ∷ is) x at b h s = (tt, stands_wide is x at b h s.1)
stands_wide (num f w ∷ is) x at b h s = (let e : the x f ≡ num_at b at w = s.0 in omega (arith, num_below b at w h), stands_wide is x (at + w) b h s.1)
stands_wide (cap f w m ∷ is) x at b h s = (tt, stands_wide is x (at + w) b h s.1)
stands_wide (duo f g ∷ is) x at b h s = (tt, stands_wide is x (at + 2) b h s.2)
stands_wide (skip w ∷ is) x at b h s = (tt, stands_wide is x (at + w) b h s)

-- a field in the code is its low bits
pub stands_low : (is : List Item) (x : List Value) (at : ℕ) (b : List ℕ) → Stands is x at b → LowOf is x (num_at b 0 2)
stands_low [] x at b s = tt
stands_low (low f m ∷ is) x at b s = s.0
stands_low (num f w ∷ is) x at b s = tt
stands_low (cap f w m ∷ is) x at b s = tt
stands_low (duo f g ∷ is) x at b s = tt
stands_low (skip w ∷ is) x at b s = tt
