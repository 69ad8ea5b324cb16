-- The form of a row, as one computed test: its codes are below 1,024; a field in the low bits of the code stands first and counts the codes; a bounded field fits its bytes.
use Rattle.octets.proofs.Kit.{ℕ, ◌+◌, ◌-◌, ◌%◌, ◌^◌, ◌≤◌, ◌<◌, ◌≡◌, refl, sym, ap, ◌∙◌, Bool, true, false, ◌&&◌, List, [], ◌∷◌, zero-add, mod-eq_of_lt, mod-add-mod, mod-mod_of_dvd}
use Rattle.octets.proofs.Kit.{dvd_of_mod-eq-zero, arith, leb, eqb, leb-true, eqb-true}
use Rattle.octets.proofs.Truths.{never, and_is}
use Rattle.pdu.specs.{Item.{Item, low, num, cap, duo, skip, Tail, none, by, twice, between, group, Row, Value, the}, Rules.{head_of, code_by}, Allows.{AllWithin, Length}}

-- items none of which stands in the code
abbrev pub later_formed : List Item → Bool
later_formed [] = true
later_formed (low f m ∷ is) = false
later_formed (num f w ∷ is) = later_formed is
later_formed (cap f w m ∷ is) = leb m (256 ^ w) && later_formed is
later_formed (duo f g ∷ is) = later_formed is
later_formed (skip w ∷ is) = later_formed is

-- items of a row with the codes b .. b + n - 1
abbrev pub items_formed : ℕ → ℕ → List Item → Bool
items_formed b n [] = eqb n 1
items_formed b n (low f m ∷ is) = eqb n m && (eqb (b % m) 0 && (eqb (1024 % m) 0 && later_formed is))
items_formed b n (num f w ∷ is) = eqb n 1 && later_formed (num f w ∷ is)
items_formed b n (cap f w m ∷ is) = eqb n 1 && later_formed (cap f w m ∷ is)
items_formed b n (duo f g ∷ is) = eqb n 1 && later_formed (duo f g ∷ is)
items_formed b n (skip w ∷ is) = eqb n 1 && later_formed (skip w ∷ is)

-- a group value has no bytes before its data but the code
abbrev pub tail_formed : Tail → ℕ → Bool
tail_formed none h = true
tail_formed (by f) h = true
tail_formed (twice f) h = true
tail_formed (between lo hi) h = true
tail_formed (group f) h = eqb h 2

abbrev pub formed : Row → Bool
formed r = leb (r.base + r.span) 1024 && (items_formed r.base r.span r.items && tail_formed r.tail (head_of r))

-- what it says, part by part
pub record Formed (r : Row) : Type 0 where
  pub small : r.base + r.span ≤ 1024
  pub items_ok : items_formed r.base r.span r.items ≡ true
  pub tail_ok : tail_formed r.tail (head_of r) ≡ true

pub formed_says : (r : Row) → formed r ≡ true → Formed r
formed_says r e =
    let h = (and_is (leb (r.base + r.span) 1024) (items_formed r.base r.span r.items && tail_formed r.tail (head_of r))).0 e in
    let k = (and_is (items_formed r.base r.span r.items) (tail_formed r.tail (head_of r))).0 h.1 in
    record { small = leb-true (r.base + r.span) 1024 h.0; items_ok = k.0; tail_ok = k.1 }

-- fields that stand in their bytes or in the code c
abbrev pub Held : List Item → List Value → ℕ → Type 0
Held [] x c = Unit {0}
Held (low f m ∷ is) x c = (c % m ≡ the x f) × Held is x c
Held (num f w ∷ is) x c = (the x f < 256 ^ w) × Held is x c
Held (cap f w m ∷ is) x c = (the x f < 256 ^ w) × Held is x c
Held (duo f g ∷ is) x c = (the x f < 16) × (the x g < 4096) × Held is x c
Held (skip w ∷ is) x c = Held is x c

later_held : (is : List Item) (x : List Value) (c : ℕ) → later_formed is ≡ true → AllWithin is x → Held is x c
later_held [] x c e a = tt
later_held (low f m ∷ is) x c e a = never e
later_held (num f w ∷ is) x c e a = (a.0, later_held is x c e a.1)
later_held (cap f w m ∷ is) x c e a =
    let h = (and_is (leb m (256 ^ w)) (later_formed is)).0 e in
    let l : m ≤ 256 ^ w = leb-true m (256 ^ w) h.0 in
    let k : the x f < m = a.0 in
    (omega arith, later_held is x c h.1 a.1)
later_held (duo f g ∷ is) x c e a = (a.0.0, a.0.1, later_held is x c e a.1)
later_held (skip w ∷ is) x c e a = later_held is x c e a.1

-- the parts of the form of a row with a field in the code
record LowFormed (b n m : ℕ) (is : List Item) : Type 0 where
  count : n ≡ m
  starts : b % m ≡ 0
  divides : 1024 % m ≡ 0
  later : later_formed is ≡ true

low_formed : (b n m : ℕ) (is : List Item) → eqb n m && (eqb (b % m) 0 && (eqb (1024 % m) 0 && later_formed is)) ≡ true → LowFormed b n m is
low_formed b n m is e =
    let h = (and_is (eqb n m) (eqb (b % m) 0 && (eqb (1024 % m) 0 && later_formed is))).0 e in
    let k = (and_is (eqb (b % m) 0) (eqb (1024 % m) 0 && later_formed is)).0 h.1 in
    let l = (and_is (eqb (1024 % m) 0) (later_formed is)).0 k.1 in
    record { count = eqb-true n m h.0; starts = eqb-true (b % m) 0 k.0; divides = eqb-true (1024 % m) 0 l.0; later = l.1 }

low_bits : (b m v : ℕ) → b % m ≡ 0 → v < m → (b + v) % m ≡ v
low_bits b m v e h = sym (mod-add-mod b m v) ∙ ap (λ (k : ℕ). (k + v) % m) e ∙ ap (λ (k : ℕ). k % m) (zero-add v) ∙ mod-eq_of_lt h

-- THE CODE OF ALLOWED FIELDS is one of the row's, and they stand in it and in their bytes
pub record Coded (b n : ℕ) (is : List Item) (x : List Value) : Type 0 where
  pub least : b ≤ code_by b is x
  pub most : code_by b is x < b + n
  pub held : Held is x (code_by b is x)

one_code : (b n : ℕ) (is : List Item) (x : List Value) → code_by b is x ≡ b → eqb n 1 && later_formed is ≡ true → AllWithin is x → Coded b n is x
one_code b n is x c e a =
    let h = (and_is (eqb n 1) (later_formed is)).0 e in
    let k : n ≡ 1 = eqb-true n 1 h.0 in
    record { least = omega arith; most = omega arith; held = later_held is x (code_by b is x) h.1 a }

pub coded : (b n : ℕ) (is : List Item) (x : List Value) → items_formed b n is ≡ true → AllWithin is x → Coded b n is x
coded b n [] x e a = let k : n ≡ 1 = eqb-true n 1 e in record { least = omega arith; most = omega arith; held = tt }
coded b n (low f m ∷ is) x e a =
    let h : LowFormed b n m is = low_formed b n m is e in
    let v : the x f < m = a.0 in
    record {
      least = omega arith;
      most = omega (arith, h.count);
      held = (low_bits b m (the x f) h.starts v, later_held is x (b + the x f) h.later a.1);
    }
coded b n (num f w ∷ is) x e a = one_code b n (num f w ∷ is) x refl e a
coded b n (cap f w m ∷ is) x e a = one_code b n (cap f w m ∷ is) x refl e a
coded b n (duo f g ∷ is) x e a = one_code b n (duo f g ∷ is) x refl e a
coded b n (skip w ∷ is) x e a = one_code b n (skip w ∷ is) x refl e a

-- AND BACK: of the codes of the row, the one with the low bits of t is t's ten low bits
same_code : (b n : ℕ) (is : List Item) (c : ℕ) → eqb n 1 && later_formed is ≡ true → b ≤ c → c < b + n → b ≡ c
same_code b n is c e h k = let l : n ≡ 1 = eqb-true n 1 ((and_is (eqb n 1) (later_formed is)).0 e).0 in omega arith

low_code : (b m t : ℕ) → b % m ≡ 0 → 1024 % m ≡ 0 → b ≤ t % 1024 → t % 1024 < b + m → b + t % m ≡ t % 1024
low_code b m t e f h k =
    let v : ℕ = t % 1024 - b in
    let c : t % 1024 ≡ b + v = omega arith in
    let d : t % m ≡ v = sym (mod-mod_of_dvd m t (dvd_of_mod-eq-zero m f)) ∙ ap (λ (j : ℕ). j % m) c ∙ low_bits b m v e (omega arith) in
    ap (λ (j : ℕ). b + j) d ∙ sym c

-- the low bits of t are where the row has them
abbrev pub LowOf : List Item → List Value → ℕ → Type 0
LowOf [] x t = Unit {0}
LowOf (low f m ∷ is) x t = the x f ≡ t % m
LowOf (num f w ∷ is) x t = Unit {0}
LowOf (cap f w m ∷ is) x t = Unit {0}
LowOf (duo f g ∷ is) x t = Unit {0}
LowOf (skip w ∷ is) x t = Unit {0}

pub decoded :
    (b n : ℕ) (is : List Item) (x : List Value) (t : ℕ) → items_formed b n is ≡ true → LowOf is x t → b ≤ t % 1024 → t % 1024 < b + n → code_by b is x ≡ t % 1024
decoded b n [] x t e l h k = let o : n ≡ 1 = eqb-true n 1 e in omega arith
decoded b n (low f m ∷ is) x t e l h k =
    let g : LowFormed b n m is = low_formed b n m is e in
    ap (λ (j : ℕ). b + j) l ∙ low_code b m t g.starts g.divides h (omega (arith, g.count))
decoded b n (num f w ∷ is) x t e l h k = same_code b n (num f w ∷ is) (t % 1024) e h k
decoded b n (cap f w m ∷ is) x t e l h k = same_code b n (cap f w m ∷ is) (t % 1024) e h k
decoded b n (duo f g ∷ is) x t e l h k = same_code b n (duo f g ∷ is) (t % 1024) e h k
decoded b n (skip w ∷ is) x t e l h k = same_code b n (skip w ∷ is) (t % 1024) e h k

-- an allowed length holds code and items
pub long_enough : (t : Tail) (h : ℕ) (x : List Value) (n : ℕ) → tail_formed t h ≡ true → 2 ≤ n → Length t h x n → h ≤ n
long_enough none h x n e m l = omega arith
long_enough (by f) h x n e m l = omega arith
long_enough (twice f) h x n e m l = omega arith
long_enough (between lo hi) h x n e m l = omega arith
long_enough (group f) h x n e m l = let k : h ≡ 2 = eqb-true h 2 e in omega arith
