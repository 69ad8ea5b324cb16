-- The bytes of a row's items: how many they are, and that the fields are read back from them.
use Rattle.octets.proofs.Kit.{ℕ, ◌+◌, ◌%◌, ◌^◌, ◌≤◌, ◌<◌, ◌≡◌, refl, sym, ap, ap₂, ◌∙◌, true, List, [], ◌∷◌, ◌++◌, append_assoc, add-zero, arith, length, length-append}
use Rattle.octets.{specs.Bytes.{num_at, bytes_of}, proofs.Numbers.{num_back, length_bytes}}
use Rattle.pdu.specs.{Item.{Name, Item, low, num, cap, duo, skip, Row, Value, ◌≔◌, the}, Table.has}
use Rattle.pdu.specs.{Rules.{code_of, low_at, four_at, twelve_at, values_at, end_of, head_of, code_for, pair_of, ignored, item_bytes, head_bytes}, Allows.AllWithin}
use Rattle.pdu.proofs.{Formed.{Formed, Held, Coded, coded}, Sound.chosen, promises.Codes.has_is}

-- the items end where their bytes do
end_more : (w v : ℕ) (l : List ℕ) (at e : ℕ) → e ≡ at + w + length l → e ≡ at + length (bytes_of w v ++ l)
end_more w v l at e h = omega (arith, length-append (bytes_of w v) l, length_bytes w v)

end_items : (is : List Item) (x : List Value) (at : ℕ) → end_of at is ≡ at + length (item_bytes is x)
end_items [] x at = sym (add-zero at)
end_items (low f m ∷ is) x at = end_items is x at
end_items (num f w ∷ is) x at = end_more w (the x f) (item_bytes is x) at (end_of (at + w) is) (end_items is x (at + w))
end_items (cap f w m ∷ is) x at = end_more w (the x f) (item_bytes is x) at (end_of (at + w) is) (end_items is x (at + w))
end_items (duo f g ∷ is) x at = end_more 2 (pair_of (the x f) (the x g)) (item_bytes is x) at (end_of (at + 2) is) (end_items is x (at + 2))
end_items (skip w ∷ is) x at = end_more w ignored (item_bytes is x) at (end_of (at + w) is) (end_items is x (at + w))

-- CODE AND ITEMS FILL THE BYTES BEFORE THE DATA, which are two at least
pub length_head : (r : Row) (x : List Value) → length (head_bytes r x) ≡ head_of r
unfolding head_bytes
length_head r x = omega (arith, length-append (bytes_of 2 (code_for r x)) (item_bytes r.items x), length_bytes 2 (code_for r x), end_items r.items x 2)

pub two_or_more : (r : Row) (x : List Value) → 2 ≤ head_of r
two_or_more r x = omega (arith, end_items r.items x 2)

-- s is a, then the bytes of a number, then the rest
module _ (s a : List ℕ) (at w v : ℕ) (b t : List ℕ) (e : s ≡ a ++ ((bytes_of w v ++ b) ++ t)) (l : length a ≡ at) where
  number_here : v < 256 ^ w → num_at s at w ≡ v
  number_here h =
      ap₂ (λ (u : List ℕ) (k : ℕ). num_at u k w) (e ∙ ap (λ (u : List ℕ). a ++ u) (append_assoc (bytes_of w v) b t)) (sym l)
      ∙ num_back w v a (b ++ t) h

  rest : s ≡ (a ++ bytes_of w v) ++ (b ++ t)
  rest = e ∙ ap (λ (u : List ℕ). a ++ u) (append_assoc (bytes_of w v) b t) ∙ sym (append_assoc a (bytes_of w v) (b ++ t))

  further : length (a ++ bytes_of w v) ≡ at + w
  further = omega (arith, length-append a (bytes_of w v), length_bytes w v)

field : (f : Name) (m n : ℕ) (x y : List Value) → m ≡ n → x ≡ y → f ≔ m ∷ x ≡ f ≔ n ∷ y
field f m n x y p q = ap₂ (λ (k : ℕ) (z : List Value). f ≔ k ∷ z) p q

-- four bits and twelve are read back from the number that they make
duo_back : (s : List ℕ) (at x y : ℕ) → x < 16 → y < 4096 → num_at s at 2 ≡ pair_of x y → (four_at s at ≡ x) × (twelve_at s at ≡ y)
unfolding four_at twelve_at
duo_back s at x y p q e = (omega arith, omega arith)

-- THE LAW OF THE ITEMS: fields that fit their places are read back
values_back :
    (is : List Item) (x : List Value) (c : ℕ) (s a t : List ℕ) (at : ℕ) →
    s ≡ a ++ (item_bytes is x ++ t) → length a ≡ at → num_at s 0 2 ≡ c → Held is x c → values_at is at s ≡ chosen is x
unfolding low_at
values_back [] x c s a t at e l n h = refl
values_back (low f m ∷ is) x c s a t at e l n h =
    field f (num_at s 0 2 % m) (the x f) (values_at is at s) (chosen is x) (ap (λ (k : ℕ). k % m) n ∙ h.0) (values_back is x c s a t at e l n h.1)
values_back (num f w ∷ is) x c s a t at e l n h =
    let v : ℕ = the x f in
    field f (num_at s at w) v (values_at is (at + w) s) (chosen is x) (number_here s a at w v (item_bytes is x) t e l h.0)
    (values_back is x c s (a ++ bytes_of w v) t (at + w) (rest s a at w v (item_bytes is x) t e l) (further s a at w v (item_bytes is x) t e l) n h.1)
values_back (cap f w m ∷ is) x c s a t at e l n h =
    let v : ℕ = the x f in
    field f (num_at s at w) v (values_at is (at + w) s) (chosen is x) (number_here s a at w v (item_bytes is x) t e l h.0)
    (values_back is x c s (a ++ bytes_of w v) t (at + w) (rest s a at w v (item_bytes is x) t e l) (further s a at w v (item_bytes is x) t e l) n h.1)
values_back (duo f g ∷ is) x c s a t at e l n h =
    let v : ℕ = pair_of (the x f) (the x g) in
    let p = h.0 in
    let q = h.1 in
    let d = duo_back s at (the x f) (the x g) p q (number_here s a at 2 v (item_bytes is x) t e l (omega arith)) in
    field f (four_at s at) (the x f) (g ≔ twelve_at s at ∷ values_at is (at + 2) s) (g ≔ the x g ∷ chosen is x) d.0
    (field g (twelve_at s at) (the x g) (values_at is (at + 2) s) (chosen is x) d.1
    (values_back is x c s (a ++ bytes_of 2 v) t (at + 2) (rest s a at 2 v (item_bytes is x) t e l) (further s a at 2 v (item_bytes is x) t e l) n h.2))
values_back (skip w ∷ is) x c s a t at e l n h =
    values_back is x c s (a ++ bytes_of w ignored) t (at + w) (rest s a at w ignored (item_bytes is x) t e l) (further s a at w ignored (item_bytes is x) t e l) n h

-- THE LAW OF THE ROW: of allowed fields, the bytes hold a code of the row, and the fields
pub record RowBack (r : Row) (x : List Value) (s : List ℕ) : Type 0 where
  pub code : has r (code_of s) ≡ true
  pub values : values_at r.items 2 s ≡ chosen r.items x

pub row_back : (r : Row) (x : List Value) (d : List ℕ) → Formed r → AllWithin r.items x → RowBack r x (head_bytes r x ++ d)
unfolding head_bytes
row_back r x d o w =
    let c : ℕ = code_for r x in
    let i : List ℕ = item_bytes r.items x in
    let s : List ℕ = (bytes_of 2 c ++ i) ++ d in
    let g : Coded r.base r.span r.items x = coded r.base r.span r.items x o.items_ok w in
    let lo : r.base ≤ c = g.least in
    let hi : c < r.base + r.span = g.most in
    let sm : r.base + r.span ≤ 1024 = o.small in
    let n : num_at s 0 2 ≡ c = number_here s [] 0 2 c i d refl refl (omega arith) in
    record {
      code = (has_is r (code_of s)).1 (omega arith, omega arith);
      values = values_back r.items x c s (bytes_of 2 c) d 2 (append_assoc (bytes_of 2 c) i d) (length_bytes 2 c) n g.held;
    }
