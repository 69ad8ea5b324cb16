-- The bytes of fields that stand in an APDU are the APDU's own, but for those of no meaning, which are 0.
use Rattle.octets.proofs.Kit.{ℕ, ◌+◌, ◌-◌, ◌/◌, ◌%◌, ◌≤◌, ◌<◌, ◌≡◌, ap, ap₂, ◌∙◌, ◌⊎◌, inl, inr, ⊎_elim, List, [], ◌∷◌, ◌++◌, append_assoc, arith, dec_lt, length, get_or, drop, length-append}
use Rattle.octets.proofs.Kit.{length-drop, List·getD-append, get_or-replicate, get_or-drop, get_or-append-add}
use Rattle.octets.{specs.{Bytes.{num_at, bytes_of}, Octets.Octets}, proofs.Numbers.{length_bytes, bytes_back, bytes_zero, bytes_two, num_two}}
use Rattle.pdu.specs.{Item.{Item, low, num, cap, duo, skip, Row, Value, the}, Rules.{code_of, end_of, head_of, code_for, four_at, twelve_at, pair_of, ignored, item_bytes, head_bytes}}
use Rattle.pdu.specs.Cleared.{Skipped, Cleared}
use Rattle.pdu.proofs.{Stands.Stands, Items.length_head}

-- bytes of no meaning stand from the items' place on
skipped_after : (is : List Item) (at j : ℕ) → Skipped is at j → at ≤ j
skipped_after [] at j s = absurd s
skipped_after (low f m ∷ is) at j s = skipped_after is at j s
skipped_after (num f w ∷ is) at j s = omega (arith, skipped_after is (at + w) j s)
skipped_after (cap f w m ∷ is) at j s = omega (arith, skipped_after is (at + w) j s)
skipped_after (duo f g ∷ is) at j s = omega (arith, skipped_after is (at + 2) j s)
skipped_after (skip w ∷ is) at j (inl s) = s.0
skipped_after (skip w ∷ is) at j (inr s) = omega (arith, skipped_after is (at + w) j s)

-- s is b from place `at` on, with 0 at the places that S names
abbrev Kept : (ℕ → Type 0) → List ℕ → ℕ → List ℕ → ℕ → Type 0
Kept S b at s j = (S (at + j) → get_or s j 0 ≡ 0) × ((S (at + j) → ⊥) → get_or s j 0 ≡ get_or b (at + j) 0)

-- the bytes of a number in front of others
module _ (w v : ℕ) (l : List ℕ) where
  in_front : (j : ℕ) → j < w → get_or (bytes_of w v ++ l) j 0 ≡ get_or (bytes_of w v) j 0
  in_front j h = List·getD-append (bytes_of w v) l 0 j (rw (length_bytes w v) h)

  behind : (j : ℕ) → (j < w → ⊥) → get_or (bytes_of w v ++ l) j 0 ≡ get_or l (j - w) 0
  behind j h =
      let e : j ≡ length (bytes_of w v) + (j - w) = omega (arith, length_bytes w v) in
      ap (λ (k : ℕ). get_or (bytes_of w v ++ l) k 0) e ∙ get_or-append-add (bytes_of w v) l (j - w) 0

kept_behind : (S : ℕ → Type 0) (b : List ℕ) (at w v : ℕ) (l : List ℕ) (j : ℕ) → (j < w → ⊥) → Kept S b (at + w) l (j - w) → Kept S b at (bytes_of w v ++ l) j
kept_behind S b at w v l j h k =
    let e : at + w + (j - w) ≡ at + j = omega arith in
    (λ s. behind w v l j h ∙ k.0 (rw e s), λ s. behind w v l j h ∙ k.1 (λ t. s (rw e at t)) ∙ ap (λ (i : ℕ). get_or b i 0) e)

-- a number that stands there, and bytes of no meaning
kept_number :
    (S : ℕ → Type 0) (b : List ℕ) (at w v : ℕ) (l r : List ℕ) →
    Octets b → v ≡ num_at b at w → ((j : ℕ) → S j → at + w ≤ j) → ((j : ℕ) → Kept S b (at + w) (l ++ r) j) → (j : ℕ) → Kept S b at (bytes_of w v ++ l ++ r) j
kept_number S b at w v l r small e after k j = rw (append_assoc (bytes_of w v) l r) (go (dec_lt j w))
  where
    go : Dec (j < w) → Kept S b at (bytes_of w v ++ (l ++ r)) j
    go (yes h) = (
      λ s. absurd (let a = after (at + j) s in omega arith),
      λ s. in_front w v (l ++ r) j h ∙ ap (λ (n : ℕ). get_or (bytes_of w n) j 0) e ∙ bytes_back b at w small j h,
    )
    go (no h) = kept_behind S b at w v (l ++ r) j h (k (j - w))

-- ignored bytes are written as zero
ignored_zero : (w j : ℕ) → j < w → get_or (bytes_of w ignored) j 0 ≡ 0
ignored_zero w j h = ap (λ (z : List ℕ). get_or z j 0) (bytes_zero w) ∙ get_or-replicate w j 0 0 h

kept_skip : (S : ℕ → Type 0) (b : List ℕ) (at w : ℕ) (l : List ℕ) → ((j : ℕ) → Kept S b (at + w) l j) → (j : ℕ) → Kept (λ (i : ℕ). ((at ≤ i) × (i < at + w)) ⊎ S i) b at (bytes_of w ignored ++ l) j
kept_skip S b at w l k j = go (dec_lt j w)
  where
    go : Dec (j < w) → Kept (λ (i : ℕ). ((at ≤ i) × (i < at + w)) ⊎ S i) b at (bytes_of w ignored ++ l) j
    go (yes h) = (
      λ s. in_front w ignored l j h ∙ ignored_zero w j h,
      λ s. absurd (s (inl (omega arith, omega arith))),
    )
    go (no h) =
        let m = kept_behind S b at w ignored l j h (k (j - w)) in
        (λ s. m.0 (⊎_elim (λ t. absurd (omega arith)) (λ t. t) s), λ s. m.1 (λ t. s (inr t)))

-- four bits and twelve make the number that they stand in
duo_kept : (b : List ℕ) (at : ℕ) → pair_of (four_at b at) (twelve_at b at) ≡ num_at b at 2
unfolding four_at twelve_at
duo_kept b at = omega arith

-- THE LAW OF THE ITEMS: their bytes and what follows are those that stood there, but for those of no meaning
kept_items :
    (is : List Item) (x : List Value) (at : ℕ) (b : List ℕ) → Octets b → Stands is x at b → (j : ℕ) → Kept (Skipped is at) b at (item_bytes is x ++ drop (end_of at is) b) j
kept_items [] x at b small s j = (λ h. absurd h, λ h. get_or-drop at b j 0)
kept_items (low f m ∷ is) x at b small s j = kept_items is x at b small s.1 j
kept_items (num f w ∷ is) x at b small s j =
    kept_number (Skipped is (at + w)) b at w (the x f) (item_bytes is x) _ small s.0 (skipped_after is (at + w)) (kept_items is x (at + w) b small s.1) j
kept_items (cap f w m ∷ is) x at b small s j =
    kept_number (Skipped is (at + w)) b at w (the x f) (item_bytes is x) _ small s.0 (skipped_after is (at + w)) (kept_items is x (at + w) b small s.1) j
kept_items (duo f g ∷ is) x at b small s j =
    let v = ap₂ pair_of s.0 s.1 ∙ duo_kept b at in
    kept_number (Skipped is (at + 2)) b at 2 _ (item_bytes is x) _ small v (skipped_after is (at + 2)) (kept_items is x (at + 2) b small s.2) j
kept_items (skip w ∷ is) x at b small s j =
    rw (append_assoc (bytes_of w ignored) (item_bytes is x) (drop (end_of (at + w) is) b))
    (kept_skip (Skipped is (at + w)) b at w (item_bytes is x ++ drop (end_of (at + w) is) b) (kept_items is x (at + w) b small s) j)

-- the two bytes of a code
code_bytes : (b : List ℕ) → Octets b → (code_of b / 256 % 256 ≡ get_or b 0 0 % 4) × (code_of b % 256 ≡ get_or b 1 0)
code_bytes b small = omega (arith, num_two b 0, small 0, small 1)

-- THE LAW OF THE ROW: the same of code, items and data
pub cleared :
    (r : Row) (x : List Value) (b : List ℕ) → Octets b → Stands r.items x 2 b → code_for r x ≡ code_of b → head_of r ≤ length b →
    Cleared r b (head_bytes r x ++ drop (head_of r) b)
unfolding head_bytes
cleared r x b small s e h =
    rw (append_assoc (bytes_of 2 (code_for r x)) (item_bytes r.items x) (drop (head_of r) b), e)
    record { as_long = as_long; first = first; skipped = skipped; kept = kept }
  where
    c : ℕ
    c = code_of b

    l : List ℕ
    l = item_bytes r.items x ++ drop (head_of r) b

    as_long : length (bytes_of 2 c ++ l) ≡ length b
    as_long = simp (length-append, length_bytes, length-drop) (omega (arith, simp (length-append, length_bytes) at (length_head r x)))

    first : get_or (bytes_of 2 c ++ l) 0 0 ≡ get_or b 0 0 % 4
    first = ap (λ (z : List ℕ). get_or (z ++ l) 0 0) (bytes_two c) ∙ (code_bytes b small).0

    skipped : (j : ℕ) → Skipped r.items 2 j → get_or (bytes_of 2 c ++ l) j 0 ≡ 0
    skipped j t =
        let a = skipped_after r.items 2 j t in
        let e : 2 + (j - 2) ≡ j = omega arith in
        behind 2 c l j (omega arith) ∙ (kept_items r.items x 2 b small s (j - 2)).0 (rw e t)

    kept : (j : ℕ) → 0 < j → (Skipped r.items 2 j → ⊥) → get_or (bytes_of 2 c ++ l) j 0 ≡ get_or b j 0
    kept j k t = go (dec_lt j 2)
      where
        go : Dec (j < 2) → get_or (bytes_of 2 c ++ l) j 0 ≡ get_or b j 0
        go (yes n) =
            let o : j ≡ 1 = omega arith in
            rw o (ap (λ (z : List ℕ). get_or (z ++ l) 1 0) (bytes_two c) ∙ (code_bytes b small).1)
        go (no n) =
            let e : 2 + (j - 2) ≡ j = omega arith in
            behind 2 c l j n ∙ (kept_items r.items x 2 b small s (j - 2)).1 (rw e t) ∙ ap (λ (i : ℕ). get_or b i 0) e
