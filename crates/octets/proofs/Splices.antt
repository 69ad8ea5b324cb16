-- Laws of a run of bytes replaced.
use Rattle.octets.proofs.Kit.{◌≡◌, refl, sym, ap, ◌∙◌, List, [], ◌∷◌, ◌++◌, append_assoc, append-nil, ◌⊎◌, inl, inr, Bool, true, false, cond, ℕ, suc, ◌+◌, ◌-◌, ◌^◌, ◌≤◌, ◌<◌, arith}
use Rattle.octets.proofs.Kit.{add-zero, add_assoc, add-one, length, take, drop, get_or, set, length-append, length-take, length-drop, take-append-drop, List·getD-append, set_split}
use Rattle.octets.proofs.Kit.{append_snoc, get_or-take, get_or-drop, get_or-append-add, length-take-le, take_at, drop-append-add, drop-drop, ext_get_or}
use Rattle.octets.specs.{Bytes.{num_at, bytes_of}, Splice.splice}
use Rattle.octets.proofs.Numbers.{num_same, num_back}

-- nothing replaced
pub splice_none : (s : List ℕ) (o : ℕ) → splice s o [] ≡ s
unfolding splice
splice_none s o = rw (add-zero o, append-nil) (take-append-drop o s)

module _ (s : List ℕ) (o : ℕ) (ds : List ℕ) (h : o + length ds ≤ length s) where
  pub length_splice : length (splice s o ds) ≡ length s
  unfolding splice
  length_splice = simp (length-append, length-take, length-drop) (omega arith)

  -- inside the run
  pub splice_in : (i : ℕ) → i < length ds → get_or (splice s o ds) (o + i) 0 ≡ get_or ds i 0
  unfolding splice
  splice_in i k =
      let e : length (take o s) ≡ o = length-take-le o s (omega arith) in
      List·getD-append (take o s ++ ds) (drop (o + length ds) s) 0 (o + i) (simp (length-append, e) (omega arith))
      ∙ ap (λ (n : ℕ). get_or (take o s ++ ds) (n + i) 0) (sym e)
      ∙ get_or-append-add (take o s) ds i 0

  -- outside it
  pub splice_below : (i : ℕ) → i < o → get_or (splice s o ds) i 0 ≡ get_or s i 0
  unfolding splice
  splice_below i k =
      let e : length (take o s) ≡ o = length-take-le o s (omega arith) in
      List·getD-append (take o s ++ ds) (drop (o + length ds) s) 0 i (simp (length-append, e) (omega arith))
      ∙ List·getD-append (take o s) ds 0 i (simp e k)
      ∙ get_or-take o s i 0 k

  pub splice_above : (i : ℕ) → o + length ds ≤ i → get_or (splice s o ds) i 0 ≡ get_or s i 0
  unfolding splice
  splice_above i k =
      let e : length (take o s) ≡ o = length-take-le o s (omega arith) in
      let f : length (take o s ++ ds) ≡ o + length ds = simp (length-append, e) in
      let g : i ≡ length (take o s ++ ds) + (i - (o + length ds)) = omega (arith, f) in
      ap (λ (n : ℕ). get_or (take o s ++ ds ++ drop (o + length ds) s) n 0) g
      ∙ get_or-append-add (take o s ++ ds) (drop (o + length ds) s) (i - (o + length ds)) 0
      ∙ get_or-drop (o + length ds) s (i - (o + length ds)) 0
      ∙ ap (λ (n : ℕ). get_or s n 0) (omega arith)

  pub splice_outside : (i : ℕ) → (i < o) ⊎ (o + length ds ≤ i) → get_or (splice s o ds) i 0 ≡ get_or s i 0
  splice_outside i (inl k) = splice_below i k
  splice_outside i (inr k) = splice_above i k

  -- what stands at p: the run's byte, or the old one, as a test says
  pub splice_at : (p : ℕ) (t : Bool) → (t ≡ true → (o ≤ p) × (p < o + length ds)) → (t ≡ false → (p < o) ⊎ (o + length ds ≤ p))
      → get_or (splice s o ds) p 0 ≡ cond t (get_or ds (p - o) 0) (get_or s p 0)
  splice_at p true f g =
      let k = f refl in
      let e : p ≡ o + (p - o) = omega arith in
      ap (λ (n : ℕ). get_or (splice s o ds) n 0) e ∙ splice_in (p - o) (omega arith)
  splice_at p false f g = splice_outside p (g refl)

  -- the run read back
  pub splice_read : take (length ds) (drop o (splice s o ds)) ≡ ds
  splice_read =
      ext_get_or 0 (take (length ds) (drop o (splice s o ds))) ds
      (simp (length-take, length-drop, length_splice) (omega arith))
      (λ i k.
      let l : i < length ds = omega (arith, simp (length-take, length-drop, length_splice) at k) in
      get_or-take (length ds) (drop o (splice s o ds)) i 0 l ∙ get_or-drop o (splice s o ds) i 0 ∙ splice_in i l)

-- a second run right after the first is one longer run
pub splice_more : (s : List ℕ) (o : ℕ) (xs ys : List ℕ) → o ≤ length s → splice (splice s o xs) (o + length xs) ys ≡ splice s o (xs ++ ys)
unfolding splice
splice_more s o xs ys h =
    let a : List ℕ = take o s ++ xs in
    let m : ℕ = o + length xs in
    let f : length a ≡ m = simp (length-append, length-take-le o s h) in
    let g : drop (m + length ys) (a ++ drop m s) ≡ drop (m + length ys) s =
    ap (λ (n : ℕ). drop (n + length ys) (a ++ drop m s)) (sym f) ∙ drop-append-add a (drop m s) (length ys) ∙ drop-drop (length ys) m s
    in
    rw (take_at a (drop m s) m f, g) (simp (append_assoc, length-append, add_assoc))

-- a run from the first byte on
pub splice_front : (s ds : List ℕ) → splice s 0 ds ≡ ds ++ drop (length ds) s
unfolding splice
splice_front s ds = rw (native.Mathlib.Nat.zero-add (length ds))

-- one byte stored
pub splice_one : (s : List ℕ) (i x : ℕ) → i < length s → set s i x ≡ splice s i (x ∷ [])
unfolding splice
splice_one s i x h = rw (add-one i) (set_split s i x h ∙ sym (append_snoc (take i s) x (drop (suc i) s)))

-- a number spliced in is read back
pub splice_num :
    (s : List ℕ) (o w x : ℕ) → o + w ≤ length s → x < 256 ^ w → num_at (splice s o (bytes_of w x)) o w ≡ x
unfolding splice
splice_num s o w x h l =
    let e : length (take o s) ≡ o = length-take-le o s (omega arith) in
    ap (λ (t : List ℕ). num_at t o w) (append_assoc (take o s) (bytes_of w x) (drop (o + length (bytes_of w x)) s))
    ∙ ap (λ (n : ℕ). num_at (take o s ++ (bytes_of w x ++ drop (o + length (bytes_of w x)) s)) n w) (sym e)
    ∙ num_back w x (take o s) (drop (o + length (bytes_of w x)) s) l

-- a number that no byte of the run is part of stays
pub splice_num_outside :
    (s : List ℕ) (o : ℕ) (ds : List ℕ) → o + length ds ≤ length s → (p w : ℕ) → (p + w ≤ o) ⊎ (o + length ds ≤ p) →
    num_at (splice s o ds) p w ≡ num_at s p w
splice_num_outside s o ds h p w (inl k) =
    num_same (splice s o ds) s p p w (λ i l. splice_below s o ds h (p + i) (omega arith))
splice_num_outside s o ds h p w (inr k) =
    num_same (splice s o ds) s p p w (λ i l. splice_above s o ds h (p + i) (omega arith))
