-- EACH NUMBER OF A READING AND OF A WRITING EXACTLY WHEN IT IS DUE.
use Rattle.octets.proofs.Kit.{ℕ, ◌+◌, ◌*◌, ◌/◌, ◌%◌, ◌≤◌, ◌<◌, ◌≡◌, refl, sym, ap, subst, ◌∙◌, Bool, true, false, cond, ◌&&◌, inl, inr, List, arith, length, get_or, ltb, leb, eqb, ℤ, pos}
use Rattle.octets.proofs.Kit.{negsuc, Float, nan, inf, fin, binary32, of_bits, lt-ltb, le-ltb, lt-leb, eq-eqb, ne_eqb, eqb-true, eqb-false, leb-false}
use Rattle.octets.{specs.{Bytes.num_at, Octets.{Octets, ReadFrom}}, proofs.{Numbers.{num_one, num_two, num_below}, Walks.{by_lt, by_eq}}}
use Rattle.points.specs.{Nine.{res, in_range}, Point.{type_of, width_at, finite, point_at, read_point, read_outcome, refusal_of, write_outcome, Put}, Due.{Wide, Invalid, Unbounded, ReadDue}}
use Rattle.points.specs.Due.{no_type, wrong_length, bits_above, invalid, unbounded, switch, byte, hundredths, float, OutOfRange, NotFinite, Sized, Writable, WriteDue, other_length}
use Rattle.points.specs.{Due.{out_of_range, not_finite, written}, declared.{Datapoint.{Datapoint, TheVariants.{Switch, Byte, Hundredths, Float as Single}}, Refusal.Refusal}}
use Rattle.std.specs.Prelude.{Result, Ok, Err}
use Rattle.points.specs.declared.Refusal.TheVariants as why
use Rattle.points.proofs.Laws.{read_25, read_20, read_is}

num_four : (b : List ℕ) → num_at b 0 4 ≡ ((get_or b 0 0 * 256 + get_or b 1 0) * 256 + get_or b 2 0) * 256 + get_or b 3 0
unfolding num_at
num_four b = omega arith

-- the bits of a float by its bytes
module _ (b : List ℕ) (small : Octets b) where
  set_bits : Unbounded b → 255 ≤ num_at b 0 4 / 8388608 % 256
  set_bits u = omega (arith, num_four b, small 0, small 1, small 2, small 3, u.0, u.1)

  clear_bits : 255 ≤ num_at b 0 4 / 8388608 % 256 → Unbounded b
  clear_bits h =
      (omega (arith, num_four b, small 0, small 1, small 2, small 3, h), omega (arith, num_four b, small 0, small 1, small 2, small 3, h))

  set_word : Invalid b → num_at b 0 2 ≡ 32767
  set_word u = omega (arith, num_two b 0, u.0, u.1)

  clear_word : num_at b 0 2 ≡ 32767 → Invalid b
  clear_word h = (omega (arith, num_two b 0, small 0, small 1, h), omega (arith, num_two b 0, small 0, small 1, h))

wide_is : (t w : ℕ) → Wide t w → (w ≡ width_at t) × (w ≡ 0 → ⊥)
wide_is t w (inl h) = (rw (h.0, h.1) refl, λ z. omega (arith, z, h.1))
wide_is t w (inr (inl h)) = (rw (h.0, h.1) refl, λ z. omega (arith, z, h.1))
wide_is t w (inr (inr (inl h))) = (rw (h.0, h.1) refl, λ z. omega (arith, z, h.1))
wide_is t w (inr (inr (inr h))) = (rw (h.0, h.1) refl, λ z. omega (arith, z, h.1))

no_width : (t : ℕ) → (t ≡ 1 → ⊥) → (t ≡ 5 → ⊥) → (t ≡ 9 → ⊥) → (t ≡ 14 → ⊥) → 0 ≡ width_at t
no_width t a b c d = simp (ne_eqb t 1 a, ne_eqb t 5 b, ne_eqb t 9 c, ne_eqb t 14 d)

module _ (t : ℕ) (b : List ℕ) (small : Octets b) where
  abbrev Is-due : Result Datapoint Refusal → Type 0
  Is-due r = ReadDue t b (read_outcome r)

  -- in a type with w bytes
  module _ (k w : ℕ) (e : t ≡ k) (x : Wide t w) where
    here : length b ≡ w → point_at k (num_at b 0 w) ≡ read_point t b
    here l =
        read_is t w (num_at b 0 w) b (point_at k (num_at b 0 w)) (wide_is t w x).0 (wide_is t w x).1 l
        (record { value = refl; below = num_below b 0 w small })
        (ap (λ (j : ℕ). point_at j (num_at b 0 w)) (sym e))

    due_in : (length b ≡ w → Is-due (point_at k (num_at b 0 w))) → Is-due (read_point t b)
    due_in f = go (eqb (length b) w) refl
      where
        go : (q : Bool) → eqb (length b) w ≡ q → Is-due (read_point t b)
        go true h = let l = eqb-true (length b) w h in subst Is-due (here l) (f l)
        go false h =
            let l = eqb-false (length b) w h in
            subst Is-due (read_20 t w b (wide_is t w x).0 (wide_is t w x).1 l) (wrong_length w x l)

    one_in : (r : Result Datapoint Refusal) → length b ≡ w → r ≡ point_at k (num_at b 0 w) → read_outcome r ≡ read_outcome (read_point t b)
    one_in r l h = ap read_outcome (h ∙ here l)

  due_read : Is-due (read_point t b)
  due_read = go (eqb t 1) (eqb t 5) (eqb t 9) (eqb t 14) refl refl refl refl
    where
      go : (p q r s : Bool) → eqb t 1 ≡ p → eqb t 5 ≡ q → eqb t 9 ≡ r → eqb t 14 ≡ s → Is-due (read_point t b)
      go true q r s h i j k =
          let e = eqb-true t 1 h in
          due_in 1 1 e (inl (e, refl))
          (λ l. by_lt Is-due (num_at b 0 1) 2 _ _ (λ m. switch e l (omega (arith, num_one b 0, m))) (λ m. bits_above e l (omega (arith, num_one b 0, m))))
      go false true r s h i j k = let e = eqb-true t 5 i in due_in 5 1 e (inr (inl (e, refl))) (λ l. byte e l)
      go false false true s h i j k =
          let e = eqb-true t 9 j in
          due_in 9 2 e (inr (inr (inl (e, refl))))
          (λ l. by_eq Is-due (num_at b 0 2) 32767 _ _ (λ m. invalid e l (clear_word b small m)) (λ m. hundredths e l (λ u. m (set_word b small u))))
      go false false false true h i j k =
          let e = eqb-true t 14 k in
          due_in 14 4 e (inr (inr (inr (e, refl))))
          (λ l. by_lt Is-due (num_at b 0 4 / 8388608 % 256) 255 _ _ (λ m. float e l (λ u. omega (arith, m, set_bits b small u))) (λ m. unbounded e l (clear_bits b small m)))
      go false false false false h i j k =
          let a₁ = eqb-false t 1 h in
          let a₂ = eqb-false t 5 i in
          let a₃ = eqb-false t 9 j in
          let a₄ = eqb-false t 14 k in
          subst Is-due (read_25 t 0 b (no_width t a₁ a₂ a₃ a₄) refl) (no_type a₁ a₂ a₃ a₄)

  one_read : (n : ℕ) → ReadDue t b n → n ≡ read_outcome (read_point t b)
  one_read n (no_type a₁ a₂ a₃ a₄) = ap read_outcome (read_25 t 0 b (no_width t a₁ a₂ a₃ a₄) refl)
  one_read n (wrong_length w x l) = ap read_outcome (read_20 t w b (wide_is t w x).0 (wide_is t w x).1 l)
  one_read n (bits_above e l h) =
      one_in 1 1 e (inl (e, refl)) (Err why.Bits) l (let m : 2 ≤ num_at b 0 1 = omega (arith, num_one b 0, h) in simp (le-ltb (num_at b 0 1) 2 m))
  one_read n (switch e l h) =
      one_in 1 1 e (inl (e, refl)) (Ok (Switch (eqb (num_at b 0 1) 1))) l (let m : num_at b 0 1 < 2 = omega (arith, num_one b 0, h) in simp (lt-ltb (num_at b 0 1) 2 m))
  one_read n (byte e l) = one_in 5 1 e (inr (inl (e, refl))) (Ok (Byte (num_at b 0 1))) l refl
  one_read n (invalid e l u) = one_in 9 2 e (inr (inr (inl (e, refl)))) (Err why.Invalid) l (simp (eq-eqb (num_at b 0 2) 32767 (set_word b small u)))
  one_read n (hundredths e l u) =
      one_in 9 2 e (inr (inr (inl (e, refl)))) (Ok (Hundredths (res (num_at b 0 2)))) l (simp (ne_eqb (num_at b 0 2) 32767 (λ m. u (clear_word b small m))))
  one_read n (unbounded e l u) =
      one_in 14 4 e (inr (inr (inr (e, refl)))) (Err why.Infinite) l (simp (le-ltb (num_at b 0 4 / 8388608 % 256) 255 (set_bits b small u)))
  one_read n (float e l u) =
      let m : ℕ = num_at b 0 4 / 8388608 % 256 in
      let h = must_hold (ltb m 255) (λ h. u (clear_bits b small (borrow.Author.Tests.ltb-false m 255 h))) in
      one_in 14 4 e (inr (inr (inr (e, refl)))) (Ok (Single (of_bits binary32 (num_at b 0 4)))) l (simp h)
    where
      must_hold : (q : Bool) → (q ≡ false → ⊥) → q ≡ true
      must_hold true f = refl
      must_hold false f = absurd (f refl)

-- OF A CALL OF READING: its number is due, and no other is
module _ (t : ℕ) (b : List ℕ) (r : Result Datapoint Refusal) (call : ReadFrom b r (read_point t b)) where
  pub read_due : ReadDue t b (read_outcome r)
  read_due = subst (λ (x : Result Datapoint Refusal). ReadDue t b (read_outcome x)) (sym call.is) (due_read t b call.bytes)

  pub read_one : (n : ℕ) → ReadDue t b n → n ≡ read_outcome r
  read_one n h = one_read t b call.bytes n h ∙ ap read_outcome (sym call.is)

-- what is against a datapoint of its own
out_of : (z : ℤ) → OutOfRange z → in_range z ≡ false
out_of (pos m) h = lt-leb m 67043328 h
out_of (negsuc n) h = ap (λ (q : Bool). q && true) (lt-leb n 67108863 (omega (arith, h)))

in_range_lem : (z : ℤ) → in_range z ≡ false → OutOfRange z
in_range_lem (pos m) h = leb-false m 67043328 h
in_range_lem (negsuc n) h = let k = leb-false n 67108863 (go (leb n 67108863) h) in omega (arith, k)
  where
    go : (q : Bool) → (q && true) ≡ false → q ≡ false
    go true e = e
    go false e = refl

endless : (x : Float) → NotFinite x → finite x ≡ false
endless nan h = refl
endless (inf s) h = refl
endless (fin s m e) h = absurd h

finished : (x : Float) → finite x ≡ false → NotFinite x
finished nan h = tt
finished (inf s) h = tt
finished (fin s m e) h = mathlib.Core.Bool.true≢false h

sized_is : (d : Datapoint) (w : ℕ) → Sized d w → w ≡ width_at (type_of d)
sized_is (Switch on) w h = h
sized_is (Byte n) w h = h
sized_is (Hundredths z) w h = h
sized_is (Single x) w h = h

is_sized : (d : Datapoint) (w : ℕ) → w ≡ width_at (type_of d) → Sized d w
is_sized (Switch on) w h = h
is_sized (Byte n) w h = h
is_sized (Hundredths z) w h = h
is_sized (Single x) w h = h

writable_is : (d : Datapoint) → Writable d → 0 ≡ refusal_of d
writable_is (Switch on) h = refl
writable_is (Byte n) h = refl
writable_is (Hundredths z) h = go (in_range z) (λ e. h (in_range_lem z e))
  where
    go : (q : Bool) → (q ≡ false → ⊥) → ◌≡◌ {A = ℕ} 0 (cond q 0 23)
    go true f = refl
    go false f = absurd (f refl)
writable_is (Single x) h = go (finite x) (λ e. h (finished x e))
  where
    go : (q : Bool) → (q ≡ false → ⊥) → ◌≡◌ {A = ℕ} 0 (cond q 0 24)
    go true f = refl
    go false f = absurd (f refl)

due_own : (d : Datapoint) (w : ℕ) → Sized d w → WriteDue d w (refusal_of d)
due_own (Switch on) w s = written s tt
due_own (Byte n) w s = written s tt
due_own (Hundredths z) w s = go (in_range z) refl
  where
    go : (q : Bool) → in_range z ≡ q → WriteDue (Hundredths z) w (cond q 0 23)
    go true e = written s (λ h. mathlib.Core.Bool.true≢false (sym e ∙ out_of z h))
    go false e = out_of_range z refl s (in_range_lem z e)
due_own (Single x) w s = go (finite x) refl
  where
    go : (q : Bool) → finite x ≡ q → WriteDue (Single x) w (cond q 0 24)
    go true e = written s (λ h. mathlib.Core.Bool.true≢false (sym e ∙ endless x h))
    go false e = not_finite x refl s (finished x e)

module _ (d : Datapoint) (o : List ℕ) where
  due_write : WriteDue d (length o) (write_outcome d o)
  due_write =
      by_eq (WriteDue d (length o)) (length o) (width_at (type_of d)) _ _ (λ e. due_own d (length o) (is_sized d (length o) e))
      (λ h. other_length (λ s. h (sized_is d (length o) s)))

  sized_one : (n : ℕ) → Sized d (length o) → n ≡ refusal_of d → n ≡ write_outcome d o
  sized_one n s e = e ∙ sym (ap (λ (q : Bool). cond q (refusal_of d) 20) (eq-eqb (length o) (width_at (type_of d)) (sized_is d (length o) s)))

  one_write : (n : ℕ) → WriteDue d (length o) n → n ≡ write_outcome d o
  one_write n (other_length h) =
      sym (ap (λ (q : Bool). cond q (refusal_of d) 20) (ne_eqb (length o) (width_at (type_of d)) (λ e. h (is_sized d (length o) e))))
  one_write n (out_of_range z e s h) =
      sized_one 23 (subst (λ (x : Datapoint). Sized x (length o)) (sym e) s) (ap (λ (q : Bool). cond q 0 23) (sym (out_of z h)) ∙ ap refusal_of (sym e))
  one_write n (not_finite x e s h) =
      sized_one 24 (subst (λ (y : Datapoint). Sized y (length o)) (sym e) s) (ap (λ (q : Bool). cond q 0 24) (sym (endless x h)) ∙ ap refusal_of (sym e))
  one_write n (written s h) = sized_one 0 s (writable_is d h)

-- OF A CALL OF WRITING: its number is due, and no other is
module _ (d : Datapoint) (o e : List ℕ) (r : ℕ) (call : Put d o r e) where
  pub write_due : WriteDue d (length o) r
  write_due = subst (WriteDue d (length o)) (sym call.result) (due_write d o)

  pub write_one : (n : ℕ) → WriteDue d (length o) n → n ≡ r
  write_one n h = one_write d o n h ∙ sym call.result
