-- What one write leaves as the count of a property: a byte that is counted then was counted before, or the write names it.
use Rattle.octets.proofs.Kit.{ℕ, ◌+◌, ◌*◌, ◌-◌, ◌<◌, ◌≤◌, max, ◌≡◌, refl, sym, subst, ◌∙◌, ◌⊎◌, inl, inr, Bool, true, false, ◌&&◌, List, [], ◌∷◌, ltb, leb, eqb, get_or, dec_lt}
use Rattle.octets.proofs.Kit.{mul-le-mul_right, arith, lt-ltb, le-leb, eq-eqb, ne_eqb, eqb-true}
use Rattle.octets.{specs.Bytes.bytes_of, proofs.Truths.{never, or_is}}
use Rattle.sheet.specs.Layout.{◌of◌}
use Rattle.sheet.specs.Property as property
use Rattle.history.specs.{Location.{Location, body, counter}, Span.{Span, has, put, names}}
use Rattle.history.specs.Wish.{Wish, change, write_memory, write_bits, write_property, write_key, restore_all, offer_key, restart, other, nothing}
use Rattle.history.specs.{Permit.{entry_for, count_in, count_to, spans}, Shown.{clearing, restoring}}
use Rattle.history.proofs.spans.{Bools.all_at, Spans.{has_on, laid}}

-- a new count of a property is the count of this one, or not
module _ (o i object id c : ℕ) where
  its_own : eqb o object ≡ true → eqb i id ≡ true → (k : ℕ) → k < 2 → has (count_to o i c) (counter object id k) ≡ true
  unfolding has
  its_own p q k h = simp (p, q, lt-ltb k 2 h, le-leb 0 k (omega arith))

  another : (eqb o object && eqb i id) ≡ false → (k : ℕ) → has (count_to o i c) (counter object id k) ≡ false
  unfolding has
  another e k = go (eqb o object) (eqb i id) e
    where
      go : (p q : Bool) → (p && q) ≡ false → ((p && (q && true)) && (leb 0 k && (ltb k 2 && true))) ≡ false
      go true true e = never (sym e)
      go true false e = refl
      go false q e = refl

  -- and is then the count, unless it has no room in two bytes
  new_count :
      (ps : List Span) (before : Location → ℕ) → eqb o object ≡ true → eqb i id ≡ true →
      count_in (laid (count_to o i c ∷ ps) before) object id ≤ c
  unfolding count_in put bytes_of
  new_count ps before p q = rw (its_own p q 0 (omega arith), its_own p q 1 (omega arith)) (omega arith)

module _ (s : List ℕ) (before : Location → ℕ) (d : List ℕ) (object id : ℕ) where
  abbrev pub Z : ℕ
  Z = property.element of entry_for s object id

  abbrev pub C : ℕ
  C = count_in before object id

  -- what a request leaves as the count, and which bytes it names
  abbrev pub left : Wish → ℕ
  left w = count_in (laid (spans s before d w) before) object id

  abbrev pub Named : Wish → ℕ → Type 0
  Named w j = names (spans s before d w) (body object id j) ≡ true

  -- CLEARED
  pub cleared : (w : Wish) → clearing object id w ≡ true → left w ≤ 0
  unfolding spans
  cleared (change (write_memory m n a)) e = never e
  cleared (change (write_bits n a)) e = never e
  cleared (change (write_property o i n t)) e =
      let ts : List Bool = eqb o object ∷ eqb i id ∷ eqb t 0 ∷ [] in
      rw (all_at ts e 2) (new_count o i object id 0 [] before (all_at ts e 0) (all_at ts e 1))
  cleared (change (write_key l k)) e = never e
  cleared (change restore_all) e = never e
  cleared (offer_key k) e = never e
  cleared restart e = never e
  cleared (other o) e = never e
  cleared nothing e = never e

  -- WRITTEN: a byte that is counted then was counted before, or is named, by the data or by the zeros
  module _ (n t : ℕ) (low : 1 ≤ t) where
    New : Span
    New = count_to object id (max C (t + n - 1))

    Elems : Span
    Elems = record { from = body object id ((t - 1) * Z); long = n * Z; give = λ j. get_or d j 0 }

    Zeros : Span
    Zeros = record { from = body object id (C * Z); long = (t - 1 - C) * Z; give = λ j. 0 }

    are : spans s before d (change (write_property object id n t)) ≡ New ∷ Elems ∷ Zeros ∷ []
    unfolding spans New Elems Zeros
    are = rw (ne_eqb t 0 (omega arith))

    module _ (j : ℕ) where
      abbrev x : Location
      x = body object id j

      by_data : (t - 1) * Z ≤ j → j < (t - 1) * Z + n * Z → names (New ∷ Elems ∷ Zeros ∷ []) x ≡ true
      unfolding names Elems
      by_data p q =
          let e : (t - 1) * Z + (j - (t - 1) * Z) ≡ j = omega arith in
          (or_is (has New x) _).1
          (inr ((or_is (has Elems x) _).1 (inl (subst (λ (m : ℕ). has Elems (body object id m) ≡ true) e (has_on Elems (j - (t - 1) * Z) (omega arith))))))

      by_zeros : C * Z ≤ j → j < C * Z + (t - 1 - C) * Z → names (New ∷ Elems ∷ Zeros ∷ []) x ≡ true
      unfolding names Zeros
      by_zeros p q =
          let e : C * Z + (j - C * Z) ≡ j = omega arith in
          (or_is (has New x) _).1
          (inr
          ((or_is (has Elems x) _).1
          (inr ((or_is (has Zeros x) false).1 (inl (subst (λ (m : ℕ). has Zeros (body object id m) ≡ true) e (has_on Zeros (j - C * Z) (omega arith))))))))

      written : j < max C (t + n - 1) * Z → (names (New ∷ Elems ∷ Zeros ∷ []) x ≡ true) ⊎ (j < C * Z)
      written h = go (dec_lt j (C * Z)) (dec_lt j ((t - 1) * Z)) (dec_lt C (t - 1)) (dec_lt C (t + n - 1))
        where
          go : Dec (j < C * Z) → Dec (j < (t - 1) * Z) → Dec (C < t - 1) → Dec (C < t + n - 1) →
              (names (New ∷ Elems ∷ Zeros ∷ []) x ≡ true) ⊎ (j < C * Z)
          go (yes a) b c q = inr a
          go (no a) (yes b) (yes c) q =
              let e : t - 1 ≤ C + (t - 1 - C) = omega arith in
              inl (by_zeros (omega arith) (omega (arith, mul-le-mul_right Z e)))
          go (no a) (yes b) (no c) q =
              let e : t - 1 ≤ C = omega arith in
              absurd (omega (arith, mul-le-mul_right Z e))
          go (no a) (no b) c (yes q) =
              let e : max C (t + n - 1) ≤ t - 1 + n = omega arith in
              inl (by_data (omega arith) (omega (arith, mul-le-mul_right Z e)))
          go (no a) (no b) c (no q) =
              let e : max C (t + n - 1) ≤ C = omega arith in
              absurd (omega (arith, mul-le-mul_right Z e))

    own : (j : ℕ) → j < left (change (write_property object id n t)) * Z → Named (change (write_property object id n t)) j ⊎ (j < C * Z)
    unfolding New
    own j h =
        rw are
        (written j
        (let q : count_in (laid (New ∷ Elems ∷ Zeros ∷ []) before) object id ≤ max C (t + n - 1) =
        new_count object id object id _ (Elems ∷ Zeros ∷ []) before (eq-eqb object object refl) (eq-eqb id id refl) in
        let l : j < count_in (laid (New ∷ Elems ∷ Zeros ∷ []) before) object id * Z = rw are at h in
        omega (arith, mul-le-mul_right Z q)))

  -- another property's write leaves the count
  apart : (o i n t : ℕ) → (eqb o object && eqb i id) ≡ false → left (change (write_property o i n t)) ≡ C
  unfolding spans count_in has
  apart o i n t e = go (eqb t 0) refl
    where
      at : (c : ℕ) → has (count_to o i c) (counter object id 0) ≡ false
      at c = another o i object id c e 0

      go : (u : Bool) → eqb t 0 ≡ u → left (change (write_property o i n t)) ≡ C
      go true z = simp (z, at 0)
      go false z = simp (z, at (max (count_in before o i) (t + n - 1)))

  -- ANY WRITE BUT A CLEARING AND A RESTORE
  pub counts :
      (j : ℕ) (w : Wish) → restoring w ≡ false → clearing object id w ≡ false → j < left w * Z → Named w j ⊎ (j < C * Z)
  unfolding spans count_in has
  counts j (change (write_memory m n a)) v e h = inr h
  counts j (change (write_bits n a)) v e h = inr h
  counts j (change (write_property o i n t)) v e h = go (eqb o object) (eqb i id) (eqb t 0) refl refl refl e
    where
      go : (p q r : Bool) → eqb o object ≡ p → eqb i id ≡ q → eqb t 0 ≡ r → (p && (q && (r && true))) ≡ false →
          Named (change (write_property o i n t)) j ⊎ (j < C * Z)
      go true true true a b c f = never (sym f)
      go true true false a b c f =
          let u : o ≡ object = eqb-true o object a in
          let v : i ≡ id = eqb-true i id b in
          let low : 1 ≤ t = above c in
          let k : j < left (change (write_property object id n t)) * Z = rw (u, v) at h in
          rw (u, v) (own n t low j k)
        where
          above : eqb t 0 ≡ false → 1 ≤ t
          above g = side (dec_lt 0 t)
            where
              side : Dec (0 < t) → 1 ≤ t
              side (yes l) = l
              side (no l) = let z : t ≡ 0 = omega arith in never (sym g ∙ eq-eqb t 0 z)
      go true false r a b c f = inr (subst (λ (m : ℕ). j < m * Z) (apart o i n t (rw (a, b))) h)
      go false q r a b c f = inr (subst (λ (m : ℕ). j < m * Z) (apart o i n t (rw a)) h)
  counts j (change (write_key l k)) v e h = inr h
  counts j (change restore_all) v e h = never (sym v)
  counts j (offer_key k) v e h = inr h
  counts j restart v e h = inr h
  counts j (other o) v e h = inr h
  counts j nothing v e h = inr h
