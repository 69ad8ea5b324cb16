-- The level of an allowed write suffices for every byte that it names.
use Rattle.octets.proofs.Kit.{ℕ, ◌+◌, ◌/◌, ◌%◌, ◌≤◌, ◌<◌, ◌≡◌, sym, subst, ◌⊎◌, inl, inr, Bool, true, false, cond, ◌&&◌, ◌||◌, List, [], ◌∷◌, ltb, leb, eqb, arith, leb-true, eqb-true}
use Rattle.octets.{specs.Every.every, proofs.{Truths.{never, and_is, or_is}, Everys.every_at}}
use Rattle.sheet.specs.{Kind.{properties, kind_of}, declared.Memory.{Memory, TheVariants.Device}, Layout.◌of◌, Entries.count}
use Rattle.sheet.specs.Property as property
use Rattle.history.specs.{Location.{Location, memory}, Span.{Span, has, names}}
use Rattle.history.specs.Wish.{Wish, change, write_memory, write_bits, write_property, write_key, offer_key, restart, other, nothing, restore_all}
use Rattle.history.specs.{Permit.{region_for, may_read, may_write, most_bytes, in_range, index_for, entry_for, clears, fills, allowed, spans}, Keyless.write_level}
use Rattle.history.proofs.spans.{Bools.all_at, Spans.{on, has_only}}

-- what holds of each byte of each span holds of what they name
abbrev Each : (Location → Type 0) → List Span → Type 0
Each P [] = Unit
Each P (p ∷ ps) = ((j : ℕ) → j < p.long → P (on p.from j)) × Each P ps

named_each : (P : Location → Type 0) (ps : List Span) → Each P ps → (x : Location) → names ps x ≡ true → P x
unfolding names
named_each P [] a x e = never e
named_each P (p ∷ ps) a x e = go ((or_is (has p x) (names ps x)).0 e) (λ n. named_each P ps a.1 x n)
  where
    go : (has p x ≡ true) ⊎ (names ps x ≡ true) → (names ps x ≡ true → P x) → P x
    go (inl h) r = let b = has_only p x h in subst P (sym b.0) (a.0 _ b.1)
    go (inr n) r = r n

each_cond : (P : Location → Type 0) (t : Bool) (ps qs : List Span) → Each P ps → Each P qs → Each P (cond t ps qs)
each_cond P true ps qs a b = a
each_cond P false ps qs a b = b

each_any : (P : Location → Type 0) → ((x : Location) → P x) → (ps : List Span) → Each P ps
each_any P a [] = tt
each_any P a (p ∷ ps) = ((λ j h. a _), each_any P a ps)

module _ (s : List ℕ) (level : ℕ) where
  -- a byte that may be written
  may_suffices : (m : Memory) (y : ℕ) → may_write s m level y ≡ true → level ≤ write_level s (memory m y)
  unfolding may_write write_level
  may_suffices m y e = leb-true _ _ ((and_is (ltb (region_for s m y) (count s (kind_of m))) _).0 e).1

  -- each of a range
  range_each : (most : ℕ) (may : ℕ → Bool) (n a : ℕ) → in_range most may n a ≡ true → (j : ℕ) → j < n → may (a + j) ≡ true
  unfolding in_range
  range_each most may n a e j h =
      every_at (λ i. may (a + i)) n (all_at (leb 1 n ∷ leb n most ∷ every n (λ i. may (a + i)) ∷ []) e 2) j h

  module _ (before : Location → ℕ) (d : List ℕ) where
    Enough : Location → Type 0
    Enough x = level ≤ write_level s x

    each : (w : Wish) → allowed s level d w ≡ true → Each Enough (spans s before d w)
    unfolding allowed spans Enough write_level
    each (change (write_memory m n a)) e =
        (λ j h. may_suffices m (a + j) (range_each (most_bytes m) (may_write s m level) n a e j h), tt)
    each (change (write_bits n a)) e = (
      λ j h.
          may_suffices Device (a + j)
          ((and_is (may_read s Device level (a + j)) (may_write s Device level (a + j))).0
          (range_each 5 (λ y. may_read s Device level y && may_write s Device level y) n a e j h)).1,
      tt,
    )
    each (change (write_property object id n z)) e =
        each_cond (λ x. level ≤ write_level s x) (eqb z 0) _ _ ((λ j h. enough), tt) ((λ j h. enough), ((λ j h. enough), ((λ j h. enough), tt)))
      where
        Ts : List Bool
        Ts =
            ltb (index_for s object id) (count s properties) ∷
            eqb (property.typ of entry_for s object id / 128) 1 ∷
            (clears n z d || fills (entry_for s object id) n z d) ∷ leb level (property.levels of entry_for s object id % 16) ∷ []

        enough : level ≤ property.levels of entry_for s object id % 16
        enough = leb-true _ _ (all_at Ts e 3)
    each (change (write_key named number)) e = (λ j h. leb-true _ _ ((and_is (ltb named 3) (leb level named)).0 e).1, tt)
    each (change restore_all) e = each_any (λ x. level ≤ write_level s x) (λ x. omega (arith, zero)) (spans s before d (change restore_all))
      where
        zero : level ≡ 0
        zero = eqb-true level 0 ((and_is (eqb level 0) _).0 e).0
    each (offer_key number) e = tt
    each restart e = tt
    each (other o) e = tt
    each nothing e = tt

    -- IT SUFFICES
    pub suffices : (w : Wish) (x : Location) → allowed s level d w ≡ true → names (spans s before d w) x ≡ true → level ≤ write_level s x
    unfolding Enough
    suffices w x e n = named_each Enough (spans s before d w) (each w e) x n
