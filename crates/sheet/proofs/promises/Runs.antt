-- The run of bytes that an address range is: it may go over several regions, which follow each other without a gap.
use Rattle.octets.proofs.Kit.{ℕ, zero, suc, ◌+◌, ◌-◌, ◌/◌, ◌%◌, ◌<◌, ◌≤◌, ◌≡◌, refl, sym, ◌∙◌, ap, subst, List, ◌⊎◌, ◌↔◌, length, dec_lt, arith}
use Rattle.std.specs.Prelude.{Option, Some, None}
use Rattle.octets.specs.Splice.{splice}
use Rattle.sheet.specs.{Kind.{groups, kind_of}, Entries.{contents, InBody}, Lookup.{At, place_of, joined, range_of}, Places.{Stands, Ranged}, Agree.Agree, Rules.Accepted}
use Rattle.sheet.specs.declared.{Memory.Memory, Run.Run}
use Rattle.sheet.proofs.{rules.Good.{Good, good, accepted}, places.{BodyPlaces.{within, after_contents, disjoint}, Levels.levels_once}}
use Rattle.sheet.proofs.{searches.Regions.{Covered, covers_stands, in_region, at_once, not_both, place_stands, place_hit, below_top, Follows, neighbours}, promises.Stores.bodies_store}
use Rattle.sheet.proofs.places.{RegionBodies.{no_group_lem, stands_in}, Longer.{none_at, range_suc, one, longer}}

-- AN ADDRESS OF A MEMORY STANDS AT ONE PLACE AT MOST
pub stands_once :
    {s : List ℕ} → Accepted s → {m : Memory} {y p p' l l' : ℕ} → Stands s m y p l → Stands s m y p' l' → (p ≡ p') × (l ≡ l')
stands_once {s} ok {m} {y} {p} {p'} {l} {l'} a b =
    at_once (sym (place_hit (good s ok) a) ∙ place_hit (good s ok) b)

-- one of the n addresses from a on stands nowhere
abbrev pub Missing : List ℕ → Memory → ℕ → ℕ → Type 0
Missing s m a n = (i : ℕ) × (i < n) × ((p l : ℕ) → Stands s m (a + i) p l → ⊥)

-- A RANGE WITH AN ADDRESS THAT STANDS NOWHERE IS NOWHERE
pub range_none : (s : List ℕ) (m : Memory) (a n : ℕ) → Missing s m a n → range_of s m a n ≡ None
unfolding range_of
range_none s m a zero w = refl
range_none s m a (suc zero) w = none_at s m (a + w.0) a (omega (arith, w.1)) w.2
range_none s m a (suc (suc n)) w = range_suc s m a n ∙ go (dec_lt w.0 (suc n)) (λ l. range_none s m a (suc n) (w.0, l, w.2))
  where
    join_nowhere : (r : Option Run) → joined r None ≡ None
    join_nowhere (Some q) = refl
    join_nowhere None = refl

    go : Dec (w.0 < suc n) → (w.0 < suc n → range_of s m a (suc n) ≡ None) → joined (range_of s m a (suc n)) (place_of s m (a + suc n)) ≡ None
    go (yes l) ih = rw (ih l)
    go (no l) ih =
        rw (none_at s m (a + w.0) (a + suc n) (omega (arith, w.1)) w.2) (join_nowhere (range_of s m a (suc n)))

module _ {s : List ℕ} (g : Good s) (m : Memory) (a : ℕ) where
  -- A RUN THAT IS FOUND IS A RANGE
  pub ranged : (n : ℕ) {o l : ℕ} → range_of s m a n ≡ At o l → Ranged s m a n o l
  unfolding range_of
  ranged zero e = absurd (not_both e)
  ranged (suc zero) e = one (place_stands s m a e)
  ranged (suc (suc n)) {o} {l} e = go (range_of s m a (suc n)) (place_of s m (a + suc n)) refl refl (sym (range_suc s m a n) ∙ e) (λ p k q. ranged (suc n) q)
    where
      go : (r q : Option Run) → range_of s m a (suc n) ≡ r → place_of s m (a + suc n) ≡ q → joined r q ≡ At o l →
          ((p k : ℕ) → range_of s m a (suc n) ≡ At p k → Ranged s m a (suc n) p k) → Ranged s m a (suc (suc n)) o l
      go (Some r) (Some q) er eq e ih =
          let x = at_once e in
          rw (← x.0, ← x.1) (longer g (ih r.offset r.levels er) (place_stands s m (a + suc n) eq))
      go (Some r) None er eq e ih = absurd (not_both e)
      go None q er eq e ih = absurd (not_both e)

  -- AND BACK: a range that is nowhere has such an address
  pub range_missing : (n : ℕ) → 1 ≤ n → range_of s m a n ≡ None → Missing s m a n
  unfolding range_of
  range_missing zero h e = absurd (omega arith)
  range_missing (suc zero) h e =
      let q : a + 0 ≡ a = omega arith in
      (0, omega arith, λ p l b. not_both (sym e ∙ ap (place_of s m) (sym q) ∙ place_hit g b))
  range_missing (suc (suc n)) h e = go (range_of s m a (suc n)) (place_of s m (a + suc n)) refl refl (sym (range_suc s m a n) ∙ e) (range_missing (suc n) (omega arith))
    where
      go : (r q : Option Run) → range_of s m a (suc n) ≡ r → place_of s m (a + suc n) ≡ q → joined r q ≡ None →
          (range_of s m a (suc n) ≡ None → Missing s m a (suc n)) → Missing s m a (suc (suc n))
      go (Some r) (Some q) er eq e ih = absurd (not_both (sym e))
      go (Some r) None er eq e ih = (suc n, omega arith, λ p l b. not_both (sym eq ∙ place_hit g b))
      go None q er eq e ih = let b = ih er in (b.0, omega (arith, b.1), b.2)

module _ {s : List ℕ} (g : Good s) {m : Memory} {a : ℕ} where
  -- THERE IS ONE RANGE AT MOST: its place and its levels
  module _ {n o o' l l' : ℕ} (r : Ranged s m a n o l) (q : Ranged s m a n o' l') where
    same_at : (i : ℕ) → i < n → r.at i ≡ q.at i
    same_at i h = (stands_once (accepted g) (r.each i h) (q.each i h)).1

    same_half :
        (half : ℕ → ℕ) →
        ((level : ℕ) → (level ≤ half l) ↔ ((i : ℕ) → i < n → level ≤ half (r.at i))) →
        ((level : ℕ) → (level ≤ half l') ↔ ((i : ℕ) → i < n → level ≤ half (q.at i))) →
        (level : ℕ) → (level ≤ half l) ↔ (level ≤ half l')
    same_half half x y level = (
      λ h. (y level).1 (λ i b. rw (← (same_at i b)) ((x level).0 h i b)),
      λ h. (x level).1 (λ i b. rw (same_at i b) ((y level).0 h i b)),
    )

    pub range_once : (o ≡ o') × (l ≡ l')
    range_once = (
      omega (arith, (stands_once (accepted g) (r.each 0 r.some) (q.each 0 r.some)).0),
      levels_once l l' (same_half (λ x. x / 16) r.reading q.reading) (same_half (λ x. x % 16) r.writing q.writing),
    )

  module _ {n o l : ℕ} (r : Ranged s m a n o l) where
    -- A RANGE IS THE RUN THAT IS FOUND
    pub range_hit : range_of s m a n ≡ At o l
    range_hit = go (range_of s m a n) refl
      where
        go : (q : Option Run) → range_of s m a n ≡ q → q ≡ At o l
        go (Some q) e = let b = range_once (ranged g m a n e) r in rw (b.0, b.1) refl
        go None e = let b = range_missing g m a n r.some e in absurd (b.2 _ _ (r.each b.0 b.1))

    -- THE REGIONS THAT IT TOUCHES FOLLOW EACH OTHER WITHOUT A GAP
    pub no_gap : (i : ℕ) (h : i < n) (k : suc i < n) → ((r.each i h).index ≡ (r.each (suc i) k).index) ⊎ Follows s m (r.each i h).index (r.each (suc i) k).index
    no_gap i h k =
        let e : a + suc i ≡ suc (a + i) = omega arith in
        neighbours g (covers_stands (r.each i h)) (subst (Covered s m (r.each (suc i) k).index) e (covers_stands (r.each (suc i) k)))

    -- it lies within the sheet, after the contents
    pub range_within : o + n ≤ length s
    range_within =
        let c = stands_in g (r.each (n - 1) (omega (arith, r.some))) in
        omega (arith, c.to, within g (kind_of m) _ c.kind c.below, r.some)

    after : contents s ≤ o
    after = let c = stands_in g (r.each 0 r.some) in omega (arith, c.from, after_contents g (kind_of m) _ c.kind c.below)

    -- A STORE OF ITS BYTES KEEPS THE SHEET ACCEPTED
    pub range_store : (ds : List ℕ) → length ds ≡ n → Agree s (splice s o ds)
    range_store ds e =
        bodies_store (accepted g) o ds after (rw e range_within)
        (λ j p b f t c.
        let q : o + (p - o) ≡ p = omega arith in
        let d = stands_in g (r.each (p - o) (omega (arith, e))) in
        absurd (no_group_lem m (disjoint g (kind_of m) _ groups j p (subst (InBody s (kind_of m) _) q d) b).0))

-- EVERY ADDRESS STANDS SOMEWHERE: then they are a range
pub range_there :
    {s : List ℕ} → Good s → (m : Memory) (a n : ℕ) → 1 ≤ n → ((i : ℕ) → i < n → (j : ℕ) × Covered s m j (a + i)) → (o : ℕ) × (l : ℕ) × Ranged s m a n o l
range_there {s} g m a n h f = go (range_of s m a n) refl
  where
    go : (q : Option Run) → range_of s m a n ≡ q → (o : ℕ) × (l : ℕ) × Ranged s m a n o l
    go (Some q) e = (q.offset, q.levels, ranged g m a n e)
    go None e = let b = range_missing g m a n h e in absurd (b.2 _ _ (in_region (f b.0 b.1).1))

-- NO RANGE GOES PAST THE TOP OF THE ADDRESSES
pub range_top : {s : List ℕ} → Good s → (m : Memory) (a n : ℕ) → 65536 < a + n → range_of s m a n ≡ None
range_top {s} g m a zero h = unfold range_of in refl
range_top {s} g m a (suc n) h = range_none s m a (suc n) (n, omega arith, λ p l b. omega (arith, below_top g (covers_stands b)))
