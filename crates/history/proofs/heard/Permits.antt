-- A write is permitted exactly if the plain propositions of its service hold.
use Rattle.octets.proofs.Kit.{ℕ, ◌+◌, ◌*◌, ◌-◌, ◌/◌, ◌%◌, ◌<◌, ◌≤◌, ◌≡◌, sym, subst, ◌∙◌, ◌↔◌, ◌⊎◌, inl, inr, Bool, true, ◌&&◌, ◌||◌, List, [], ◌∷◌, ltb, leb, eqb, length, arith, ltb-true}
use Rattle.octets.proofs.Kit.{lt-ltb, leb-true, le-leb, eqb-true, eq-eqb}
use Rattle.octets.{specs.{Bytes.num_at, Every.every}, proofs.{Numbers.num_two, Truths.{and_is, or_is}, Everys.{every_at, every_all}}}
use Rattle.sheet.specs.{Kind.{properties, kind_of}, Layout.◌of◌, Entries.{count, entry}, Places.{region_at, Ranged, PropertyWith}, declared.Memory.{Memory, TheVariants.{Device, User}}}
use Rattle.sheet.proofs.{rules.Good.Good, searches.Regions.{Covered, covers_stands}, promises.Runs.range_there}
use Rattle.sheet.specs.Region as region
use Rattle.sheet.specs.Property as property
use Rattle.device.specs.{Octets.Octets, Asked.Asked, MemoryDue.{Write, bytes, bits, ToWrite, Open, MemoryWritable}, PropertiesDue.{Writable, Elements, WriteAllowed}, KeysDue.KeyWritable}
use Rattle.device.proofs.due.Properly.{two_zeros}
use Rattle.device.specs.PropertiesDue as properties-due
use Rattle.history.specs.{Wish.{Change, change, write_memory, write_bits, write_property, write_key}, Span.all}
use Rattle.history.specs.Permit.{level_for, region_for, may_read, may_write, in_range, index_for, entry_for, clears, fills, allowed}
use Rattle.history.proofs.{spans.Bools.all_at, heard.{Searches.{region_covers, may_read_lem, may_write_lem, property_hit, property_found}, LevelFor.{acts_once, acts_so}}}

-- the two ways to write a property
clears_is : (n s : ℕ) (d : List ℕ) → (clears n s d ≡ true) ↔ ((s ≡ 0) × (n ≡ 1) × (d ≡ 0 ∷ 0 ∷ []))
unfolding clears
clears_is n s d = (
  λ e. (
    eqb-true s 0 (all_at Ts e 0),
    eqb-true n 1 (all_at Ts e 1),
    two_zeros d (eqb-true (length d) 2 (all_at Ts e 2)) (eqb-true (num_at d 0 2) 0 (all_at Ts e 3)),
  ),
  λ h. rw (h.0, h.1, h.2) zeros,
)
  where
    Ts : List Bool
    Ts = eqb s 0 ∷ eqb n 1 ∷ eqb (length d) 2 ∷ eqb (num_at d 0 2) 0 ∷ []

    zeros : all (eqb 0 0 ∷ eqb 1 1 ∷ eqb 2 2 ∷ eqb (num_at (0 ∷ 0 ∷ []) 0 2) 0 ∷ []) ≡ true
    zeros = rw (num_two (0 ∷ 0 ∷ []) 0)

fills_is :
    (e : List ℕ) (n s : ℕ) (d : List ℕ) → (fills e n s d ≡ true) ↔ (Elements (property.maximum of e) n s × (length d ≡ n * property.element of e))
unfolding fills
fills_is e n s d = (
  λ h. (
    record {
      start = leb-true _ _ (all_at Ts h 0);
      some = leb-true _ _ (all_at Ts h 1);
      end = leb-true _ _ (all_at Ts h 2);
    },
    eqb-true _ _ (all_at Ts h 3),
  ),
  λ h. simp (le-leb _ _ h.0.start, le-leb _ _ h.0.some, le-leb _ _ h.0.end, eq-eqb _ _ h.1),
)
  where
    Ts : List Bool
    Ts =
        leb 1 s ∷ leb 1 n ∷ leb (s + n - 1) (property.maximum of e) ∷ eqb (length d) (n * property.element of e) ∷ []

-- what a write to memory asks for
abbrev pub wish : Write → ℕ → ℕ → Change
wish (bytes m) n y = write_memory m n y
wish bits n y = write_bits n y

module _ (x : Asked) (g : Good x.sheet) where
  abbrev S : List ℕ
  S = x.sheet

  abbrev L : ℕ
  L = level_for x.mode x.session.level

  -- A RANGE OF MEMORY: a test passes for each byte exactly if the level suffices for each; a byte for which it passes lies in a
  -- region, and it passes there if the level suffices
  module _ (m : Memory) (most : ℕ) (may : ℕ → Bool) (Suffices : ℕ → ℕ → Type 0)
      (may-lies : (y : ℕ) → may y ≡ true → (i : ℕ) × Covered S m i y)
      (may_is : (i y : ℕ) → Covered S m i y → (may y ≡ true) ↔ Suffices L (region.levels of region_at S m i)) (n y : ℕ) where
    Ts : List Bool
    Ts = leb 1 n ∷ leb n most ∷ every n (λ i. may (y + i)) ∷ []

    range_open : in_range most may n y ≡ true → (o : ℕ) × Open x m most Suffices n y o
    unfolding in_range Ts
    range_open e =
        let some : 1 ≤ n = leb-true _ _ (all_at Ts e 0) in
        let each = every_at (λ i. may (y + i)) n (all_at Ts e 2) in
        let w = range_there g m y n some (λ i h. may-lies (y + i) (each i h)) in
        let r : Ranged S m y n w.0 w.1 = w.2 in (
          w.0,
          record {
            some = some;
            few = leb-true _ _ (all_at Ts e 1);
            level = L;
            acts = acts_so x;
            each = λ i h.
                let b = r.each i h in
                (r.at i, b, subst (Suffices L) (sym b.under) ((may_is b.index (y + i) (covers_stands b)).0 (each i h)));
          },
        )

    open_range : (o : ℕ) → Open x m most Suffices n y o → in_range most may n y ≡ true
    unfolding in_range
    open_range o w =
        let b : every n (λ i. may (y + i)) ≡ true =
        every_all _ n (λ j h.
        let b = (w.each j h).1 in
        (may_is b.index (y + j) (covers_stands b)).1
        (subst (Suffices L) b.under (subst (λ (l : ℕ). Suffices l (w.each j h).0) (acts_once x w.acts) (w.each j h).2))) in
        simp (le-leb _ _ w.some, le-leb _ _ w.few, b)

  -- a byte that may be written lies in a region
  write_lies : (m : Memory) (y : ℕ) → may_write S m L y ≡ true → (i : ℕ) × Covered S m i y
  unfolding may_write
  write_lies m y e = (region_for S m y, region_covers S m y (ltb-true _ _ ((and_is (ltb (region_for S m y) (count S (kind_of m))) _).0 e).0))

  -- a byte may be written, and read and written, as its region says
  writes : (m : Memory) (i y : ℕ) → Covered S m i y → (may_write S m L y ≡ true) ↔ (L ≤ region.levels of region_at S m i % 16)
  writes m i y c = (λ e. leb-true _ _ (sym (may_write_lem g L c) ∙ e), λ h. may_write_lem g L c ∙ le-leb _ _ h)

  changes :
      (m : Memory) (i y : ℕ) → Covered S m i y →
      ((may_read S m L y && may_write S m L y) ≡ true) ↔ ((L ≤ region.levels of region_at S m i / 16) × (L ≤ region.levels of region_at S m i % 16))
  changes m i y c = (
    λ e. let b = (and_is (may_read S m L y) (may_write S m L y)).0 e in (leb-true _ _ (sym (may_read_lem g L c) ∙ b.0), (writes m i y c).0 b.1),
    λ h. (and_is (may_read S m L y) (may_write S m L y)).1 (may_read_lem g L c ∙ le-leb _ _ h.0, (writes m i y c).1 h.1),
  )

  bytes_is :
      (m : Memory) (most n y : ℕ) →
      (in_range most (may_write S m L) n y ≡ true) ↔ ((o : ℕ) × Open x m most (λ level levels. level ≤ levels % 16) n y o)
  bytes_is m most n y = (
    range_open m most (may_write S m L) (λ level levels. level ≤ levels % 16) (write_lies m) (writes m) n y,
    λ w. open_range m most (may_write S m L) (λ level levels. level ≤ levels % 16) (write_lies m) (writes m) n y w.0 w.1,
  )

  -- A WRITE TO MEMORY, of bytes or of bits
  pub memory_is : (w : Write) (n y : ℕ) (d : List ℕ) → (allowed S L d (change (wish w n y)) ≡ true) ↔ ((o : ℕ) × MemoryWritable x w n y o)
  unfolding allowed
  memory_is (bytes Device) n y d = bytes_is Device 12 n y
  memory_is (bytes User) n y d = bytes_is User 11 n y
  memory_is bits n y d = (
    range_open Device 5 (λ y. may_read S Device L y && may_write S Device L y) (ToWrite bits) lies (changes Device) n y,
    λ w. open_range Device 5 (λ y. may_read S Device L y && may_write S Device L y) (ToWrite bits) lies (changes Device) n y w.0 w.1,
  )
    where
      lies : (y : ℕ) → (may_read S Device L y && may_write S Device L y) ≡ true → (i : ℕ) × Covered S Device i y
      lies y e = write_lies Device y ((and_is (may_read S Device L y) (may_write S Device L y)).0 e).1

  -- A KEY
  pub key_is : (named number : ℕ) (d : List ℕ) → (allowed S L d (change (write_key named number)) ≡ true) ↔ KeyWritable x named
  unfolding allowed
  key_is named number d = (
    λ e.
        let b = (and_is (ltb named 3) (leb L named)).0 e in
        record { known = omega (arith, ltb-true named 3 b.0); level = L; acts = acts_so x; suffices = leb-true _ _ b.1 },
    λ w.
        let r : L ≤ named = omega (arith, acts_once x w.acts, w.suffices) in
        (and_is (ltb named 3) (leb L named)).1 (lt-ltb named 3 (omega (arith, w.known)), le-leb _ _ r),
  )

  -- A PROPERTY, ids being bytes
  pub property_is :
      (object id n s : ℕ) (d : List ℕ) → Octets S → id < 256 → (allowed S L d (change (write_property object id n s)) ≡ true) ↔ WriteAllowed x object id n s d
  unfolding allowed entry_for
  property_is object id n s d small low = (on, back)
    where
      I : ℕ
      I = index_for S object id

      E : List ℕ
      E = entry S properties I

      Ts : List Bool
      Ts =
          ltb I (count S properties) ∷
          eqb (property.typ of E / 128) 1 ∷ (clears n s d || fills E n s d) ∷ leb L (property.levels of E % 16) ∷ []

      on : all Ts ≡ true → WriteAllowed x object id n s d
      on e = ways ((or_is (clears n s d) (fills E n s d)).0 (all_at Ts e 2))
        where
          p : PropertyWith S object id I
          p = property_found S object id small low (ltb-true _ _ (all_at Ts e 0))

          w : Writable x object id I
          w =
              record {
                found = p;
                bit7 = eqb-true _ _ (all_at Ts e 1);
                level = L;
                acts = acts_so x;
                suffices = leb-true _ _ (all_at Ts e 3);
              }

          ways : (clears n s d ≡ true) ⊎ (fills E n s d ≡ true) → WriteAllowed x object id n s d
          ways (inl c) = let h = (clears_is n s d).0 c in properties-due.of_count I w h.0 h.1 h.2
          ways (inr f) = let h = (fills_is E n s d).0 f in properties-due.of_elements I w h.0 h.1

      either : (i : ℕ) → Writable x object id i → (clears n s d || fills (entry S properties i) n s d) ≡ true → all Ts ≡ true
      either i w t =
          let q : I ≡ i = property_hit g w.found in
          let r : L ≤ property.levels of entry S properties i % 16 = omega (arith, acts_once x w.acts, w.suffices) in
          rw q (simp (lt-ltb _ _ w.found.there, eq-eqb _ _ w.bit7, t, le-leb _ _ r))

      back : WriteAllowed x object id n s d → all Ts ≡ true
      back (properties-due.of_count i w a b c) = either i w ((or_is _ _).1 (inl ((clears_is n s d).1 (a, b, c))))
      back (properties-due.of_elements i w a b) =
          either i w ((or_is (clears n s d) _).1 (inr ((fills_is (entry S properties i) n s d).1 (a, b))))
