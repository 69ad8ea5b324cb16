-- In two sheets that agree on what the rules read, lookups find the same.
use Rattle.octets.proofs.Kit.{ℕ, zero, suc, ◌+◌, ◌<◌, ◌≤◌, ◌≡◌, refl, sym, ◌∙◌, ap, List, cond, ◌&&◌, eqb, ltb, dec_lt, arith, le-ltb}
use Rattle.std.specs.Prelude.{None}
use Rattle.sheet.specs.{Kind.{kinds, properties, kind_of}, Entries.{count, key_of}, Lookup.{seek, index_of, object_at, rank, nth_of, covers, run_in, place_of, range_of}, Agree.AgreeBy}
use Rattle.sheet.specs.{Places.{region_at, Stands, Ranged}, declared.Memory.Memory}
use Rattle.sheet.specs.Region as region
use Rattle.sheet.specs.Property as property
use Rattle.sheet.proofs.{alike.Sames.{count_same, key_same, region_same, property_same}, searches.FrontSearch.seek_same, places.Longer.range_suc}

module _ {R : List ℕ → List ℕ → Type 0} {s s' : List ℕ} (a : AgreeBy R s s') where
  -- the same entry by its first word
  pub index_same : (k x : ℕ) → k < kinds → index_of s' k x ≡ index_of s k x
  unfolding index_of
  index_same k x hk =
      ap (seek (λ i. eqb (key_of s' k i) x) 0) (count_same a k)
      ∙ seek_same (λ i. eqb (key_of s' k i) x) (λ i. eqb (key_of s k i) x) 0 (count s k)
      (λ i h l. ap (λ (y : ℕ). eqb y x) (key_same a i k hk (omega arith)))

  object_same : (i : ℕ) → i < count s properties → object_at s' i ≡ object_at s i
  unfolding object_at
  object_same i h = property_same a i property.object h (omega arith) (omega arith)

  -- the same index of a property
  pub rank_same : (object i : ℕ) → i ≤ count s properties → rank s' object i ≡ rank s object i
  unfolding rank
  rank_same object zero h = refl
  rank_same object (suc i) h = rw (rank_same object i (omega arith), object_same i h)

  -- the same property by its index
  pub nth_same : (object index : ℕ) → nth_of s' object index ≡ nth_of s object index
  unfolding nth_of
  nth_same object index =
      ap (seek (λ i. eqb (object_at s' i) object && eqb (rank s' object i) index) 0) (count_same a properties)
      ∙ seek_same (λ i. eqb (object_at s' i) object && eqb (rank s' object i) index) (λ i. eqb (object_at s i) object && eqb (rank s object i) index) 0 (count s properties)
      (λ i h l. rw (object_same i (omega arith), rank_same object i (omega arith)))

  module _ (m : Memory) (y : ℕ) where
    covers_same : (i : ℕ) → i < count s (kind_of m) → covers (region_at s' m i) y ≡ covers (region_at s m i) y
    unfolding covers
    covers_same i h = rw (region_same a m i region.address h (omega arith), region_same a m i region.length h (omega arith))

    run_same : (i : ℕ) → i < count s (kind_of m) → run_in (region_at s' m i) y ≡ run_in (region_at s m i) y
    run_same i h =
        rw (region_same a m i region.offset h (omega arith), region_same a m i region.address h (omega arith), region_same a m i region.levels h (omega arith))

    found : List ℕ → ℕ
    found t = seek (λ j. covers (region_at t m j) y) 0 (count t (kind_of m))

    found_same : found s' ≡ found s
    unfolding found
    found_same =
        ap (seek (λ j. covers (region_at s' m j) y) 0) (count_same a (kind_of m))
        ∙ seek_same (λ j. covers (region_at s' m j) y) (λ j. covers (region_at s m j) y) 0 (count s (kind_of m))
        (λ i h l. covers_same i (omega arith))

    -- the same place of an address
    placed_same : place_of s' m y ≡ place_of s m y
    unfolding place_of found
    placed_same = rw (found_same, count_same a (kind_of m)) (go (found s) (dec_lt (found s) (count s (kind_of m))))
      where
        go : (i : ℕ) → Dec (i < count s (kind_of m)) → cond (ltb i (count s (kind_of m))) (run_in (region_at s' m i) y) None ≡ cond (ltb i (count s (kind_of m))) (run_in (region_at s m i) y) None
        go i (yes h) = rw (run_same i h)
        go i (no h) = rw (le-ltb i (count s (kind_of m)) (omega arith))

  -- the same run of an address range
  pub range_same : (m : Memory) (f n : ℕ) → range_of s' m f n ≡ range_of s m f n
  unfolding range_of
  range_same m f zero = refl
  range_same m f (suc zero) = placed_same m f
  range_same m f (suc (suc n)) =
      range_suc s' m f n ∙ rw (range_same m f (suc n), placed_same m (f + suc n)) (sym (range_suc s m f n))

  -- an address stands at the same place
  pub stands_same : {m : Memory} {y p l : ℕ} → Stands s m y p l → Stands s' m y p l
  stands_same {m} r =
      let i : ℕ = r.index in
      let h : i < count s (kind_of m) = r.below in
      let f = region_same a m i region.address h (omega arith) in
      let t = region_same a m i region.length h (omega arith) in
      let o = region_same a m i region.offset h (omega arith) in
      record {
        index = i;
        below = omega (arith, h, count_same a (kind_of m));
        from = omega (arith, r.from, f);
        to = omega (arith, r.to, f, t);
        here = omega (arith, r.here, f, o);
        under = r.under ∙ sym (region_same a m i region.levels h (omega arith));
      }

  -- and so does a range
  pub ranged_same : {m : Memory} {y n o l : ℕ} → Ranged s m y n o l → Ranged s' m y n o l
  ranged_same r =
      record { some = r.some; at = r.at; each = λ i h. stands_same (r.each i h); reading = r.reading; writing = r.writing }
