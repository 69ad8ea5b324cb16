-- What stays the same while the sheet changes: entries, their places, and so what is found and what is allowed.
use Rattle.octets.proofs.Kit.{ℕ, ◌+◌, ◌*◌, ◌/◌, ◌%◌, ◌<◌, ◌≡◌, refl, sym, ap, ◌∙◌, Bool, true, ◌&&◌, ◌||◌, List, ltb, leb, eqb, dec_lt, arith, le-ltb}
use Rattle.octets.proofs.Everys.{every_same}
use Rattle.sheet.specs.{Kind.{properties, kind_of}, declared.Memory.{Memory, TheVariants.Device}, Layout.◌of◌, Entries.{count, entry}, Lookup.{seek, covers}, Agree.Agree}
use Rattle.sheet.{specs.Places.{region_at, PropertyWith}, proofs.{alike.Sames.{count_same, region_same, property_same}, searches.FrontSearch.seek_same, alike.SameLookups.index_same}}
use Rattle.sheet.specs.Region as region
use Rattle.sheet.specs.Property as property
use Rattle.versions.proofs.promises.Agreeing.{same_entries_same, low_counts_same}
use Rattle.history.specs.Wish.{Wish, change, write_memory, write_bits, write_property, write_key, restore_all, offer_key, restart, other, nothing}
use Rattle.history.specs.Permit.{region_for, may_read, may_write, most_bytes, in_range, index_for, entry_for, clears, fills, allowed}

module _ {f s : List ℕ} (a : Agree f s) where
  -- an entry of the one is an entry of the other
  pub below_same : (k i : ℕ) → i < count s k → i < count f k
  below_same k i h = omega (arith, count_same a k)

  pub is_same : {object id i : ℕ} → PropertyWith s object id i → PropertyWith f object id i
  is_same {i = i} q =
      let h = below_same properties i q.there in
      record {
        there = h;
        same_object = sym (property_same a i property.object h (omega arith) (omega arith)) ∙ q.same_object;
        same_id = sym (property_same a i property.id h (omega arith) (omega arith)) ∙ q.same_id;
      }

  module _ (m : Memory) where
    -- the same region of an address, with the same rights
    cover_same : (y i : ℕ) → i < count f (kind_of m) → covers (region_at s m i) y ≡ covers (region_at f m i) y
    unfolding covers
    cover_same y i h = rw (region_same a m i region.address h (omega arith), region_same a m i region.length h (omega arith))

    pub region_for_same : (y : ℕ) → region_for s m y ≡ region_for f m y
    unfolding region_for
    region_for_same y =
        ap (seek (λ i. covers (region_at s m i) y) 0) (count_same a (kind_of m))
        ∙ seek_same (λ i. covers (region_at s m i) y) (λ i. covers (region_at f m i) y) 0 (count f (kind_of m))
        (λ i h l. cover_same y i (omega arith))

    -- what a region's levels say
    may_same :
        (may : ℕ → Bool) (i : ℕ) →
        (ltb i (count f (kind_of m)) && may (region.levels of region_at s m i)) ≡ (ltb i (count f (kind_of m)) && may (region.levels of region_at f m i))
    may_same may i = go (dec_lt i (count f (kind_of m)))
      where
        go :
            Dec (i < count f (kind_of m)) →
            (ltb i (count f (kind_of m)) && may (region.levels of region_at s m i)) ≡ (ltb i (count f (kind_of m)) && may (region.levels of region_at f m i))
        go (yes h) = rw (region_same a m i region.levels h (omega arith))
        go (no h) = rw (le-ltb i (count f (kind_of m)) (omega arith))

    may_read_same : (level y : ℕ) → may_read s m level y ≡ may_read f m level y
    unfolding may_read
    may_read_same level y = rw (region_for_same y, count_same a (kind_of m)) (may_same (λ l. leb level (l / 16)) (region_for f m y))

    may_write_same : (level y : ℕ) → may_write s m level y ≡ may_write f m level y
    unfolding may_write
    may_write_same level y = rw (region_for_same y, count_same a (kind_of m)) (may_same (λ l. leb level (l % 16)) (region_for f m y))

  range_same : (most : ℕ) (t u : ℕ → Bool) (n y : ℕ) → ((i : ℕ) → t i ≡ u i) → in_range most t n y ≡ in_range most u n y
  unfolding in_range
  range_same most t u n y e = rw (every_same (λ i. t (y + i)) (λ i. u (y + i)) n (λ i. e (y + i)))

  pub index_for_same : (object id : ℕ) → index_for s object id ≡ index_for f object id
  unfolding index_for
  index_for_same object id = index_same a properties (object * 256 + id) (omega arith)

  -- WHAT IS ALLOWED STAYS ALLOWED
  pub allowed_same : (level : ℕ) (d : List ℕ) (w : Wish) → allowed s level d w ≡ allowed f level d w
  unfolding allowed entry_for fills
  allowed_same level d (change (write_memory m n y)) = range_same (most_bytes m) _ _ n y (may_write_same m level)
  allowed_same level d (change (write_bits n y)) =
      range_same 5 _ _ n y (λ i. rw (may_read_same Device level i, may_write_same Device level i))
  allowed_same level d (change (write_property object id n z)) =
      rw (index_for_same object id, count_same a properties) (go (index_for f object id) (dec_lt (index_for f object id) (count f properties)))
    where
      Tests : List ℕ → ℕ → Bool
      Tests e i =
          ltb i (count f properties) &&
          (eqb (property.typ of e / 128) 1 && ((clears n z d || fills e n z d) && (leb level (property.levels of e % 16) && true)))

      go : (i : ℕ) → Dec (i < count f properties) → Tests (entry s properties i) i ≡ Tests (entry f properties i) i
      go i (yes h) =
          rw (property_same a i property.typ h (omega arith) (omega arith), property_same a i property.maximum h (omega arith) (omega arith))
          (rw (property_same a i property.element h (omega arith) (omega arith), property_same a i property.levels h (omega arith) (omega arith)))
      go i (no h) = rw (le-ltb i (count f properties) (omega arith))
  allowed_same level d (change (write_key named number)) = refl
  allowed_same level d (change restore_all) = rw (same_entries_same a d, low_counts_same a d)
  allowed_same level d (offer_key number) = refl
  allowed_same level d restart = refl
  allowed_same level d (other o) = refl
  allowed_same level d nothing = refl
