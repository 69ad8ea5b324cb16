-- What was stored is read back where it was stored: elements and count of a property, and memory.
use Rattle.octets.proofs.Kit.{ℕ, ◌+◌, ◌*◌, ◌-◌, ◌≤◌, ◌<◌, ◌≡◌, refl, sym, ap, ◌∙◌, List, length, take, drop, replicate, length-replicate, arith}
use Rattle.octets.{specs.{Bytes.bytes_of, Splice.splice}, proofs.{Numbers.{length_bytes, bytes_zero}, Splices.{length_splice, splice_above}}}
use Rattle.sheet.{specs.{Kind.properties, Layout.◌of◌, Entries.{count, place, entry, key_of, body_at}, Agree.Agree}, proofs.{rules.Good.{Good, accepted}, promises.Keys.key_once}}
use Rattle.sheet.proofs.{places.{BodyPlaces.after_contents, Standing.place_in}, promises.Agrees.kept, alike.Sames.{count_same, place_same, property_same}, promises.Counts.count_now}
use Rattle.sheet.proofs.alike.Buts.{part_same}
use Rattle.sheet.specs.Property as property
use Rattle.judge.{specs.Properties.jumped, proofs.PropertyCases.{Keyed, Among, run_in}}
use Rattle.device.specs.Carry.{store_of}
use Rattle.device.proofs.leaves.{Accepted.{count_below, elements_within, counted_within}, Jumps.{whole, length_run, zeros_and_data}, Stores.stored_back, Agreeing.elements_keep}

-- a store before a part leaves it
part_after : (s ds : List ℕ) (p o n : ℕ) → p + length ds ≤ length s → p + length ds ≤ o → take n (drop o (splice s p ds)) ≡ take n (drop o s)
part_after s ds p o n h l =
    part_same s (splice s p ds) o n (length_splice s p ds h) (λ i k. splice_above s p ds h (o + i) (omega arith))

module _ {s : List ℕ} (ok : Good s) where
  -- the property that a request named is the same after a store that agrees
  pub same_property :
      {s' : List ℕ} → Agree s s' → (object id i j : ℕ) → Keyed s object id i → Keyed s' object id j → i ≡ j
  unfolding key_of
  same_property {s'} a object id i j k m =
      let h : j < count s properties = omega (arith, m.there, count_same a properties) in
      key_once s (accepted ok) properties (omega arith) i j k.there h
      (k.key ∙ sym m.key ∙ property_same a j property.object_id h (omega arith) (omega arith))

  module _ (i : ℕ) (h : i < count s properties) where
    -- the count that was cleared
    pub count_back : property.count of entry (splice s (place s properties i + (property.count).at) (replicate 2 0)) properties i ≡ 0
    count_back = rw (← (bytes_zero 2)) (count_now ok i 0 h (omega arith))

    -- elements that were written, the count being set after them
    module _ (n t c : ℕ) (d : List ℕ) (a : Among n t (property.maximum of entry s properties i)) (l : length d ≡ n * property.element of entry s properties i)
        (m : c ≤ property.maximum of entry s properties i) where
      abbrev z : ℕ
      z = property.element of entry s properties i

      abbrev j : ℕ
      j = jumped (property.count of entry s properties i) t

      abbrev o : ℕ
      o = property.offset of entry s properties i + (t - 1) * z

      -- after the run
      abbrev ran : List ℕ
      ran = store_of s d (run_in (entry s properties i) t)

      abbrev pub wrote : List ℕ
      wrote = splice ran (place s properties i + (property.count).at) (bytes_of 2 c)

      ran_agrees : Agree s ran
      ran_agrees = elements_keep ok i _ _ _ h (whole _ a) (length_run j n z d l)

      pub counted_back : property.count of entry wrote properties i ≡ c
      counted_back =
          rw (← (place_same ran_agrees properties i))
          (count_now (kept ok ran_agrees) i c (rw (count_same ran_agrees properties) h) (rw (property_same ran_agrees i property.maximum h (omega arith) (omega arith)) m))

      -- the jumped elements are zeros, and then the data stand
      abbrev cleared : List ℕ
      cleared = splice s (property.offset of entry s properties i + (property.count of entry s properties i + 1 - 1) * z) (replicate (j * z) 0)

      cleared_long : length cleared ≡ length s
      cleared_long =
          let e = elements_within ok i h j (property.count of entry s properties i + 1) (omega arith) (omega (arith, a.end, a.start, a.some, count_below ok i h)) in
          length_splice s _ (replicate (j * z) 0) (omega (arith, length-replicate {A = ℕ} (j * z) 0, e))

      pub elements_back : take (length d) (drop o wrote) ≡ d
      unfolding body_at
      elements_back =
          let w : o + length d ≤ length s = omega (arith, elements_within ok i h n t a.start a.end) in
          part_after ran (bytes_of 2 c) (place s properties i + (property.count).at) o (length d)
          (omega (arith, length_bytes 2 c, ran_agrees.long, place_in s properties i (omega arith) h, ok.framed))
          (omega (arith, length_bytes 2 c, place_in s properties i (omega arith) h, after_contents ok properties i (omega arith) h))
          ∙ ap (λ (u : List ℕ). take (length d) (drop o u))
          (zeros_and_data s d (property.offset of entry s properties i) z (property.count of entry s properties i) t a.start (counted_within ok i h))
          ∙ stored_back cleared d o (length d) refl (omega (arith, cleared_long))
