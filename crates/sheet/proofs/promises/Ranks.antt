-- Properties by their index within an object: a lookup finds the one property that has it.
use Rattle.octets.proofs.Kit.{ℕ, zero, suc, ◌+◌, ◌-◌, ◌<◌, ◌≤◌, ◌≡◌, refl, sym, ◌∙◌, ap, List, Bool, true, ◌&&◌, and-eq-true_iff, eqb, get_or, dec_lt, le_refl, add-zero, add-suc, arith, eq-eqb}
use Rattle.octets.proofs.Kit.{ne_eqb, eqb-true}
use Rattle.octets.proofs.Numbers.{num_below}
use Rattle.sheet.specs.{Kind.properties, Layout.◌of◌, Entries.{count, place, entry, key_of}, Lookup.{object_at, rank, nth_of}}
use Rattle.sheet.specs.Property as property
use Rattle.sheet.proofs.{rules.Good.Good, promises.Keys.{key_is, key_rising}, places.{Rising.rising, Standing.field_at}}
use Rattle.sheet.proofs.searches.FrontSearch.{seek_bound, seek_passes, seek_hit, seek_none}

module _ (s : List ℕ) (object : ℕ) where
  -- one more property, of the object, and of another
  pub rank_more : (i : ℕ) → object_at s i ≡ object → rank s object (suc i) ≡ rank s object i + 1
  unfolding rank
  rank_more i e = rw (eq-eqb (object_at s i) object e)

  pub rank_skip : (i : ℕ) → (object_at s i ≡ object → ⊥) → rank s object (suc i) ≡ rank s object i
  unfolding rank
  rank_skip i e = rw (ne_eqb (object_at s i) object e) (omega arith)

  rank_up : (n i : ℕ) → i < n → rank s object i ≤ rank s object (suc i)
  unfolding rank
  rank_up n i h = omega arith

  -- along one object the index rises strictly
  pub rank_rising : (i j : ℕ) → object_at s i ≡ object → i < j → rank s object i < rank s object j
  rank_rising i j e h = omega (arith, rank_more i e, rising (rank s object) j (rank_up j) (suc i) j h (omega arith))

  -- so two properties of one object have two indices
  pub rank_once :
      (i j : ℕ) → object_at s i ≡ object → object_at s j ≡ object → rank s object i ≡ rank s object j → i ≡ j
  rank_once i j a b e = go (dec_lt i j) (dec_lt j i)
    where
      go : Dec (i < j) → Dec (j < i) → i ≡ j
      go (yes h) d = absurd (omega (arith, rank_rising i j a h))
      go (no h) (yes l) = absurd (omega (arith, rank_rising j i b l))
      go (no h) (no l) = omega arith

  module _ (index : ℕ) where
    test : ℕ → Bool
    test i = eqb (object_at s i) object && eqb (rank s object i) index

    right : (i : ℕ) → test i ≡ true → (object_at s i ≡ object) × (rank s object i ≡ index)
    unfolding test
    right i e =
        let q = (and-eq-true_iff (eqb (object_at s i) object) (eqb (rank s object i) index)).0 e in
        (eqb-true (object_at s i) object q.0, eqb-true (rank s object i) index q.1)

    -- A LOOKUP FINDS THE PROPERTY THAT HAS THE INDEX
    pub nth_hit : (i : ℕ) → i < count s properties → object_at s i ≡ object → rank s object i ≡ index → nth_of s object index ≡ i
    unfolding nth_of test
    nth_hit i h a b =
        seek_hit test (count s properties) i h (rw (eq-eqb (object_at s i) object a, eq-eqb (rank s object i) index b))
        (λ m hm q. let r = right m q in rank_once m i r.0 a (r.1 ∙ sym b))

    -- it gives a property or the count
    pub nth_bound : nth_of s object index ≤ count s properties
    unfolding nth_of
    nth_bound = seek_bound _ (count s properties)

    -- the property that it gives has the index
    pub nth_is :
        nth_of s object index < count s properties →
        (object_at s (nth_of s object index) ≡ object) × (rank s object (nth_of s object index) ≡ index)
    unfolding nth_of test
    nth_is h = right (nth_of s object index) (seek_passes test (count s properties) h)

    -- IT GIVES THE COUNT WHERE NO PROPERTY HAS THE INDEX
    pub nth_none :
        ((i : ℕ) → i < count s properties → object_at s i ≡ object → rank s object i ≡ index → ⊥) →
        nth_of s object index ≡ count s properties
    unfolding nth_of test
    nth_none f = seek_none test (count s properties) (λ i h q. let r = right i q in f i h r.0 r.1)

  -- before an object's first property, along its properties, and where there are none
  pub rank_none : (a : ℕ) → ((j : ℕ) → j < a → object_at s j ≡ object → ⊥) → rank s object a ≡ 0
  unfolding rank
  rank_none zero f = refl
  rank_none (suc a) f = rank_skip a (f a (omega arith)) ∙ rank_none a (λ j h. f j (omega arith))

  pub rank_along : (a n : ℕ) → ((j : ℕ) → a ≤ j → j < a + n → object_at s j ≡ object) → rank s object (a + n) ≡ rank s object a + n
  rank_along a zero f = simp add-zero
  rank_along a (suc n) f =
      ap (rank s object) (add-suc a n)
      ∙ rank_more (a + n) (f (a + n) (omega arith) (omega arith))
      ∙ omega (arith, rank_along a n (λ j h l. f j h (omega arith)))

  pub rank_flat : (a n : ℕ) → ((j : ℕ) → a ≤ j → j < a + n → object_at s j ≡ object → ⊥) → rank s object (a + n) ≡ rank s object a
  rank_flat a zero f = simp add-zero
  rank_flat a (suc n) f =
      ap (rank s object) (add-suc a n)
      ∙ rank_skip (a + n) (f (a + n) (omega arith) (omega arith))
      ∙ rank_flat a n (λ j h l. f j h (omega arith))

module _ {s : List ℕ} (g : Good s) (bytes : (i : ℕ) → get_or s i 0 < 256) where
  pub id_below : (i : ℕ) → property.id of entry s properties i < 256
  id_below i =
      omega
      (arith, field_at s properties i property.id (omega arith), num_below s (place s properties i + (property.id).at) (property.id).width bytes)

  -- the objects of the properties rise
  pub object_rising : (i j : ℕ) → i ≤ j → j < count s properties → object_at s i ≤ object_at s j
  unfolding object_at key_of
  object_rising i j h l = go (dec_lt i j)
    where
      go : Dec (i < j) → object_at s i ≤ object_at s j
      go (yes k) =
          omega
          (arith, key_rising g properties (omega arith) i j k l, key_is (entry s properties i), key_is (entry s properties j), id_below j)
      go (no k) = let q : i ≡ j = omega arith in rw q (le_refl _)

  -- THE INDEX OF A PROPERTY IS COUNTED FROM THE FIRST OF ITS OBJECT
  pub rank_is :
      (a i : ℕ) → a ≤ i → i < count s properties → object_at s a ≡ object_at s i →
      ((j : ℕ) → j < a → object_at s j ≡ object_at s i → ⊥) → rank s (object_at s i) i ≡ i - a
  rank_is a i h l e f =
      let q : i ≡ a + (i - a) = omega arith in
      let same : (j : ℕ) → a ≤ j → j < a + (i - a) → object_at s j ≡ object_at s i =
      λ j k m. omega (arith, object_rising a j k (omega arith), object_rising j i (omega arith) l) in
      ap (rank s (object_at s i)) q
      ∙ rank_along s (object_at s i) a (i - a) same
      ∙ omega (arith, rank_none s (object_at s i) a f)
