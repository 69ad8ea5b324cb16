-- An object's properties stand side by side: by halves one finds the first, and counts on from it.
use Rattle.octets.proofs.Kit.{ℕ, ◌+◌, ◌*◌, ◌-◌, ◌≤◌, ◌<◌, ◌≡◌, sym, ◌∙◌, ap, List, get_or, dec_le, arith}
use Rattle.sheet.specs.{Kind.properties, Entries.{count, entry, key_of}, Rules.Accepted, Lookup.{object_at, rank, nth_of}, Walk.{Counted, Lower}}
use Rattle.sheet.proofs.{rules.Good.{Good, good}, promises.{Keys.key_is, Ranks.{id_below, object_rising, rank_is, rank_none, rank_along, rank_flat, nth_hit, nth_none}}}

module _ (s : List ℕ) (ok : Accepted s) (bytes : (i : ℕ) → get_or s i 0 < 256) (object a : ℕ) (low : Lower s properties (object * 256) a) where
  g : Good s
  g = good s ok

  -- before the first property of the object, and from it on
  lesser : (j : ℕ) → j < a → object_at s j < object
  unfolding object_at key_of
  lesser j h = omega (arith, low.before j h, key_is (entry s properties j))

  greater : (j : ℕ) → a ≤ j → j < count s properties → object ≤ object_at s j
  unfolding object_at key_of g
  greater j h l = omega (arith, low.from j h l, key_is (entry s properties j), id_below g bytes j)

  no_lesser : (j : ℕ) → j < a → object_at s j ≡ object → ⊥
  no_lesser j h e = omega (arith, lesser j h)

  -- from the first to one of the same object all are of the object
  same : (i : ℕ) → i < count s properties → object_at s i ≡ object → (j : ℕ) → a ≤ j → j ≤ i → object_at s j ≡ object
  same i l e j h m = omega (arith, greater j h (omega arith), object_rising g bytes j i m l)

  -- THE INDEX COUNTS FROM THE FIRST: before it, up to a property of the object, and past the last
  pub index_none : (i : ℕ) → i ≤ a → 0 ≡ rank s object i
  index_none i h = sym (rank_none s object i (λ j l. no_lesser j (omega arith)))

  to_first : (n : ℕ) → rank s object a + n ≡ n
  to_first n = omega (arith, rank_none s object a no_lesser)

  pub index_within : (i o : ℕ) → a < i → i ≤ count s properties → o ≡ object_at s (i - 1) → o ≡ object → i - a ≡ rank s object i
  index_within i o h l e q =
      let x : a + (i - a) ≡ i = omega arith in
      sym
      (sym (ap (rank s object) x)
      ∙ rank_along s object a (i - a) (λ j k m. same (i - 1) (omega arith) (sym e ∙ q) j k (omega arith))
      ∙ to_first (i - a))

  module _ (b : ℕ) (up : Lower s properties (object * 256 + 256) b) where
    pub first_last : a ≤ b
    first_last = go (dec_le a b)
      where
        go : Dec (a ≤ b) → a ≤ b
        go (yes h) = h
        go (no h) = absurd (omega (arith, low.before b (omega arith), up.from b (omega arith) (omega (arith, low.within))))

    here : (j : ℕ) → a ≤ j → j < b → object_at s j ≡ object
    here j h l = let u = greater j h (omega (arith, up.within)) in unfold object_at key_of in omega (arith, up.before j l, key_is (entry s properties j))

    beyond : (j : ℕ) → b ≤ j → j < count s properties → object < object_at s j
    unfolding object_at key_of g
    beyond j h l = omega (arith, up.from j h l, key_is (entry s properties j), id_below g bytes j)

    pub index_past : (i o : ℕ) → a < i → i ≤ count s properties → o ≡ object_at s (i - 1) → (o ≡ object → ⊥) → b - a ≡ rank s object i
    index_past i o h l e q = go (dec_le b (i - 1))
      where
        go : Dec (b ≤ i - 1) → b - a ≡ rank s object i
        go (yes k) =
            let x : b + (i - b) ≡ i = omega arith in
            let y : a + (b - a) ≡ b = omega (arith, first_last) in
            sym
            (sym (ap (rank s object) x)
            ∙ rank_flat s object b (i - b) (λ j m n z. omega (arith, beyond j m (omega arith)))
            ∙ sym (ap (rank s object) y)
            ∙ rank_along s object a (b - a) (λ j m n. here j m (omega arith))
            ∙ to_first (b - a))
        go (no k) = absurd (q (e ∙ here (i - 1) (omega arith) (omega arith)))

  -- A PROPERTY BY ITS INDEX stands so far behind the first
  module _ (n i index : ℕ) (c : Counted s properties n) (at : i ≡ a + index) where
    pub nth_there : (o : ℕ) → i < n → o ≡ object_at s i → o ≡ object → i ≡ nth_of s object index
    nth_there o l e q =
        let w : i < count s properties = omega (arith, c.is) in
        let is : object_at s i ≡ object = sym e ∙ q in
        let r = rank_is g bytes a i (omega arith) w (same i w is a (omega arith) (omega arith) ∙ sym is) (λ j k z. no_lesser j k (z ∙ is)) in
        sym (nth_hit s object index i w is (sym (ap (λ (x : ℕ). rank s x i) is) ∙ r ∙ omega arith))

    only : (j : ℕ) → j < count s properties → object_at s j ≡ object → rank s object j ≡ index → j ≡ i
    only j w is r = go (dec_le a j)
      where
        go : Dec (a ≤ j) → j ≡ i
        go (yes h) =
            let k = rank_is g bytes a j h w (same j w is a (omega arith) h ∙ sym is) (λ m l z. no_lesser m l (z ∙ is)) in
            omega (arith, sym (ap (λ (x : ℕ). rank s x j) is) ∙ k)
        go (no h) = absurd (no_lesser j (omega arith) is)

    pub nth_short : n ≤ i → n ≡ nth_of s object index
    nth_short h = c.is ∙ sym (nth_none s object index (λ j w is r. omega (arith, only j w is r, c.is)))

    pub nth_other : (o : ℕ) → i < n → o ≡ object_at s i → (o ≡ object → ⊥) → n ≡ nth_of s object index
    nth_other o l e q = c.is ∙ sym (nth_none s object index (λ j w is r. q (e ∙ sym (ap (object_at s) (only j w is r)) ∙ is)))
