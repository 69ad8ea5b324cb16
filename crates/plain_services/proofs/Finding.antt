-- A straight search of the properties finds the one that the first engine finds.
use Rattle.std.proofs.Common.{Option, Some, None}
use Rattle.octets.proofs.Kit.{ℕ, ◌+◌, ◌*◌, ◌≤◌, ◌<◌, ◌≡◌, sym, ap, subst, ◌∙◌, List, arith, Bool, true, false, ◌&&◌, lit<, eqb, eqb-true, eq-eqb, add-zero, get_or}
use Rattle.octets.{specs.{Octets.Octets, Bytes.num_at}, proofs.{Truths.{never, first_true, second_true}, Tests.both, Numbers.num_one}}
use Rattle.sheet.{specs.{Kind.properties, Entries.{count, place, entry, key_of}, Rules.Accepted}, proofs.{places.Standing.field_at, promises.Keys.{index_hit, index_none, key_is}}}
use Rattle.sheet.specs.Property as property
use Rattle.judge.specs.Properties.{property_at}
use Rattle.parts.specs.{declared.Parts.Parts, Records.{Taken, no_property}}
use Rattle.plain_services.specs.Found.{Finds}

-- what is known of a number found, and where none is
module _ (u : Parts) (n : ℕ) (f : List ℕ → ℕ) (r : Option ℕ) (found : Finds u n f r) where
  pub found_below : (i : ℕ) → r ≡ Some i → i < n
  found_below i e = (rw e at found).below

  pub found_one : (i : ℕ) → r ≡ Some i → (i ≤ n) × ((s : List ℕ) → Accepted s → Octets s → Taken s u → i ≡ f s)
  found_one i e = let v = rw e at found in (omega (arith, v.below), v.is)

  pub found_none : r ≡ None → (n ≤ n) × ((s : List ℕ) → Accepted s → Octets s → Taken s u → n ≡ f s)
  found_none e = let v = rw e at found in (omega arith, v.is)

-- A STRAIGHT SEARCH: what holds of all so far holds of one more
pub one_more_lem : (P : ℕ → Type 0) (i : ℕ) → ((j : ℕ) → j < i → P j) → P i → (j : ℕ) → j < i + 1 → P j
one_more_lem P i f e j h = go (native.Mathlib.Decide.dec_lt j i)
  where
    go : Dec (j < i) → P j
    go (yes l) = f j l
    go (no l) = let q : i ≡ j = omega arith in subst P q e

-- whether property i has that object and id
abbrev pub named : Parts → ℕ → ℕ → ℕ → Bool
named u x y i = eqb (get_or u.properties i no_property).object x && eqb (get_or u.properties i no_property).id y

module _ (u : Parts) (x y : ℕ) (s : List ℕ) (ok : Accepted s) (t : Taken s u) where
  first_word : (i : ℕ) → i < count s properties → key_of s properties i ≡ (get_or u.properties i no_property).object * 256 + (get_or u.properties i no_property).id
  unfolding key_of
  first_word i h =
      let p = t.properties i h in
      omega (
        arith,
        key_is (entry s properties i),
        field_at s properties i property.object (lit< tt),
        field_at s properties i property.id (lit< tt),
        ap (λ (n : ℕ). num_at s n 1) (add-zero (place s properties i)),
        p.object,
        p.id,
      )

  pub hit : (i : ℕ) → i < u.counts.properties → named u x y i ≡ true → i ≡ property_at s x y
  hit i h e =
      let k : i < count s properties = omega (arith, t.counts.properties) in
      let a : (get_or u.properties i no_property).object ≡ x = eqb-true _ x (first_true (eqb (get_or u.properties i no_property).object x) (eqb (get_or u.properties i no_property).id y) e) in
      let b : (get_or u.properties i no_property).id ≡ y = eqb-true _ y (second_true (eqb (get_or u.properties i no_property).object x) (eqb (get_or u.properties i no_property).id y) e) in
      sym (index_hit s ok properties (lit< tt) i (x * 256 + y) k (omega (arith, first_word i k, a, b)))

  -- all bytes are below 256, so that a first word tells object and id
  pub miss : y < 256 → ((i : ℕ) → i < u.counts.properties → named u x y i ≡ false) → Octets s → u.counts.properties ≡ property_at s x y
  miss l f o =
      t.counts.properties
      ∙ sym
      (index_none s properties (x * 256 + y)
      (λ i h e.
      let p = t.properties i h in
      let w = first_word i h in
      let small : (get_or u.properties i no_property).id < 256 = omega (arith, p.id, num_one s (place s properties i + 1), o (place s properties i + 1)) in
      let a : (get_or u.properties i no_property).object ≡ x = omega arith in
      let b : (get_or u.properties i no_property).id ≡ y = omega arith in
      never (sym (f i (omega (arith, t.counts.properties))) ∙ both _ _ (eq-eqb _ x a) (eq-eqb _ y b))))
