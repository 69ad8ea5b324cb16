-- The spans of a restore name every byte of every property and no other, each once.
use Rattle.octets.proofs.Kit.{ℕ, zero, suc, ◌+◌, ◌*◌, ◌-◌, ◌<◌, ◌≡◌, refl, ap, subst, ◌∙◌, true, false, cond, ◌&&◌, List, [], ◌∷◌, ◌++◌, eqb, get_or, ℕ_discrete, arith, eqb-true, eq-eqb}
use Rattle.octets.proofs.Kit.{lt-ltb, le-leb}
use Rattle.octets.proofs.Truths.{and_is}
use Rattle.sheet.{specs.{Kind.properties, Layout.◌of◌, Entries.{count, entry}, Places.PropertyWith, declared.Memory.Memory}, proofs.rules.Good.Good}
use Rattle.sheet.specs.Property as property
use Rattle.versions.specs.Settings.{in_version, body_in_version}
use Rattle.history.specs.{Location.{Location, memory, body, counter, key}, Span.{Span, has, put}, Wish.{change, restore_all}, Permit.{over, count_from, body_from, spans}}
use Rattle.history.proofs.{spans.Bools.must_fail, places.Standing.property_once, spans.Spans.{has_on, laid}}

-- spans one after the other
laid_append : (ps qs : List Span) (c : Location → ℕ) (x : Location) → laid (ps ++ qs) c x ≡ laid ps (laid qs c) x
laid_append [] qs c x = refl
laid_append (p ∷ ps) qs c x = ap (λ (n : ℕ). cond (has p x) (put p x) n) (laid_append ps qs c x)

module _ (p : ℕ → Span) (c : Location → ℕ) (x : Location) where
  -- none of them has it
  over_miss : (n : ℕ) → ((i : ℕ) → i < n → has (p i) x ≡ false) → laid (over n p) c x ≡ c x
  unfolding over
  over_miss zero none = refl
  over_miss (suc n) none = rw (none n (omega arith)) (over_miss n (λ i h. none i (omega arith)))

  -- one of them alone has it
  over_hit : (n i : ℕ) → i < n → has (p i) x ≡ true → ((m : ℕ) → m < n → has (p m) x ≡ true → m ≡ i) → laid (over n p) c x ≡ put (p i) x
  unfolding over
  over_hit zero i h e once = absurd (omega arith)
  over_hit (suc n) i h e once = go (ℕ_discrete n i) (λ k. over_hit n i k e (λ m l. once m (omega arith)))
    where
      go : Dec (n ≡ i) → (i < n → laid (over n p) c x ≡ put (p i) x) → cond (has (p n) x) (put (p n) x) (laid (over n p) c x) ≡ put (p i) x
      go (yes q) r = rw (q, e)
      go (no q) r = rw (must_fail (has (p n) x) (λ t. q (once n (omega arith) t))) (r (omega arith))

module _ {s : List ℕ} (g : Good s) (d : List ℕ) (c : Location → ℕ) where
  abbrev N : ℕ
  N = count s properties

  abbrev All : List Span
  All = over N (count_from s d) ++ over N (body_from s d)

  all_are : spans s c d (change restore_all) ≡ All
  unfolding spans
  all_are = refl

  -- a span of property m has a byte of the property with an object and id only if it is the one
  its_own : {object id i : ℕ} → PropertyWith s object id i → (m : ℕ) → m < N →
      (eqb (property.object of entry s properties m) object && (eqb (property.id of entry s properties m) id && true)) ≡ true → m ≡ i
  its_own {object} {id} is m h e =
      let a = (and_is (eqb (property.object of entry s properties m) object) _).0 e in
      let b = (and_is (eqb (property.id of entry s properties m) id) true).0 a.1 in
      property_once g (record { there = h; same_object = eqb-true _ _ a.0; same_id = eqb-true _ _ b.0 }) is

  -- A BYTE OF A COUNT
  pub counter_laid :
      {object id i : ℕ} → PropertyWith s object id i → (j : ℕ) → j < (property.count).width →
      laid (spans s c d (change restore_all)) c (counter object id j) ≡ get_or d (in_version i ((property.count).at + j)) 0
  unfolding spans has put
  counter_laid {object} {id} {i} is j h =
      laid_append (over N (count_from s d)) (over N (body_from s d)) c (counter object id j)
      ∙ over_hit (count_from s d) (laid (over N (body_from s d)) c) (counter object id j) N i is.there
      (simp (eq-eqb _ object is.same_object, eq-eqb _ id is.same_id, lt-ltb j 2 h, le-leb 0 j (omega arith)))
      (λ m l e. its_own is m l ((and_is (eqb (property.object of entry s properties m) object && (eqb (property.id of entry s properties m) id && true)) _).0 e).0)
      ∙ ap (λ (k : ℕ). get_or d (in_version i ((property.count).at + k)) 0) (let z : j - 0 ≡ j = omega arith in z)

  its_body :
      {object id i : ℕ} → PropertyWith s object id i → (j : ℕ) → j < property.element of entry s properties i * property.maximum of entry s properties i →
      has (body_from s d i) (body object id j) ≡ true
  its_body {object} {id} {i} is j h =
      let z : 0 + j ≡ j = omega arith in
      subst (λ (o : ℕ). has (body_from s d i) (body o id j) ≡ true) is.same_object
      (subst (λ (k : ℕ). has (body_from s d i) (body (property.object of entry s properties i) k j) ≡ true) is.same_id
      (subst (λ (m : ℕ). has (body_from s d i) (body (property.object of entry s properties i) (property.id of entry s properties i) m) ≡ true) z
      (has_on (body_from s d i) j h)))

  -- A BYTE OF A BODY
  pub body_laid :
      {object id i : ℕ} → PropertyWith s object id i → (j : ℕ) → j < property.element of entry s properties i * property.maximum of entry s properties i →
      laid (spans s c d (change restore_all)) c (body object id j) ≡ get_or d (body_in_version s i + j) 0
  unfolding spans has put
  body_laid {object} {id} {i} is j h =
      laid_append (over N (count_from s d)) (over N (body_from s d)) c (body object id j)
      ∙ over_miss (count_from s d) (laid (over N (body_from s d)) c) (body object id j) N (λ m l. refl)
      ∙ over_hit (body_from s d) c (body object id j) N i is.there
      (its_body is j h)
      (λ m l e. its_own is m l ((and_is (eqb (property.object of entry s properties m) object && (eqb (property.id of entry s properties m) id && true)) _).0 e).0)
      ∙ ap (λ (k : ℕ). get_or d (body_in_version s i + k) 0) (let z : j - 0 ≡ j = omega arith in z)

  -- NO BYTE OF MEMORY, NONE OF A KEY
  pub memory_laid : (m : Memory) (y : ℕ) → laid (spans s c d (change restore_all)) c (memory m y) ≡ c (memory m y)
  unfolding spans has
  memory_laid m y =
      laid_append (over N (count_from s d)) (over N (body_from s d)) c (memory m y)
      ∙ over_miss (count_from s d) (laid (over N (body_from s d)) c) (memory m y) N (λ m l. refl)
      ∙ over_miss (body_from s d) c (memory m y) N (λ m l. refl)

  pub key_laid : (l j : ℕ) → laid (spans s c d (change restore_all)) c (key l j) ≡ c (key l j)
  unfolding spans has
  key_laid l j =
      laid_append (over N (count_from s d)) (over N (body_from s d)) c (key l j)
      ∙ over_miss (count_from s d) (laid (over N (body_from s d)) c) (key l j) N (λ m l. refl)
      ∙ over_miss (body_from s d) c (key l j) N (λ m l. refl)
