-- EVERY BYTE THAT IS COUNTED IS GIVEN, by the history alone.
use Rattle.octets.proofs.Kit.{ℕ, ◌*◌, ◌<◌, ◌≡◌, refl, sym, subst, ◌∙◌, ◌⊎◌, inl, inr, Bool, true, false, cond, ◌&&◌, ◌||◌, List, [], ◌∷◌, ltb, mul-le-mul_right, arith, lt-ltb}
use Rattle.octets.proofs.Truths.{or_is}
use Rattle.events.specs.Events.{Event}
use Rattle.history.specs.{Location.{Location, body, counter}, Span.names, Permit.count_in, History.{First, wished, supplied, content, permitted}}
use Rattle.history.specs.Shown.{element_of, clearing, restoring, given}
use Rattle.history.proofs.{steps.Requests.{Spans, contents_new, contents_same}, spans.{Spans.{laid, laid_is}, Counts.{cleared, counts}}}

module _ (f : First) (object id j : ℕ) where
  pub counted_given :
      (h : List Event) → j < count_in (content f h) object id * element_of f object id → given f object id j h ≡ true
  unfolding given content count_in
  counted_given [] l = lt-ltb _ _ l
  counted_given (e ∷ h) l = go (permitted f h e) refl (restoring (wished e)) refl (clearing object id (wished e)) refl (counted_given h)
    where
      after : permitted f h e ≡ true →
          count_in (content f (e ∷ h)) object id ≡ count_in (laid (Spans f h e) (content f h)) object id
      after p =
          let at : (x : Location) → content f (e ∷ h) x ≡ laid (Spans f h e) (content f h) x =
          λ x. contents_new f h e p x ∙ sym (laid_is (Spans f h e) (content f h) x) in
          rw (at (counter object id 0), at (counter object id 1))

      same : permitted f h e ≡ false → count_in (content f (e ∷ h)) object id ≡ count_in (content f h) object id
      same p = rw (contents_same f h e p (counter object id 0), contents_same f h e p (counter object id 1))

      go : (t : Bool) → permitted f h e ≡ t → (v : Bool) → restoring (wished e) ≡ v → (u : Bool) → clearing object id (wished e) ≡ u →
          (j < count_in (content f h) object id * element_of f object id → given f object id j h ≡ true) →
          cond (t && v) (ltb j (count_in (content f (e ∷ h)) object id * element_of f object id)) (cond (t && u) false ((t && names (Spans f h e) (body object id j)) || given f object id j h)) ≡ true
      go false p v o u q r = r (subst (λ (m : ℕ). j < m * element_of f object id) (same p) l)
      go true p true o u q r = lt-ltb _ _ l
      go true p false o true q r =
          let k : j < count_in (laid (Spans f h e) (content f h)) object id * element_of f object id =
          subst (λ (m : ℕ). j < m * element_of f object id) (after p) l in
          absurd (omega (arith, mul-le-mul_right (element_of f object id) (cleared f.sheet (content f h) (supplied e) object id (wished e) q)))
      go true p false o false q r =
          let k : j < count_in (laid (Spans f h e) (content f h)) object id * element_of f object id =
          subst (λ (m : ℕ). j < m * element_of f object id) (after p) l in
          (or_is (names (Spans f h e) (body object id j)) (given f object id j h)).1
          (either (counts f.sheet (content f h) (supplied e) object id j (wished e) o q k))
        where
          either : (names (Spans f h e) (body object id j) ≡ true) ⊎ (j < count_in (content f h) object id * element_of f object id) →
              (names (Spans f h e) (body object id j) ≡ true) ⊎ (given f object id j h ≡ true)
          either (inl a) = inl a
          either (inr a) = inr (r a)
