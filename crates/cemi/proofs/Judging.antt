-- From the tests that reading and writing make to the number of the refusal. Assumes nothing.
use Rattle.octets.proofs.Kit.{ℕ, ◌+◌, ◌≤◌, ◌<◌, ◌≡◌, refl, ap, ◌∙◌, Bool, true, false, cond, ◌||◌, inr, eqb, lt-ltb, le-ltb, eq-eqb, ne_eqb}
use Rattle.std.specs.Prelude.{Result, Err}
use Rattle.octets.proofs.Truths.{or_is}
use Rattle.cemi.specs.{Layout.{request, indication}, Read.{standard_of, refusal_of}, declared.{Fields.Fields, ReadRefusal.{ReadRefusal, TheVariants.{Short, Code}}}}

module _ (n l : ℕ) (f : Fields) (x : ℕ) where
  pub no_code_room : n < 2 → Err Short ≡ refusal_of n l f x
  unfolding refusal_of
  no_code_room h = simp (lt-ltb _ _ h)

  module _ (h : 2 ≤ n) where
    pub too_short_lem : n < 10 + l → Err Short ≡ refusal_of n l f x
    unfolding refusal_of
    too_short_lem k = simp (le-ltb _ _ h, lt-ltb _ _ k)

    module _ (k : 10 + l ≤ n) where
      long : (b : Bool) (r : Result (Unit {0}) ReadRefusal) → (eqb f.code request || eqb f.code indication) ≡ b → r ≡ cond b (standard_of n l f x) (Err Code) → r ≡ refusal_of n l f x
      unfolding refusal_of
      long b r e q = simp (le-ltb _ _ h, le-ltb _ _ k, e) q

      pub of_request : (r : Result (Unit {0}) ReadRefusal) → f.code ≡ request → r ≡ standard_of n l f x → r ≡ refusal_of n l f x
      of_request r e q = long true r (ap (λ (t : Bool). t || eqb f.code indication) (eq-eqb _ _ e)) q

      pub of_indication : (r : Result (Unit {0}) ReadRefusal) → f.code ≡ indication → r ≡ standard_of n l f x → r ≡ refusal_of n l f x
      of_indication r e q = long true r ((or_is (eqb f.code request) (eqb f.code indication)).1 (inr (eq-eqb _ _ e))) q

      pub of_another : (f.code ≡ request → ⊥) → (f.code ≡ indication → ⊥) → Err Code ≡ refusal_of n l f x
      of_another a b = long false (Err Code) (ap (λ (t : Bool). t || eqb f.code indication) (ne_eqb _ _ a) ∙ ne_eqb _ _ b) refl
