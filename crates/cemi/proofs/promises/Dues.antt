-- EACH NUMBER OF A READING EXACTLY WHEN IT IS DUE. Assumes nothing.
use Rattle.octets.proofs.Kit.{ℕ, ◌+◌, ◌%◌, ◌≤◌, ◌<◌, ◌≡◌, refl, sym, ap, Bool, true, false, cond, ◌||◌, ◌⊎◌, inl, inr, ⊎_elim, dec_lt, arith, ltb, eqb, lt-ltb, le-ltb, eq-eqb, ne_eqb, ltb-true}
use Rattle.octets.proofs.Kit.{ltb-false, eqb-true, eqb-false}
use Rattle.std.specs.Prelude.{Result, Ok, Err}
use Rattle.octets.proofs.{Truths.or_is, Walks.by_test}
use Rattle.cemi.specs.{Layout.{request, indication, octet6}, Read.{standard_of, refusal_of}, Standard.{Due, too_short, other_code, not_standard, wrong_length, nothing}}
use Rattle.cemi.specs.Refusal.{told}
use Rattle.cemi.specs.declared.{Fields.Fields, ReadRefusal.{ReadRefusal, TheVariants.{Extended, Length}}}
use Rattle.cemi.proofs.{Judging.{no_code_room, too_short_lem, of_request, of_indication, of_another}, promises.Standards.accepts}

neither : (a b : Bool) → (a || b) ≡ false → (a ≡ false) × (b ≡ false)
neither true b e = (e, absurd (let z : ◌≡◌ {A = ℕ} 0 1 = cc in omega arith))
neither false b e = (refl, e)

module _ (n l : ℕ) (f : Fields) (x : ℕ) where
  abbrev Known : Type 0
  Known = (f.code ≡ request) ⊎ (f.code ≡ indication)

  abbrev Is-due : Result (Unit {0}) ReadRefusal → Type 0
  Is-due r = Due n l f x (told r)

  fitted : 10 + l ≤ n → Known → Is-due (standard_of n l f x)
  unfolding standard_of
  fitted h k =
      by_test Is-due (ltb f.control1 128) _ _ (λ e. not_standard h k (inl (ltb-true f.control1 128 e)))
      (λ a. by_test Is-due (eqb (f.control2 % 16) 0) _ _
      (λ b. by_test Is-due (ltb 15 x) _ _
      (λ e. wrong_length h k (ltb-false f.control1 128 a) (eqb-true (f.control2 % 16) 0 b) (inl (ltb-true 15 x e)))
      (λ c. by_test Is-due (eqb (octet6 l + (x + 1)) n) _ _
      (λ e. let s = ltb-false f.control1 128 a in
      nothing record { long = h; known = k; standard = s; plain = eqb-true (f.control2 % 16) 0 b; short = ltb-false 15 x c; stated = eqb-true (octet6 l + (x + 1)) n e })
      (λ e. wrong_length h k (ltb-false f.control1 128 a) (eqb-true (f.control2 % 16) 0 b) (inr (eqb-false (octet6 l + (x + 1)) n e)))))
      (λ b. not_standard h k (inr (eqb-false (f.control2 % 16) 0 b))))

  pub due : Due n l f x (told (refusal_of n l f x))
  unfolding refusal_of
  due =
      by_test Is-due (ltb n 2) _ _ (λ e. too_short (let h = ltb-true n 2 e in omega arith))
      (λ _. by_test Is-due (ltb n (10 + l)) _ _ (λ e. too_short (ltb-true n (10 + l) e))
      (λ a. by_test Is-due (eqb f.code request || eqb f.code indication) _ _
      (λ c. fitted (ltb-false n (10 + l) a) (⊎_elim (λ k. inl (eqb-true f.code request k)) (λ k. inr (eqb-true f.code indication k))
      ((or_is (eqb f.code request) (eqb f.code indication)).0 c)))
      (λ c.
      let d = neither (eqb f.code request) (eqb f.code indication) c in
      other_code (ltb-false n (10 + l) a) (eqb-false f.code request d.0) (eqb-false f.code indication d.1))))

  through : (r : Result (Unit {0}) ReadRefusal) → 10 + l ≤ n → Known → r ≡ standard_of n l f x → told r ≡ told (refusal_of n l f x)
  through r h k e =
      let g : 2 ≤ n = omega arith in
      ap told (⊎_elim (λ c. of_request n l f x g h r c e) (λ c. of_indication n l f x g h r c e) k)

  pub due_one : (r : ℕ) → Due n l f x r → r ≡ told (refusal_of n l f x)
  unfolding standard_of
  due_one r (too_short h) = by (dec_lt n 2)
    where
      by : Dec (n < 2) → 40 ≡ told (refusal_of n l f x)
      by (yes k) = ap told (no_code_room n l f x k)
      by (no k) = ap told (too_short_lem n l f x (omega arith) h)
  due_one r (other_code h a b) = ap told (of_another n l f x (omega arith) h a b)
  due_one r (not_standard h k (inl c)) = through (Err Extended) h k (simp (lt-ltb f.control1 128 c))
  due_one r (not_standard h k (inr c)) = through (Err Extended) h k (by (ltb f.control1 128))
    where
      by : (t : Bool) → ◌≡◌ {A = Result (Unit {0}) ReadRefusal} (Err Extended) (cond t (Err Extended) (cond (eqb (f.control2 % 16) 0) (cond (ltb 15 x) (Err Length) (cond (eqb (octet6 l + (x + 1)) n) (Ok tt) (Err Length))) (Err Extended)))
      by true = refl
      by false = simp (ne_eqb (f.control2 % 16) 0 c)
  due_one r (wrong_length h k a b (inl c)) =
      through (Err Length) h k (simp (le-ltb f.control1 128 a, eq-eqb (f.control2 % 16) 0 b, lt-ltb 15 x c))
  due_one r (wrong_length h k a b (inr c)) =
      through (Err Length) h k (simp (le-ltb f.control1 128 a, eq-eqb (f.control2 % 16) 0 b) (by (ltb 15 x)))
    where
      by : (t : Bool) → ◌≡◌ {A = Result (Unit {0}) ReadRefusal} (Err Length) (cond t (Err Length) (cond (eqb (octet6 l + (x + 1)) n) (Ok tt) (Err Length)))
      by true = refl
      by false = simp (ne_eqb (octet6 l + (x + 1)) n c)
  due_one r (nothing s) = ap told (sym (accepts n l f x s))
