-- The number of the refusal is 0 exactly of a standard frame; what that says of its length. Assumes nothing.
use Rattle.octets.proofs.Kit.{ℕ, ◌+◌, ◌%◌, ◌≤◌, ◌<◌, ◌≡◌, refl, sym, Bool, true, false, cond, ◌||◌, inl, inr, ⊎_elim, List, arith, length, ltb, eqb, le-ltb, eq-eqb, ltb-false, eqb-true}
use Rattle.std.specs.Prelude.{Result, Ok, Err, is_ok}
use Rattle.octets.{specs.Octets.ReadFrom, proofs.{Truths.or_is, Numbers.num_one}}
use Rattle.cemi.specs.{Layout.{request, indication, octet6, info_length, stated, ◌of◌}, Read.{standard_of, refusal_of, got_by, fields_in, frame_in, read_frame}, Standard.Standard}
use Rattle.cemi.specs.Refusal.{read_number}
use Rattle.cemi.specs.declared.{Fields.Fields, Frame.Frame, ReadRefusal.{ReadRefusal, TheVariants.{Short, Code, Extended, Length}}}
use Rattle.cemi.proofs.Judging.{of_request, of_indication}

-- a choice that is no refusal went the other way than to one
passed : (t : Bool) (e : ReadRefusal) (r : Result (Unit {0}) ReadRefusal) → cond t (Err e) r ≡ Ok tt → (t ≡ false) × (r ≡ Ok tt)
passed true e r h = cc
passed false e r h = (refl, h)

held : (t : Bool) (e : ReadRefusal) (r : Result (Unit {0}) ReadRefusal) → cond t r (Err e) ≡ Ok tt → (t ≡ true) × (r ≡ Ok tt)
held true e r h = (refl, h)
held false e r h = cc

module _ (n l : ℕ) (f : Fields) (x : ℕ) where
  pub accepted : refusal_of n l f x ≡ Ok tt → Standard n l f x
  unfolding refusal_of standard_of
  accepted e =
      let a = passed (ltb n 2) Short _ e in
      let b = passed (ltb n (10 + l)) Short _ a.1 in
      let c = held (eqb f.code request || eqb f.code indication) Code _ b.1 in
      let d = passed (ltb f.control1 128) Extended _ c.1 in
      let g = held (eqb (f.control2 % 16) 0) Extended _ d.1 in
      let h = passed (ltb 15 x) Length _ g.1 in
      let i = held (eqb (octet6 l + (x + 1)) n) Length (Ok tt) h.1 in
      record {
        long = ltb-false n (10 + l) b.0;
        known = ⊎_elim (λ k. inl (eqb-true f.code request k)) (λ k. inr (eqb-true f.code indication k)) ((or_is (eqb f.code request) (eqb f.code indication)).0 c.0);
        standard = ltb-false f.control1 128 d.0;
        plain = eqb-true (f.control2 % 16) 0 g.0;
        short = ltb-false 15 x h.0;
        stated = eqb-true (octet6 l + (x + 1)) n i.0;
      }

  fitting : Standard n l f x → Ok tt ≡ standard_of n l f x
  unfolding standard_of
  fitting s = simp (le-ltb f.control1 128 s.standard, eq-eqb (f.control2 % 16) 0 s.plain, le-ltb 15 x s.short, eq-eqb (octet6 l + (x + 1)) n s.stated)

  pub accepts : Standard n l f x → refusal_of n l f x ≡ Ok tt
  accepts s =
      let h : 2 ≤ n = omega (arith, s.long) in
      sym
      (⊎_elim
      (λ e. of_request n l f x h s.long (Ok tt) e (fitting s))
      (λ e. of_indication n l f x h s.long (Ok tt) e (fitting s))
      s.known)

-- the bytes are a standard frame
abbrev pub IsStandard : List ℕ → Type 0
IsStandard b = Standard (length b) (info_length b) (fields_in b) (stated of b)

-- a judgement that is Ok
pub is_judged : (r : Result (Unit {0}) ReadRefusal) → is_ok r ≡ true → r ≡ Ok tt
is_judged (Ok u) e = refl
is_judged (Err y) e = cc

module _ (b : List ℕ) where
  abbrev judged : Result (Unit {0}) ReadRefusal
  judged = refusal_of (length b) (info_length b) (fields_in b) (stated of b)

  read_is : (r : Result (Unit {0}) ReadRefusal) (g : Frame) (f : Frame) → got_by r g ≡ Ok f → (r ≡ Ok tt) × (g ≡ f)
  read_is (Ok u) g f e = (refl, cc)
  read_is (Err y) g f e = cc

  -- WHAT READS IS A STANDARD FRAME, AND WHICH
  pub reads_standard : (f : Frame) → read_frame b ≡ Ok f → IsStandard b × (frame_in b ≡ f)
  unfolding read_frame
  reads_standard f e =
      let z = read_is judged (frame_in b) f e in (accepted (length b) (info_length b) (fields_in b) (stated of b) z.0, z.1)

  -- AND EVERY STANDARD FRAME READS
  pub standard_reads : IsStandard b → read_frame b ≡ Ok (frame_in b)
  unfolding read_frame
  standard_reads s = rw (accepts (length b) (info_length b) (fields_in b) (stated of b) s)

  -- a refusal has a number
  pub refused_some : (e : ReadRefusal) → read_frame b ≡ Err e → read_number e ≡ 0 → ⊥
  refused_some Short q z = omega (arith, z)
  refused_some Code q z = omega (arith, z)
  refused_some Extended q z = omega (arith, z)
  refused_some Length q z = omega (arith, z)

  -- A FRAME THAT READS HAS 10 TO 280 BYTES
  pub sized : (f : Frame) → ReadFrom b (Ok f) (read_frame b) → (10 ≤ length b) × (length b ≤ 280)
  sized f call =
      let s = (reads_standard f (sym call.is)).0 in
      let l : info_length b < 256 = rw (num_one b 1) (call.bytes 1) in
      omega arith
