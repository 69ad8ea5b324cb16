-- A FRAME THAT ANSWERS ANOTHER CAN ALWAYS BE WRITTEN, and means data in the mode of the request. Assumes nothing.
use Rattle.octets.proofs.Kit.{ℕ, ◌+◌, ◌-◌, ◌%◌, ◌≤◌, ◌<◌, ◌≡◌, refl, sym, ap, ◌∙◌, Bool, true, false, cond, inl, arith, leb, eqb, le-leb, lt-leb, ne_eqb}
use Rattle.std.specs.Prelude.{Ok, is_ok}
use Rattle.cemi.specs.{Layout.{table, Fit}, Meaning.{multicast, broadcast, connectionless, connected}, Means.{Means, to_all, to_some, plain, numbered, Group, Individual}}
use Rattle.cemi.specs.{Standard.Standard, Write.{numbers_of, count_of, writable}, Answering.answering, declared.{Fields.Fields, Frame.Frame, Meaning.TheVariants.Data}}
use Rattle.cemi.proofs.promises.Standards.{accepts}

-- one of two numbers is below what both are below
below : (t : Bool) (x y n : ℕ) → x < n → y < n → cond t x y < n
below true x y n h k = h
below false x y n h k = k

low_bits : (t : Bool) → cond t 0xE0 0x60 % 16 ≡ 0
low_bits true = refl
low_bits false = refl

module _ (f : Fields) (own mode sequence k : ℕ) (some : 1 ≤ k) (few : k ≤ 16) where
  -- k bytes from octet 6 on
  is_standard : Standard (count_of 0 k) 0 (answering f own mode sequence) (k - 1)
  unfolding answering
  is_standard =
      record {
        long = omega arith;
        known = inl refl;
        standard = omega arith;
        plain = low_bits (leb 128 f.control2);
        short = omega arith;
        stated = omega arith;
      }

  pub answer_writable : writable (answering f own mode sequence) 0 k ≡ true
  unfolding writable answering
  answer_writable =
      let t : cond (eqb mode connected) (16 + sequence % 16) 0 < 64 = below (eqb mode connected) (16 + sequence % 16) 0 64 (omega arith) (omega arith) in
      simp (le-leb (cond (eqb mode connected) (16 + sequence % 16) 0) 63 (omega (arith, t)), le-leb 1 k some, le-leb k 16 few)
      (ap is_ok (accepts (count_of 0 k) 0 (answering f own mode sequence) (k - 1) is_standard))

  pub answer_fits : own < 65536 → f.source < 65536 → f.destination < 65536 → Fit table (numbers_of (answering f own mode sequence) (k - 1))
  unfolding answering
  answer_fits o s d =
      let c = below (leb 128 f.control2) 0xE0 0x60 256 (omega arith) (omega arith) in
      let a = below (leb 128 f.control2) f.destination f.source 65536 d s in
      (omega arith, (c, (o, (a, (omega arith, tt)))))

-- WHAT IT MEANS: data in the mode of the request, whatever it brings
module _ (f : Frame) (own sequence : ℕ) (g : Frame) where
  abbrev Answers : ℕ → Type 0
  Answers mode = g.fields ≡ answering f.fields own mode sequence

  -- to a group if that was asked, else to one
  stays_group : (mode : ℕ) → Answers mode → Group f → Group g × (g.fields.destination ≡ f.fields.destination)
  unfolding answering
  stays_group mode e h = let t = le-leb 128 f.fields.control2 h in rw (e, t) (omega arith, refl)

  stays_one : (mode : ℕ) → Answers mode → Individual f → Individual g
  unfolding answering
  stays_one mode e h = let t = lt-leb 128 f.fields.control2 h in rw (e, t) (omega arith)

  unnumbered : (mode : ℕ) → Answers mode → (mode ≡ connected → ⊥) → g.fields.transport ≡ 0
  unfolding answering
  unnumbered mode e n = let t = ne_eqb mode connected n in rw (e, t)

  numbered_answer : Answers connected → (16 ≤ g.fields.transport) × (g.fields.transport ≤ 31)
  unfolding answering
  numbered_answer e = rw e (omega arith, omega arith)

  pub answer_means : (mode : ℕ) → Answers mode → Means f (Ok (Data mode)) → Means g (Ok (Data mode))
  answer_means _ e (to_all h t d) = let s = stays_group broadcast e h in to_all s.0 (unnumbered broadcast e (omega arith)) (s.1 ∙ d)
  answer_means _ e (to_some h t d) = let s = stays_group multicast e h in to_some s.0 (unnumbered multicast e (omega arith)) (λ z. d (sym s.1 ∙ z))
  answer_means _ e (plain h t) = plain (stays_one connectionless e h) (unnumbered connectionless e (omega arith))
  answer_means _ e (numbered h t u) = numbered (stays_one connected e h) (numbered_answer e).0 (numbered_answer e).1
