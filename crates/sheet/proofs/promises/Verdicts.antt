-- What is said of a sheet: every sheet is accepted, old or bad, and one of these alone.
use Rattle.octets.proofs.Kit.{ℕ, ◌≡◌, refl, sym, ◌∙◌, ◌↔◌, ◌⊎◌, inl, inr, cond, List, eqb, ℕ_discrete, arith, eq-eqb, ne_eqb}
use Rattle.sheet.specs.{Layout.◌of◌, Rules.{rule_in, rule_of, verdict_of, refusal_of, refusal_before, Accepted, Old, Bad, old, edition, retired}, Agree.Agree}
use Rattle.sheet.specs.Head as head
use Rattle.sheet.proofs.{rules.{First.or_else_some, Good.{GoodIn, passing, passes, frame_met, no_rule}}, promises.{Nine.at_most_nine, Agrees.{kept, agree_sym, both_or_neither}}}

-- as the code's returns ask
module _ (s : List ℕ) (r : ℕ) (r-is : r ≡ rule_of s) where
  pub says_rule : (r ≡ 0 → ⊥) → r ≡ verdict_of s
  unfolding verdict_of
  says_rule h = rw (← r-is) (sym (or_else_some r _ h))

  module _ (z : r ≡ 0) (e : ℕ) (e-is : e ≡ head.edition of s) where
    pub says_old : e ≡ 1 → 14 ≡ verdict_of s
    unfolding verdict_of
    says_old h = rw (← r-is, z, eq-eqb (head.edition of s) 1 (sym e-is ∙ h))

    pub says_accepted : (e ≡ 1 → ⊥) → 0 ≡ verdict_of s
    unfolding verdict_of
    says_accepted h = rw (← r-is, z, ne_eqb (head.edition of s) 1 (λ q. h (e-is ∙ q)))

module _ (s : List ℕ) where
  -- by the first rule broken, and by the edition where none is
  broken_said : Bad s → verdict_of s ≡ rule_of s
  broken_said b = sym (says_rule s (rule_of s) refl b)

  passed_said : rule_of s ≡ 0 → verdict_of s ≡ cond (eqb (head.edition of s) 1) old 0
  unfolding verdict_of
  passed_said z = rw z

  old_or_not : (n : ℕ) → cond (eqb n 1) old 0 ≡ old → n ≡ 1
  old_or_not n h = go (ℕ_discrete n 1)
    where
      go : Dec (n ≡ 1) → n ≡ 1
      go (yes e) = e
      go (no e) = let z : ◌≡◌ {A = ℕ} 0 14 = rw (ne_eqb n 1 e) at h in absurd (omega arith)

  -- AN OLD SHEET BREAKS NO RULE AND IS OF EDITION 1
  pub old_passes : Old s → rule_of s ≡ 0
  old_passes o = go (ℕ_discrete (rule_of s) 0)
    where
      go : Dec (rule_of s ≡ 0) → rule_of s ≡ 0
      go (yes z) = z
      go (no b) = absurd (omega (arith, o, broken_said b, at_most_nine edition s))

  pub old_first : Old s → head.edition of s ≡ retired
  old_first o = old_or_not (head.edition of s) (sym (passed_said (old_passes o)) ∙ o)

  pub old_good : Old s → GoodIn retired s
  old_good o = passing edition retired s (old_passes o) (old_first o)

  -- and so is every such sheet
  pub is_old : GoodIn retired s → Old s
  is_old g = passed_said (passes edition (omega arith) g) ∙ rw (eq-eqb (head.edition of s) 1 g.own)

  -- THE OLD SHEETS ARE THOSE THAT THE RULES OF EDITION 1 ALONE LET PASS
  pub old_is : Old s ↔ (rule_in retired s ≡ 0)
  old_is = (
    λ o. passes retired (omega arith) (old_good o),
    λ e. is_old (passing retired retired s e (let m = frame_met retired s e in omega (arith, m))),
  )

  -- EVERY SHEET IS ACCEPTED, OLD OR BAD
  pub one_of_three : Accepted s ⊎ (Old s ⊎ Bad s)
  one_of_three = go (ℕ_discrete (rule_of s) 0) (ℕ_discrete (head.edition of s) 1)
    where
      go : Dec (rule_of s ≡ 0) → Dec (head.edition of s ≡ 1) → Accepted s ⊎ (Old s ⊎ Bad s)
      go (no b) d = inr (inr b)
      go (yes z) (yes e) = inr (inl (passed_said z ∙ rw (eq-eqb (head.edition of s) 1 e)))
      go (yes z) (no e) = inl (passed_said z ∙ rw (ne_eqb (head.edition of s) 1 e))

  -- AND ONE OF THEM ALONE
  pub one_alone : (Accepted s → Old s → ⊥) × (Accepted s → Bad s → ⊥) × (Old s → Bad s → ⊥)
  one_alone = (λ a o. omega (arith, a, o), λ a b. b (no_rule s a), λ o b. b (old_passes o))

  -- what a call is refused by
  pub refused_bad : Bad s → refusal_of s ≡ 4
  refused_bad b =
      rw (broken_said b, ne_eqb (rule_of s) 0 b, ne_eqb (rule_of s) 14 (λ e. omega (arith, e, at_most_nine edition s)))

  pub refused_old : Old s → refusal_of s ≡ 14
  refused_old o = rw o

  pub refused_none : Accepted s → refusal_of s ≡ 0
  refused_none a = rw a

  -- and only then not
  pub unrefused : refusal_of s ≡ 0 → Accepted s
  unrefused e = go one_of_three
    where
      go : Accepted s ⊎ (Old s ⊎ Bad s) → Accepted s
      go (inl a) = a
      go (inr (inl o)) = absurd (omega (arith, e, refused_old o))
      go (inr (inr b)) = absurd (omega (arith, e, refused_bad b))

  -- by 0, 14 or 4, and by no other number
  pub refusals : (refusal_of s ≡ 0) ⊎ ((refusal_of s ≡ 14) ⊎ (refusal_of s ≡ 4))
  refusals = go one_of_three
    where
      go : Accepted s ⊎ (Old s ⊎ Bad s) → (refusal_of s ≡ 0) ⊎ ((refusal_of s ≡ 14) ⊎ (refusal_of s ≡ 4))
      go (inl a) = inl (refused_none a)
      go (inr (inl o)) = inr (inl (refused_old o))
      go (inr (inr b)) = inr (inr (refused_bad b))

  pub not_refused : (n : ℕ) → n ≡ refusal_of s → n ≡ 0 → Accepted s
  not_refused n e z = unrefused (sym e ∙ z)

  -- THE RELEASE BEFORE refused a bad sheet by 4, and no other
  pub refused_before : ((rule_of s ≡ 0) × (refusal_before s ≡ 0)) ⊎ (Bad s × (refusal_before s ≡ 4))
  refused_before = go (ℕ_discrete (rule_of s) 0)
    where
      go : Dec (rule_of s ≡ 0) → ((rule_of s ≡ 0) × (refusal_before s ≡ 0)) ⊎ (Bad s × (refusal_before s ≡ 4))
      go (yes z) = inl (z, rw z)
      go (no b) = inr (b, rw (ne_eqb (rule_of s) 0 b, ne_eqb (rule_of s) 14 (λ e. omega (arith, e, at_most_nine edition s))))

-- OF TWO THAT AGREE BOTH ARE ACCEPTED, OLD OR BAD, so a call on them is refused alike
pub both_old : {s s' : List ℕ} → Agree s s' → Old s → Old s'
both_old {s} {s'} a o = is_old s' (kept (old_good s o) a)

pub refused_alike : {s s' : List ℕ} → Agree s s' → refusal_of s' ≡ refusal_of s
refused_alike {s} {s'} a = go (one_of_three s) (one_of_three s')
  where
    go : Accepted s ⊎ (Old s ⊎ Bad s) → Accepted s' ⊎ (Old s' ⊎ Bad s') → refusal_of s' ≡ refusal_of s
    go (inl x) y = refused_none s' ((both_or_neither a).0 x) ∙ sym (refused_none s x)
    go (inr (inl o)) y = refused_old s' (both_old a o) ∙ sym (refused_old s o)
    go (inr (inr b)) (inl y) = absurd (b (no_rule s ((both_or_neither a).1 y)))
    go (inr (inr b)) (inr (inl o)) = absurd (b (old_passes s (both_old (agree_sym a) o)))
    go (inr (inr b)) (inr (inr c)) = refused_bad s' c ∙ sym (refused_bad s b)
