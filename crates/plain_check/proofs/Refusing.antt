-- What refuses a sheet that keeps all rules, and one that breaks any.
use Rattle.octets.proofs.Kit.{ℕ, ◌≡◌, refl, sym, Bool, true, false, List, arith}
use Rattle.octets.specs.Bytes.{num_at}
use Rattle.sheet.specs.{Rules.{rule_of, refusal_of}, Plain.{S1, S2, S3, S4, S5, S6, S7, S8, S9, Judged, breaks1, breaks2, breaks3, breaks4, breaks5, breaks6, breaks7, breaks8, breaks9, none}}
use Rattle.sheet.proofs.promises.{Plains.{judged, judged_only}, Verdicts.{says_old, says_accepted, refused_bad, refused_old, refused_none}}
use Rattle.plain_check.specs.Says.{Says}

module _ (s : List ℕ) where
  -- all nine
  abbrev All : Type 0
  All = S1 s × S2 2 s × S3 s × S4 s × S5 s × (S6 s × S7 s × S8 s × S9 s)

  all_kept : {n : ℕ} → Judged 2 s n → n ≡ 0 → All
  all_kept (breaks1 n) q = absurd (omega arith)
  all_kept (breaks2 a n) q = absurd (omega arith)
  all_kept (breaks3 a b n) q = absurd (omega arith)
  all_kept (breaks4 a b c n) q = absurd (omega arith)
  all_kept (breaks5 a b c d n) q = absurd (omega arith)
  all_kept (breaks6 a b c d e n) q = absurd (omega arith)
  all_kept (breaks7 a b c d e f n) q = absurd (omega arith)
  all_kept (breaks8 a b c d e f g n) q = absurd (omega arith)
  all_kept (breaks9 a b c d e f g h n) q = absurd (omega arith)
  all_kept (none a b c d e f g h i) q = (a, b, c, d, e, (f, g, h, i))

  kept_all : All → rule_of s ≡ 0
  kept_all m = sym (judged_only 2 s (none m.0 m.1 m.2 m.3 m.4 m.5.0 m.5.1 m.5.2 m.5.3))

  module _ (a : Bool) (kept : Says All a) where
    -- AS THE RETURNS ASK
    pub says_bad : a ≡ false → 4 ≡ refusal_of s
    says_bad t = sym (refused_bad s (λ z. kept.no t (all_kept (judged 2 s) z)))

    module _ (t : a ≡ true) (n : ℕ) (n-is : n ≡ num_at s 0 1) where
      unbroken : 0 ≡ rule_of s
      unbroken = sym (kept_all (kept.yes t))

      pub says_retired : n ≡ 1 → 14 ≡ refusal_of s
      says_retired h = sym (refused_old s (sym (says_old s 0 unbroken refl n n-is h)))

      pub says_none : (n ≡ 1 → ⊥) → 0 ≡ refusal_of s
      says_none h = sym (refused_none s (sym (says_accepted s 0 unbroken refl n n-is h)))
