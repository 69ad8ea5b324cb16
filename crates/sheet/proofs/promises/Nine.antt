-- The first rule broken has one of the numbers 1 to 9, and 0 says that none is.
use Rattle.octets.proofs.Kit.{ℕ, ◌≤◌, List, arith}
use Rattle.sheet.specs.{Rules.rule_in, Plain.{Judged, breaks1, breaks2, breaks3, breaks4, breaks5, breaks6, breaks7, breaks8, breaks9, none}}
use Rattle.sheet.proofs.promises.Plains.{judged}

few : {ed : ℕ} {s : List ℕ} {n : ℕ} → Judged ed s n → n ≤ 9
few (breaks1 n) = omega arith
few (breaks2 a n) = omega arith
few (breaks3 a b n) = omega arith
few (breaks4 a b c n) = omega arith
few (breaks5 a b c d n) = omega arith
few (breaks6 a b c d e n) = omega arith
few (breaks7 a b c d e f n) = omega arith
few (breaks8 a b c d e f g n) = omega arith
few (breaks9 a b c d e f g h n) = omega arith
few (none a b c d e f g h i) = omega arith

-- AT MOST NINE
pub at_most_nine : (ed : ℕ) (s : List ℕ) → rule_in ed s ≤ 9
at_most_nine ed s = few (judged ed s)
