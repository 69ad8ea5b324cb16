-- Faults by their numbers.
use Rattle.octets.proofs.Kit.{◌≡◌, refl, ap, arith}
use Rattle.std.specs.Prelude.{Result, Ok, Err, IsErr, IsErrAnd}
use Rattle.sheet.specs.{Fault.{number_of, told}, declared.Fault.{Fault, TheVariants.{S1, S2, S3, S4, S5, S6, S7, S8, S9, Old}}}

-- 14 is told of an old sheet alone
pub only_old : (fault : Fault) → (fault ≡ Old → ⊥) → number_of fault ≡ 14 → ⊥
only_old S1 n e = omega arith
only_old S2 n e = omega arith
only_old S3 n e = omega arith
only_old S4 n e = omega arith
only_old S5 n e = omega arith
only_old S6 n e = omega arith
only_old S7 n e = omega arith
only_old S8 n e = omega arith
only_old S9 n e = omega arith
only_old Old n e = n refl

-- a fault has a number
pub some_fault : (fault : Fault) → number_of fault ≡ 0 → ⊥
some_fault S1 e = omega arith
some_fault S2 e = omega arith
some_fault S3 e = omega arith
some_fault S4 e = omega arith
some_fault S5 e = omega arith
some_fault S6 e = omega arith
some_fault S7 e = omega arith
some_fault S8 e = omega arith
some_fault S9 e = omega arith
some_fault Old e = omega arith

-- what `?` hands on has the number that it had
pub err_told : (r : Result (Unit {0}) Fault) (fault : Fault) → IsErr r × IsErrAnd r (λ e. e ≡ fault) → told r ≡ number_of fault
err_told (Ok u) fault h = absurd h.1
err_told (Err e) fault h = ap number_of h.1
