-- No refusal has the number of what is not refused, 0 or 1. Assumes nothing.
use Rattle.octets.proofs.Kit.{◌≡◌, arith}
use Rattle.versions.specs.Refusal.{number_of}
use Rattle.versions.specs.declared.refusal.Refusal.{Refusal}
use Rattle.versions.specs.declared.refusal.Refusal.TheVariants.{Bad, Old, Store, Number, Place, Room, NotKept, NotAtZero, OtherEntries, HighCount}

pub never_none : (e : Refusal) → number_of e ≡ 0 → ⊥
never_none Bad h = omega arith
never_none Old h = omega arith
never_none Store h = omega arith
never_none Number h = omega arith
never_none Place h = omega arith
never_none Room h = omega arith
never_none NotKept h = omega arith
never_none NotAtZero h = omega arith
never_none OtherEntries h = omega arith
never_none HighCount h = omega arith

pub never_done : (e : Refusal) → number_of e ≡ 1 → ⊥
never_done Bad h = omega arith
never_done Old h = omega arith
never_done Store h = omega arith
never_done Number h = omega arith
never_done Place h = omega arith
never_done Room h = omega arith
never_done NotKept h = omega arith
never_done NotAtZero h = omega arith
never_done OtherEntries h = omega arith
never_done HighCount h = omega arith
