-- No refusal has the number 0. Assumes nothing.
use Rattle.octets.proofs.Kit.{◌≡◌, arith}
use Rattle.playback.specs.Refusal.{number_of}
use Rattle.playback.specs.declared.refusal.Refusal.{Refusal}
use Rattle.playback.specs.declared.refusal.Refusal.TheVariants.{Short, Many, Table, Kind, Stray, Zero, Offset, PastEnd, LeftOver, Log, Marks, Numbers}

pub never_none : (e : Refusal) → number_of e ≡ 0 → ⊥
never_none Short h = omega arith
never_none Many h = omega arith
never_none Table h = omega arith
never_none Kind h = omega arith
never_none Stray h = omega arith
never_none Zero h = omega arith
never_none Offset h = omega arith
never_none PastEnd h = omega arith
never_none LeftOver h = omega arith
never_none Log h = omega arith
never_none Marks h = omega arith
never_none Numbers h = omega arith
