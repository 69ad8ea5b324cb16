-- `playback::rules::walk` meets its contract. Assumes nothing.
use Rattle.playback.proofs.{Walking.{Walked}}
use Rattle.playback.proofs.rules.walk.Given as goal

abbrev pub invariant-loop-i : goal.invariant-loop-i
invariant-loop-i l = Walked l.t l.n l.i l.z
