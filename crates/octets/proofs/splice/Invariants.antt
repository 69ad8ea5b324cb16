-- `octets::splice` meets its contract. The invariant: dst is what it was with src's first j bytes pasted in from `at`.
use Rattle.octets.proofs.Kit.{◌≡◌, length, paste}
use Rattle.octets.proofs.splice.Given as goal

abbrev pub invariant-loop-j : goal.invariant-loop-j
invariant-loop-j l = (l.dst ≡ paste l.initial.dst l.at l.src l.j) × (length l.dst ≡ length l.initial.dst)
