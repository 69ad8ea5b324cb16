-- `octets::move_down` meets its contract. The invariant: the first j bytes have been moved.
use Rattle.octets.proofs.Kit.{◌≡◌, length}
use Rattle.octets.specs.Moved.{moved}
use Rattle.octets.proofs.move_down.Given as goal

abbrev pub invariant-loop-j : goal.invariant-loop-j
invariant-loop-j l = (l.s ≡ moved l.initial.s l.from l.to l.j) × (length l.s ≡ length l.initial.s)
