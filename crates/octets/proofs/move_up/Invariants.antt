-- `octets::move_up` meets its contract. The invariant: the bytes from j on have been moved.
use Rattle.octets.proofs.Kit.{◌+◌, ◌-◌, ◌≡◌, length}
use Rattle.octets.specs.Moved.{moved}
use Rattle.octets.proofs.move_up.Given as goal

abbrev pub invariant-loop-j : goal.invariant-loop-j
invariant-loop-j l = (l.s ≡ moved l.initial.s (l.from + l.j) (l.to + l.j) (l.n - l.j)) × (length l.s ≡ length l.initial.s)
