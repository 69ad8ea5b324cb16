-- `sheet_check::read_all` meets its contract. The invariant: what came fits the buffer, which is as long as it was.
use Rattle.octets.proofs.Kit.{◌≤◌, ◌-◌, ◌≡◌, length}
use Rattle.sheet_check.proofs.read_all.Given as goal

abbrev pub invariant-loop-n : goal.invariant-loop-n
invariant-loop-n g l = (l.n ≤ length l.buf) × (length l.buf ≡ length l.initial.buf)

abbrev pub decreases-loop-n : goal.decreases-loop-n
decreases-loop-n g l = length l.buf - l.n
