-- `parts::lists::write_entries` meets its contract.
use Rattle.octets.proofs.Kit.{◌+◌, ◌*◌, get_or, length}
use Rattle.parts.proofs.{Runs.{Writing}}
use Rattle.parts.proofs.lists.write_entries.Given as goal

abbrev pub invariant-loop-i : goal.invariant-loop-i
invariant-loop-i g l = Writing (λ i s. g.E.Entry.whole (get_or l.entries i g.E.Entry.NONE) (l.at + g.E.Entry.SIZE * i) s) (length l.entries) g.E.Entry.SIZE l.at l.initial.sheet l.sheet l.i
