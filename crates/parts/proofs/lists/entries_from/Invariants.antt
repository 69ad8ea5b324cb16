-- `parts::lists::entries_from` meets its contract.
use Rattle.octets.proofs.Kit.{◌+◌, ◌*◌}
use Rattle.parts.proofs.{Filled.{Filling}}
use Rattle.parts.proofs.lists.entries_from.Given as goal

abbrev pub invariant-loop-i : goal.invariant-loop-i
invariant-loop-i g l = Filling g.E.Entry.NONE (λ x j. g.E.Entry.is x l.sheet (l.at + g.E.Entry.SIZE * j)) g.row.N l.n l.entries l.i
