-- `versions::linking::link` meets its contract: what is left to write gives what all of it gives.
use Rattle.versions.proofs.{Links.{Linking}}
use Rattle.versions.proofs.linking.link.Given as goal

abbrev pub invariant-loop-i : goal.invariant-loop-i
invariant-loop-i l = Linking l.initial.s l.n l.s l.i l.at
