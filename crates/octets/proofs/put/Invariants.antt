-- `octets::put` meets its contract: storing what is left of the number is what storing all of it was.
use Rattle.octets.proofs.Kit.{◌≡◌, length, sets}
use Rattle.octets.specs.Bytes.{bytes_of}
use Rattle.octets.proofs.put.Given as goal

abbrev pub invariant-loop-i : goal.invariant-loop-i
invariant-loop-i l =
    (sets l.dst l.at (bytes_of l.i l.y) ≡ sets l.initial.dst l.at (bytes_of l.w l.x)) × (length l.dst ≡ length l.initial.dst)
