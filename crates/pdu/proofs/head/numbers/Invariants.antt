-- `pdu::head::numbers` stores the numbers up to the place that the loop has come to.
use Rattle.octets.proofs.Kit.{◌≡◌, ◌+◌, ◌++◌, take}
use Rattle.octets.specs.{Bytes.bytes_of, Splice.splice}
use Rattle.pdu.specs.Parts.{run_of, width_of}
use Rattle.pdu.proofs.head.numbers.Given as goal

abbrev pub invariant-loop-part : goal.invariant-loop-part
invariant-loop-part g l =
    (l.at ≡ 2 + width_of (take l.part-index l.part-items))
    × (l.out ≡ splice l.fn.out 0 (bytes_of 2 l.code ++ run_of (take l.part-index l.part-items)))
