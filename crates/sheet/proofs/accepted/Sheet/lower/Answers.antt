-- `sheet::Sheet::lower` meets its contract. The invariant: before lo the first words are below the key, from hi on they are not.
use Rattle.octets.proofs.Kit.{rules}
use Rattle.sheet.proofs.{searches.{SearchLoops.{ok_framed, kind_known}, Halves.{halves_begin, half_there, upper_half, lower_half, halves_end}}}
use Rattle.sheet.proofs.accepted.Sheet.lower.Goals as goal

pub many-hi-requires : goal.many-hi-requires
many-hi-requires c = search (ok_framed, rules)

pub loop-lo-init : goal.loop-lo-init
loop-lo-init c = search halves_begin

pub first_word-requires : goal.first_word-requires
first_word-requires c = search (half_there, kind_known)

pub loop-lo-preserved-then-first_word-key : goal.loop-lo-preserved-then-first_word-key
loop-lo-preserved-then-first_word-key c = search (upper_half, kind_known)

pub loop-lo-preserved : goal.loop-lo-preserved
loop-lo-preserved c = search (lower_half, kind_known)

pub returns : goal.returns
returns c = search halves_end
