-- `parts::lists::write_entries` meets its contract.
use Rattle.octets.proofs.Kit.{arith, refl}
use Rattle.std.proofs.lemmas.List.{get_or_read_under}
use Rattle.parts.proofs.{Runs.{none_written, one_written, all_written, next_place}}
use Rattle.parts.proofs.lists.write_entries.Goals as goal

pub loop-i-init : goal.loop-i-init
loop-i-init g c = none_written

pub loop-i-preserved : goal.loop-i-preserved
loop-i-preserved g c =
    let is = get_or_read_under _ _ _ _ g.E.Entry.NONE c.index-entries-i.is c.loop-i-test.true refl in
    let wrote = rw (c.SIZE.ensures, is) at c.write.ensures in
    one_written c.loop-i.invariant (omega arith) wrote c.write.auto.sheet (next_place _ _ _)

pub returns : goal.returns
returns g c = all_written c.loop-i.invariant (omega arith)
