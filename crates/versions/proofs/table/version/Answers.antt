-- `versions::table::version` meets its contract.
use Rattle.octets.proofs.Kit.{refl, arith}
use Rattle.octets.specs.Octets.{Octets}
use Rattle.versions.proofs.{Restorer.{table_there, count_there, no_version, row_there, offset_there, long_there, some_version}}
use Rattle.versions.proofs.table.version.Goals as goal

pub word-requires : goal.word-requires
word-requires c = count_there _ c.requires

pub find-requires : goal.find-requires
find-requires c = table_there _ _ c.requires c.word.ensures

pub returns-in_err-i : goal.returns-in_err-i
returns-in_err-i c = rw c.from_residual.ensures (no_version _ _ _ _ c.requires c.word.ensures c.in_err-i.ensures (omega arith))

pub table_end-p-requires : goal.table_end-p-requires
table_end-p-requires c = let i = c.in_ok-i.ensures in omega (arith, i.1, row_there _ _ _ _ c.requires c.word.ensures i.0 _ refl i.1)

pub word-requires-2 : goal.word-requires-2
word-requires-2 c = let i = c.in_ok-i.ensures in offset_there _ _ _ _ c.requires c.word.ensures i.0 _ c.table_end-p.ensures i.1

pub word-requires-3 : goal.word-requires-3
word-requires-3 c = let i = c.in_ok-i.ensures in long_there _ _ _ _ c.requires c.word.ensures i.0 _ c.table_end-p.ensures i.1

pub returns : goal.returns
returns c =
    let b : Octets c.args.store.now = λ i. (c.type_inv.store i).fits in
    let i = c.in_ok-i.ensures in
    some_version _ _ _ _ c.requires c.word.ensures i.0 _ c.table_end-p.ensures i.1 _ _ b c.word-2.ensures c.word-3.ensures
