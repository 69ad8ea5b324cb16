-- `versions::listing::kept` meets its contract.
use Rattle.octets.specs.Octets.{Octets}
use Rattle.versions.proofs.{promises.Lists.{bad_listed, listed_head, past_listed, row_room, number_room, long_room, some_listed, known_listed}}
use Rattle.versions.proofs.listing.kept.Goals as goal

pub returns-in_default-clause-flat : goal.returns-in_default-clause-flat
returns-in_default-clause-flat c = bad_listed _ _ _ c.in_default.ensures

pub word-requires : goal.word-requires
word-requires c = listed_head _ c.args.k c.in-Ok.ensures

pub returns-then-word-k-clause-flat : goal.returns-then-word-k-clause-flat
returns-then-word-k-clause-flat c = past_listed _ _ c.in-Ok.ensures _ c.word.ensures c.if-word-k.true

pub table_end-p-requires : goal.table_end-p-requires
table_end-p-requires c = row_room _ _ c.in-Ok.ensures _ c.word.ensures c.if-word-k.false

pub word-requires-2 : goal.word-requires-2
word-requires-2 c = number_room _ _ c.in-Ok.ensures _ c.word.ensures _ c.table_end-p.ensures c.if-word-k.false

pub word-requires-3 : goal.word-requires-3
word-requires-3 c = long_room _ _ c.in-Ok.ensures _ c.word.ensures _ c.table_end-p.ensures c.if-word-k.false

pub returns-clause-flat : goal.returns-clause-flat
returns-clause-flat c =
    let b : Octets c.args.store.now = λ i. (c.type_inv.store i).fits in
    some_listed _ _ c.in-Ok.ensures _ c.word.ensures _ c.table_end-p.ensures _ _ b c.if-word-k.false c.word-2.ensures c.word-3.ensures

pub returns-clause-known : goal.returns-clause-known
returns-clause-known c =
    let b : Octets c.args.store.now = λ i. (c.type_inv.store i).fits in
    known_listed _ _ c.in-Ok.ensures _ c.word.ensures _ c.table_end-p.ensures _ _ b c.if-word-k.false c.word-2.ensures c.word-3.ensures
