-- `versions::saving::save` meets its contract.
use Rattle.std.proofs.lemmas.Result.{err_from_is_err_and}
use Rattle.octets.proofs.Kit.{rules}
use Rattle.octets.specs.Octets.{Octets}
use Rattle.versions.specs.Walk.{Extents}
use Rattle.versions.proofs.{Saver.{bad_sheet_lem, bad_store_lem, room_count, room_last, no_number_lem, no_place_lem, is_tabled, no_room_lem, can_append, was_saved}}
use Rattle.versions.proofs.saving.save.Goals as goal

pub returns-in_err-known : goal.returns-in_err-known
returns-in_err-known c =
    let p = err_from_is_err_and c.from_residual.result c.from_residual.ensures.1 in
    rw p.1 (bad_sheet_lem _ _ _ _ p.2 c.in_err-known.ensures.refusal)

pub returns-in_err-check : goal.returns-in_err-check
returns-in_err-check c =
    let p = err_from_is_err_and c.from_residual-in_err-check.result c.from_residual-in_err-check.ensures.1 in
    rw (p.1, p.2) (bad_store_lem _ _ c.in_ok-known.ensures.refusal _ c.in_err-check.ensures)

pub word-last-requires : goal.word-last-requires
word-last-requires c = room_last _ c.in_ok-check.ensures

pub returns-then-last : goal.returns-then-last
returns-then-last c = no_number_lem _ _ c.in_ok-known.ensures.refusal c.in_ok-check.ensures _ c.word-last.ensures c.if-last.true

pub word-n-requires : goal.word-n-requires
word-n-requires c = room_count _ c.in_ok-check.ensures

pub returns-then-n-eq-PLACES : goal.returns-then-n-eq-PLACES
returns-then-n-eq-PLACES c = no_place_lem _ _ c.in_ok-known.ensures.refusal c.in_ok-check.ensures _ c.word-last.ensures c.if-last.false _ c.word-n.ensures c.if-n-eq-PLACES.true

pub bodies_end-end-requires : goal.bodies_end-end-requires
bodies_end-end-requires c = is_tabled _ c.in_ok-check.ensures _ c.word-n.ensures

pub returns-then-store-end : goal.returns-then-store-end
returns-then-store-end c =
    let a = c.args in
    let b : Octets a.store.now = λ i. search rules in
    let x : Extents a.sheet.now c.extent_of-x.result = rw (← c.in_ok-known.ensures.sheet) c.extent_of-x.ensures in
    no_room_lem a.sheet.now a.store.now c.in_ok-known.ensures.refusal c.in_ok-check.ensures _ c.word-last.ensures c.if-last.false _ c.word-n.ensures c.if-n-eq-PLACES.false
    _ c.bodies_end-end.ensures _ x _ c.long_of-long.ensures b c.if-store-end.true

pub append-requires : goal.append-requires
append-requires c =
    let a = c.args in
    let b : Octets a.store.now = λ i. search rules in
    let x : Extents a.sheet.now c.extent_of-x.result = rw (← c.in_ok-known.ensures.sheet) c.extent_of-x.ensures in
    can_append a.sheet.now a.store.now c.in_ok-known.ensures.refusal c.in_ok-check.ensures _ c.word-last.ensures c.if-last.false _ c.word-n.ensures c.if-n-eq-PLACES.false
    _ c.bodies_end-end.ensures _ x _ c.long_of-long.ensures b c.if-store-end.false

pub returns : goal.returns
returns c =
    let a = c.args in
    let b : Octets a.store.now = λ i. search rules in
    let x : Extents a.sheet.now c.extent_of-x.result = rw (← c.in_ok-known.ensures.sheet) c.extent_of-x.ensures in
    was_saved a.sheet.now a.store.now c.in_ok-known.ensures.refusal c.in_ok-check.ensures _ c.word-last.ensures c.if-last.false _ c.word-n.ensures c.if-n-eq-PLACES.false
    _ c.bodies_end-end.ensures _ x _ c.long_of-long.ensures b c.if-store-end.false _ c.append.ensures
