-- `plain_services::properties::property_read` meets its contract.
use Rattle.octets.proofs.Kit.{◌≡◌, false, arith, inl, inr, le-ltb, lt-ltb, eq-eqb, ne_eqb}
use Rattle.octets.proofs.Tests.{both, not_first_lem, not_second_lem}
use Rattle.judge.specs.Properties.{counted}
use Rattle.plain_services.proofs.{Agreed.word_bytes, Finding.{found_below, found_one, found_none}, PropertyReads.{no_such, that_one, not_readable, count_told, not_shown, is_shown, room_shown, byte_size}, Elements.element_from}
use Rattle.plain_services.proofs.{Joined.was_yes}
use Rattle.plain_services.proofs.properties.property_read.Goals as goal
use Rattle.plain_services.proofs.properties.property_read.Goals.{else-s-eq0-via-then-s-eq0+else-n-eq1, else-s-eq0-via-else-s-eq0}
use Rattle.plain_services.proofs.properties.property_read.Goals.{then-not-are_among-via-then-not-are_among, then-not-are_among-via-else-not-are_among+then-size-gt10}

pub returns-in_default : goal.returns-in_default
returns-in_default c = no_such _ _ _ _ _ _ _ _ (found_none _ _ _ _ c.find.ensures c.in_default.is) (omega arith) c.no_element.ensures

pub returns-then-p-level : goal.returns-then-p-level
returns-then-p-level c =
    let there = found_below _ _ _ _ c.find.ensures _ c.in-Some.is in
    that_one _ _ _ _ _ _ _ _ (found_one _ _ _ _ c.find.ensures _ c.in-Some.is) there
    (not_readable _ _ _ _ _ _ _ _ there c.if-p-level.true c.no_element-then-p-level.ensures)

pub returns-then-n-eq1 : goal.returns-then-n-eq1
returns-then-n-eq1 c =
    that_one _ _ _ _ _ _ _ _ (found_one _ _ _ _ c.find.ensures _ c.in-Some.is) (found_below _ _ _ _ c.find.ensures _ c.in-Some.is)
    (count_told _ _ _ _ _ _ _ _ (found_below _ _ _ _ c.find.ensures _ c.in-Some.is) c.if-p-level.false (both _ _ (eq-eqb c.args.s 0 c.if-s-eq0.true) (eq-eqb c.args.n 1 c.if-n-eq1.true)) _ (word_bytes _ _ c.to_be_bytes.ensures)
    c.answered.ensures)

pub size_of-size-requires : goal.size_of-size-requires
size_of-size-requires c = (omega arith, byte_size _ _ c.requires (found_below _ _ _ _ c.find.ensures _ c.in-Some.is))

pub returns-then-not-are_among : goal.returns-then-not-are_among
returns-then-not-are_among c =
    let few : counted c.args.n c.args.s ≡ false =
    elim c.else-s-eq0.branch [
      | else-s-eq0-via-then-s-eq0+else-n-eq1 w ↦ not_second_lem _ _ (ne_eqb c.args.n 1 w.if-n-eq1.false)
      | else-s-eq0-via-else-s-eq0 w ↦ not_first_lem _ _ (ne_eqb c.args.s 0 w.if-s-eq0.false)
    ]
    in
    that_one _ _ _ _ _ _ _ _ (found_one _ _ _ _ c.find.ensures _ c.in-Some.is) (found_below _ _ _ _ c.find.ensures _ c.in-Some.is)
    (not_shown _ _ _ _ _ _ _ _ _ _ c.are_among.ensures c.size_of-size.ensures.0 (found_below _ _ _ _ c.find.ensures _ c.in-Some.is) c.if-p-level.false few
    (elim c.then-not-are_among.branch [
      | then-not-are_among-via-then-not-are_among w ↦ inl (simp w.if-not-are_among.true)
      | then-not-are_among-via-else-not-are_among+then-size-gt10 w ↦ inr (lt-ltb _ _ w.if-size-gt10.true)
    ]) c.no_element-then-not-are_among.ensures)

pub slice_bounds-answered-end-2 : goal.slice_bounds-answered-end-2
slice_bounds-answered-end-2 c =
    omega (
      arith,
      room_shown _ _ c.args.n c.args.s _ c.requires (found_below _ _ _ _ c.find.ensures _ c.in-Some.is) c.are_among.ensures (was_yes _ (simp c.if-not-are_among.false))
          _ _ (element_from _ _ _ _ c.size_of.ensures.0) c.size_of-size.ensures.0,
      c.requires.taken.room,
    )

pub returns : goal.returns
returns c =
    let few : counted c.args.n c.args.s ≡ false =
    elim c.else-s-eq0.branch [
      | else-s-eq0-via-then-s-eq0+else-n-eq1 w ↦ not_second_lem _ _ (ne_eqb c.args.n 1 w.if-n-eq1.false)
      | else-s-eq0-via-else-s-eq0 w ↦ not_first_lem _ _ (ne_eqb c.args.s 0 w.if-s-eq0.false)
    ]
    in
    that_one _ _ _ _ _ _ _ _ (found_one _ _ _ _ c.find.ensures _ c.in-Some.is) (found_below _ _ _ _ c.find.ensures _ c.in-Some.is)
    (is_shown _ _ _ _ _ _ _ _ _ _ c.are_among.ensures c.size_of-size.ensures.0 (found_below _ _ _ _ c.find.ensures _ c.in-Some.is) c.if-p-level.false few
    (simp c.if-not-are_among.false) (le-ltb _ _ c.if-size-gt10.false) _ (element_from _ _ _ _ c.size_of.ensures.0) c.answered-2.ensures)
