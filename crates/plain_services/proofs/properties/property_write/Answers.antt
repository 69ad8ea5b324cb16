-- `plain_services::properties::property_write` meets its contract.
use Rattle.octets.proofs.Kit.{arith, inl, inr, refl, not, ap, eqb, length, eq-eqb, ne_eqb, le-ltb, lt-ltb}
use Rattle.octets.{specs.Bytes.num_at, proofs.Tests.{both, not_first_lem, not_second_lem}}
use Rattle.plain_services.proofs.{Finding.{found_below, found_one, found_none}, PropertyWrites.{none_named, one_named, not_writable, is_clear, not_there, is_filled, room_for}, Joined.{moved_yes, moved_no}}
use Rattle.plain_services.proofs.properties.property_write.Goals as goal
use Rattle.plain_services.proofs.properties.property_write.Goals.{then-not-p-via-then-not-p, then-not-p-via-else-not-p+then-p-level}
use Rattle.plain_services.proofs.properties.property_write.Goals.{else-s-eq0-via-then-s-eq0+then-n-eq1+then-d-eq2+else-word-eq0, else-s-eq0-via-then-s-eq0+then-n-eq1+else-d-eq2, else-s-eq0-via-then-s-eq0+else-n-eq1, else-s-eq0-via-else-s-eq0}
use Rattle.plain_services.proofs.properties.property_write.Goals.{then-not-are_among-via-then-not-are_among, then-not-are_among-via-else-not-are_among+then-d-size}

pub returns-in_default : goal.returns-in_default
returns-in_default c = none_named _ _ _ _ _ _ _ _ _ (found_none _ _ _ _ c.find.ensures c.in_default.is) (omega arith) c.no_element.ensures

pub returns-then-not-p : goal.returns-then-not-p
returns-then-not-p c =
    one_named _ _ _ _ _ _ _ _ _ (found_one _ _ _ _ c.find.ensures _ c.in-Some.is) (found_below _ _ _ _ c.find.ensures _ c.in-Some.is)
    (not_writable _ _ _ _ _ _ _ _ _ (found_below _ _ _ _ c.find.ensures _ c.in-Some.is)
    (elim c.then-not-p.branch [
      | then-not-p-via-then-not-p w ↦ inl (simp w.if-not-p.true)
      | then-not-p-via-else-not-p+then-p-level w ↦ inr (lt-ltb _ _ w.if-p-level.true)
    ]) c.no_element-then-not-p.ensures)

pub returns-then-word-eq0 : goal.returns-then-word-eq0
returns-then-word-eq0 c =
    one_named _ _ _ _ _ _ _ _ _ (found_one _ _ _ _ c.find.ensures _ c.in-Some.is) (found_below _ _ _ _ c.find.ensures _ c.in-Some.is)
    (is_clear _ _ _ _ _ _ _ _ _ _ (found_below _ _ _ _ c.find.ensures _ c.in-Some.is) (simp c.if-not-p.false) (le-ltb _ _ c.if-p-level.false) refl c.if-s-eq0.true (eq-eqb c.args.n 1 c.if-n-eq1.true)
    (both _ _ (eq-eqb (length c.args.d.now) 2 c.if-d-eq2.true) (moved_yes _ _ _ c.word.ensures.value c.if-word-eq0.true)) _ c.with_count.ensures c.answered.ensures)

pub returns-then-not-are_among : goal.returns-then-not-are_among
returns-then-not-are_among c =
    one_named _ _ _ _ _ _ _ _ _ (found_one _ _ _ _ c.find.ensures _ c.in-Some.is) (found_below _ _ _ _ c.find.ensures _ c.in-Some.is)
    (not_there _ _ _ _ _ _ _ _ _ _ (found_below _ _ _ _ c.find.ensures _ c.in-Some.is) (simp c.if-not-p.false) (le-ltb _ _ c.if-p-level.false) refl
    (elim c.else-s-eq0.branch [
      | else-s-eq0-via-then-s-eq0+then-n-eq1+then-d-eq2+else-word-eq0 w ↦ inl (not_second_lem (eqb (length c.args.d.now) 2) _ (moved_no _ _ _ w.word.ensures.value w.if-word-eq0.false))
      | else-s-eq0-via-then-s-eq0+then-n-eq1+else-d-eq2 w ↦ inl (not_first_lem _ (eqb (num_at c.args.d.now 0 2) 0) (ne_eqb (length c.args.d.now) 2 w.if-d-eq2.false))
      | else-s-eq0-via-then-s-eq0+else-n-eq1 w ↦ inr (inl (ne_eqb c.args.n 1 w.if-n-eq1.false))
      | else-s-eq0-via-else-s-eq0 w ↦ inr (inr w.if-s-eq0.false)
    ])
    _ _ c.are_among.ensures c.size_of-size.ensures.0
    (elim c.then-not-are_among.branch [
      | then-not-are_among-via-then-not-are_among w ↦ inl (simp w.if-not-are_among.true)
      | then-not-are_among-via-else-not-are_among+then-d-size w ↦ inr (ap not (ne_eqb _ _ w.if-d-size.true))
    ]) c.no_element-then-not-are_among.ensures)

pub with_elements-filled-requires : goal.with_elements-filled-requires
with_elements-filled-requires c =
    room_for _ _ c.args.n c.args.s c.args.d.now _ _ c.are_among.ensures c.size_of-size.ensures.0
    (simp c.if-not-are_among.false) (ap not (eq-eqb _ _ c.if-d-size.false)) c.requires.0 (found_below _ _ _ _ c.find.ensures _ c.in-Some.is)

pub returns : goal.returns
returns c =
    one_named _ _ _ _ _ _ _ _ _ (found_one _ _ _ _ c.find.ensures _ c.in-Some.is) (found_below _ _ _ _ c.find.ensures _ c.in-Some.is)
    (is_filled _ _ _ _ _ _ _ _ _ _ (found_below _ _ _ _ c.find.ensures _ c.in-Some.is) (simp c.if-not-p.false) (le-ltb _ _ c.if-p-level.false) refl
    (elim c.else-s-eq0.branch [
      | else-s-eq0-via-then-s-eq0+then-n-eq1+then-d-eq2+else-word-eq0 w ↦ inl (not_second_lem (eqb (length c.args.d.now) 2) _ (moved_no _ _ _ w.word.ensures.value w.if-word-eq0.false))
      | else-s-eq0-via-then-s-eq0+then-n-eq1+else-d-eq2 w ↦ inl (not_first_lem _ (eqb (num_at c.args.d.now 0 2) 0) (ne_eqb (length c.args.d.now) 2 w.if-d-eq2.false))
      | else-s-eq0-via-then-s-eq0+else-n-eq1 w ↦ inr (inl (ne_eqb c.args.n 1 w.if-n-eq1.false))
      | else-s-eq0-via-else-s-eq0 w ↦ inr (inr w.if-s-eq0.false)
    ])
    _ _ c.are_among.ensures c.size_of-size.ensures.0 (simp c.if-not-are_among.false) (ap not (eq-eqb _ _ c.if-d-size.false))
    _ _ _ c.with_elements-filled.ensures c.new_count.ensures c.with_count-after.ensures c.answered-2.ensures)
