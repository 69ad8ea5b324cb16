-- `pdu::head::numbers` meets its contract: each number makes the run longer.
use Rattle.octets.proofs.Kit.{◌<◌, arith, add-one, length}
use Rattle.pdu.specs.declared.head.Part.{Part}
use Rattle.pdu.proofs.{Parts.{width_step, width_part, narrow_at, one_more}}
use Rattle.pdu.proofs.head.numbers.Goals as goal

none : Part
none = record { 0 = 0; 1 = 0 }

pub put-requires-in-loop-part : goal.put-requires-in-loop-part
unfolding none
put-requires-in-loop-part g c =
    let i = c.loop-part.part-index in
    let h : i < length c.args.parts = omega arith in
    (omega (arith, width_part c.args.parts i none h), narrow_at c.args.parts i none c.requires.1 h)

pub overflow_add-at : goal.overflow_add-at
unfolding none
overflow_add-at g c =
    let i = c.loop-part.part-index in
    let h : i < length c.args.parts = omega arith in
    omega (arith, width_part c.args.parts i none h)

pub loop-part-preserved : goal.loop-part-preserved
unfolding none
loop-part-preserved g c =
    let i = c.loop-part.part-index in
    let h : i < length c.args.parts = omega arith in
    rw add-one (
      omega (arith, width_step c.args.parts i none h),
      one_more c.args.out.now c.loop-part.out _ c.args.code c.loop-part.at i c.args.parts none h c.loop-part.invariant.0 c.loop-part.invariant.1 c.put-in-loop-part.ensures,
    )
