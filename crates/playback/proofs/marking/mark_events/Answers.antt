-- `playback::marking::mark_events` meets its contract. The invariant: state, log and marks are those of the first j events. Assumes nothing.
use Rattle.octets.proofs.Kit.{rules, arith}
use Rattle.playback.proofs.Running.{few_events, small_place, event_there, line_there, line_long, known_goes}
use Rattle.playback.proofs.{Marked.{march_begin, march_on, march_end, roomy_next, seen_same}}
use Rattle.playback.proofs.marking.mark_events.Goals as goal

pub loop-j-init : goal.loop-j-init
loop-j-init c = march_begin _ _ _ _ _ _ _ _ _ c.requires.0 c.requires.1

pub overflow_mul-a : goal.overflow_mul-a
overflow_mul-a c = omega (arith, few_events _ _ _ _ c.requires.0)

pub overflow_add-z : goal.overflow_add-z
overflow_add-z c = omega (arith, few_events _ _ _ _ c.requires.0)

pub overflow_add-from : goal.overflow_add-from
overflow_add-from c = omega (arith, small_place _ _ _ _ c.requires.0 c.loop-j.j (omega arith))

pub slice_bounds-mark_event-end : goal.slice_bounds-mark_event-end
slice_bounds-mark_event-end c =
    line_there _ _ _ _ c.requires.0 c.loop-j.j (omega arith)
    c.loop-j.log c.loop-j.invariant.going.long

pub overflow_cast-j : goal.overflow_cast-j
overflow_cast-j c = omega (arith, few_events _ _ _ _ c.requires.0)

pub overflow_add-played : goal.overflow_add-played
overflow_add-played c = omega (arith, c.requires.1.numbers, few_events _ _ _ _ c.requires.0)

pub mark_event-sessions-requires : goal.mark_event-sessions-requires
mark_event-sessions-requires c =
    let l = c.loop-j in let pre = c.requires in
    let k = event_there _ _ _ _ pre.0 l.j (omega arith) in let more = line_long _ _ _ _ pre.0 l.j (omega arith) l.log l.invariant.going.long in
    let room = roomy_next _ _ _ _ _ _ _ _ _ pre.0 pre.1 _ _ _ _ _ _ l.invariant (omega arith) in (k.0, k.1, more, room, known_goes _ _ _ _ _ _ _ _ _ _ _ c.is_accepted-known.ensures l.invariant.going)

pub loop-j-preserved : goal.loop-j-preserved
loop-j-preserved c =
    march_on _ _ _ _ _ _ _ _ _ c.requires.0 c.requires.1 _ _ _ _ _ _ c.loop-j.invariant _ _ _ _ _
    (omega arith) c.mark_event-sessions.ensures (search rules)

pub shape_of-sheet : goal.shape_of-sheet
shape_of-sheet c = c.loop-j.invariant.going.same

pub shape_of-log : goal.shape_of-log
shape_of-log c = c.loop-j.invariant.going.long

pub shape_of-seen : goal.shape_of-seen
shape_of-seen c = seen_same _ _ _ _ _ _ _ _ _ c.requires.0 c.requires.1 _ _ _ _ _ _ c.loop-j.invariant

pub shape_of-marks : goal.shape_of-marks
shape_of-marks c = c.loop-j.invariant.marks.same

pub returns : goal.returns
returns c =
    march_end _ _ _ _ _ _ _ _ _ c.requires.0 c.requires.1 _ _ _ _ _ _ c.loop-j.invariant
    (omega arith)
