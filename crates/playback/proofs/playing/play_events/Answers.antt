-- `playback::playing::play_events` meets its contract. The invariant: state and log are those of the first j events. Assumes nothing.
use Rattle.octets.proofs.Kit.{rules, arith}
use Rattle.playback.proofs.Running.{goes_begin, goes_on, goes_end, few_events, small_place, event_there, line_there, line_long, known_goes}
use Rattle.playback.proofs.playing.play_events.Goals as goal

pub loop-j-init : goal.loop-j-init
loop-j-init c = goes_begin _ _ _ _ _ _

pub overflow_mul-a : goal.overflow_mul-a
overflow_mul-a c = omega (arith, few_events _ _ _ _ c.requires)

pub overflow_add-z : goal.overflow_add-z
overflow_add-z c = omega (arith, few_events _ _ _ _ c.requires)

pub overflow_add-from : goal.overflow_add-from
overflow_add-from c = omega (arith, small_place _ _ _ _ c.requires c.loop-j.j (omega arith))

pub slice_bounds-play_event-end : goal.slice_bounds-play_event-end
slice_bounds-play_event-end c = line_there _ _ _ _ c.requires c.loop-j.j (omega arith) c.loop-j.log c.loop-j.invariant.long

pub play_event-made-requires : goal.play_event-made-requires
play_event-made-requires c =
    let l = c.loop-j in let pre = c.requires in let e = event_there _ _ _ _ pre l.j (omega arith) in
    (e.0, e.1, line_long _ _ _ _ pre l.j (omega arith) l.log l.invariant.long, known_goes _ _ _ _ _ _ _ _ _ _ _ c.is_accepted-known.ensures l.invariant)

pub loop-j-preserved : goal.loop-j-preserved
loop-j-preserved c =
    goes_on _ _ _ _ _ _ c.requires c.loop-j.j _ _ _ c.loop-j.invariant _ _ _ (omega arith)
    c.play_event-made.ensures.state c.play_event-made.ensures.line (search rules)

pub shape_of-sheet : goal.shape_of-sheet
shape_of-sheet c = c.loop-j.invariant.same

pub shape_of-log : goal.shape_of-log
shape_of-log c = c.loop-j.invariant.long

pub returns : goal.returns
returns c = goes_end _ _ _ _ _ _ c.requires _ _ _ _ c.loop-j.invariant (omega arith)
