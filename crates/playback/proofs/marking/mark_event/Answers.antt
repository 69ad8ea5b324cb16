-- `playback::marking::mark_event` meets its contract. Assumes nothing.
use Rattle.octets.proofs.Kit.{rules, arith}
use Rattle.playback.proofs.{Marked.{markable, event_marked}}
use Rattle.playback.proofs.marking.mark_event.Goals as goal

pub overflow_add-played : goal.overflow_add-played
overflow_add-played c = omega (arith, c.requires.3.numbers)

pub mark-requires : goal.mark-requires
mark-requires c =
    markable _ _ _ _ _ _ _ c.requires.3 _ _ _ c.play_event-made.ensures
    (search rules)

pub returns : goal.returns
returns c =
    event_marked _ _ _ _ _ _ _ c.requires.3 _ _ _ c.play_event-made.ensures
    (search rules) _ _ c.mark.ensures
