-- `playback::marking::mark_events` meets its contract. The invariant: state, log and marks are those of the first j events. Assumes nothing.
use Rattle.playback.proofs.{Marked.{Marched}}
use Rattle.playback.proofs.marking.mark_events.Given as goal

abbrev pub invariant-loop-j : goal.invariant-loop-j
invariant-loop-j l =
    Marched l.initial.sessions l.initial.sheet l.trace l.from l.n l.initial.log l.played l.initial.marks l.j l.sessions l.sheet l.log l.seen l.marks
