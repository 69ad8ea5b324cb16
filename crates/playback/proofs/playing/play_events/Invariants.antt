-- `playback::playing::play_events` meets its contract. The invariant: state and log are those of the first j events. Assumes nothing.
use Rattle.playback.proofs.Running.{Going}
use Rattle.playback.proofs.playing.play_events.Given as goal

abbrev pub invariant-loop-j : goal.invariant-loop-j
invariant-loop-j l = Going l.initial.sessions l.initial.sheet l.trace l.from l.n l.initial.log l.j l.sessions l.sheet l.log
