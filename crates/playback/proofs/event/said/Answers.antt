-- `playback::event::said` meets its contract. Assumes nothing.
use Rattle.octets.proofs.Kit.{◌∙◌}
use Rattle.playback.proofs.{Happening.happens_said}
use Rattle.playback.proofs.event.said.Goals as goal

pub returns : goal.returns
returns c =
    happens_said _ _ _ _ _ _ _ _ _ _ _ _ _ (c.in-Some.ensures ∙ c.byte.ensures.value) c.byte-both.ensures.value c.word-group.ensures.value c.word-a.ensures.value
    c.byte-2.ensures.value c.happen.ensures
