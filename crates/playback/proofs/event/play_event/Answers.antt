-- `playback::event::play_event` meets its contract. Assumes nothing.
use Rattle.playback.proofs.{Walking.good_inside, Logging.{readable, buffer_long, front_fits, logged}}
use Rattle.playback.proofs.event.play_event.Goals as goal

pub part-e-requires : goal.part-e-requires
part-e-requires c = search good_inside

pub said-made-requires : goal.said-made-requires
said-made-requires c = search (readable, buffer_long)

pub splice-requires : goal.splice-requires
splice-requires c = front_fits _ _ c.requires.2 c.fill.ensures _

pub returns : goal.returns
returns c =
    logged _ _ c.requires.2 c.fill.ensures _ _ _ _ _ _ _ _
    c.part-e.ensures c.said-made.ensures _ c.splice.ensures
