-- `tool::frames::write` meets its contract. Assumes nothing.
use Rattle.tool.proofs.{Framing.few_framed}
use Rattle.tool.proofs.frames.write.Goals as goal

pub count-requires : goal.count-requires
count-requires c = search few_framed
