-- `playback::table::part` meets its contract. Assumes nothing.
use Rattle.octets.proofs.Kit.{rules}
use Rattle.playback.proofs.{Walking.shown}
use Rattle.playback.proofs.table.part.Goals as goal

pub returns : goal.returns
returns c = search (shown, rules)
