-- `tool::kelindap_write` meets its contract. Assumes nothing.
use Rattle.tool.specs.Flat.{meant_by}
use Rattle.tool.proofs.{Arms.few_meant}
use Rattle.tool.proofs.kelindap_write.Goals as goal

pub flat_written-requires : goal.flat_written-requires
flat_written-requires c = few_meant (meant_by c.args.flat) c.args.data.now c.args.out.now _ c.written.ensures.gives
