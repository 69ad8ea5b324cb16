-- `tool::mean::meant` meets its contract: a kind that no arm has is past the table's end. Assumes nothing.
use Rattle.octets.proofs.Kit.{arith}
use Rattle.tool.proofs.{Arms.no_kind_lem}
use Rattle.tool.proofs.mean.meant.Goals as goal

pub returns-in_default : goal.returns-in_default
returns-in_default c = no_kind_lem c.args.f (omega arith)
