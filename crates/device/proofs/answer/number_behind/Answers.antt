-- `device::answer::number_behind` meets its contract.
use Rattle.octets.proofs.Kit.{rules}
use Rattle.device.proofs.{due.Sent.number_behind}
use Rattle.device.proofs.answer.number_behind.Goals as goal

pub returns : goal.returns
returns c = search (rules, number_behind)
