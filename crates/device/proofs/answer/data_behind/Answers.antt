-- `device::answer::data_behind` meets its contract.
use Rattle.device.proofs.due.Sent.{none_behind, number_needs}
use Rattle.device.proofs.answer.data_behind.Goals as goal

pub number_behind-requires : goal.number_behind-requires
number_behind-requires c = number_needs _ _ _ _ _ c.requires _ _ _ c.in-Number.is

pub returns-in-Silence : goal.returns-in-Silence
returns-in-Silence c = search none_behind
