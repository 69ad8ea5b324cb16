-- `link::answering::send` meets its contract. Assumes nothing.
use Rattle.octets.proofs.Kit.{rules}
use Rattle.link.proofs.{Answered.{sent_bytes_lem, sent_none, sent_few}}
use Rattle.link.proofs.answering.send.Goals as goal

pub overflow_cast-result : goal.overflow_cast-result
overflow_cast-result c = search (sent_few, rules)

pub returns-in-Ok : goal.returns-in-Ok
returns-in-Ok c = search sent_bytes_lem

pub returns-in-Err : goal.returns-in-Err
returns-in-Err c = search sent_none
