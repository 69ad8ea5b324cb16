-- `judge::memory::memory_read` meets its contract.
use Rattle.judge.proofs.{Memories.{read_run, read_denied}}
use Rattle.judge.proofs.memory.memory_read.Goals as goal

pub returns : goal.returns
returns c = search read_run

pub returns-in_default : goal.returns-in_default
returns-in_default c = search read_denied
