-- `judge::memory::memory_write` meets its contract.
use Rattle.judge.proofs.{Memories.{written_at, unwritten_at}}
use Rattle.judge.proofs.memory.memory_write.Goals as goal

pub returns : goal.returns
returns c = search written_at

pub returns-in_default : goal.returns-in_default
returns-in_default c = search unwritten_at
