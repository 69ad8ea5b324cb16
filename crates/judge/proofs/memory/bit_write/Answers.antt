-- `judge::memory::bit_write` meets its contract.
use Rattle.judge.proofs.{Memories.{changed_at, unchanged_at}}
use Rattle.judge.proofs.memory.bit_write.Goals as goal

pub returns : goal.returns
returns c = search changed_at

pub returns-in_default : goal.returns-in_default
returns-in_default c = search unchanged_at
