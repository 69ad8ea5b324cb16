-- `plain_services::memory::written` meets its contract.
use Rattle.octets.proofs.Kit.{arith}
use Rattle.plain_services.proofs.{MemoryWrites.{written_told, written_quiet}}
use Rattle.plain_services.proofs.memory.written.Goals as goal

pub returns-then-not-parts : goal.returns-then-not-parts
returns-then-not-parts c = written_quiet (simp c.if-not-parts.true) c.done.ensures

pub overflow_add-at : goal.overflow_add-at
overflow_add-at c = omega (arith, c.requires.2)

pub slice_bounds-answered-end : goal.slice_bounds-answered-end
slice_bounds-answered-end c = omega (arith, c.requires.0, c.requires.2)

pub answered-requires : goal.answered-requires
answered-requires c = omega (arith, c.requires.1)

pub returns : goal.returns
returns c = written_told (simp c.if-not-parts.false) _ c.response-answer.ensures c.answered.ensures
