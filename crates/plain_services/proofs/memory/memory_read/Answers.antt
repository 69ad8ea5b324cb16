-- `plain_services::memory::memory_read` meets its contract.
use Rattle.octets.proofs.Kit.{arith}
use Rattle.plain_services.proofs.{MemoryRanges.reachable, MemoryReads.{not_read, read}}
use Rattle.plain_services.proofs.memory.memory_read.Goals as goal

pub range-requires : goal.range-requires
range-requires c = c.area-area.ensures.1 c.requires

pub returns-in_default : goal.returns-in_default
returns-in_default c = not_read _ _ _ _ _ _ _ _ c.area-area.ensures c.most.ensures c.range.ensures c.in_default.is _ c.response.ensures c.denied.ensures

pub overflow_add-at : goal.overflow_add-at
overflow_add-at c = omega (arith, (reachable _ _ _ _ _ _ _ _ _ _ c.area-area.ensures c.most.ensures c.range.ensures _ c.in-Some.is c.requires).2)

pub slice_bounds-answered-end : goal.slice_bounds-answered-end
slice_bounds-answered-end c = let x = reachable _ _ _ _ _ _ _ _ _ _ c.area-area.ensures c.most.ensures c.range.ensures _ c.in-Some.is c.requires in omega (arith, x.0, x.2)

pub answered-requires : goal.answered-requires
answered-requires c = omega (arith, (reachable _ _ _ _ _ _ _ _ _ _ c.area-area.ensures c.most.ensures c.range.ensures _ c.in-Some.is c.requires).1)

pub returns : goal.returns
returns c = read _ _ _ _ _ _ _ _ c.area-area.ensures c.most.ensures c.range.ensures _ c.in-Some.is _ c.response-answer.ensures c.answered.ensures
