-- `plain_services::memory::memory_write` meets its contract.
use Rattle.octets.proofs.Kit.{arith, refl}
use Rattle.plain_services.proofs.{MemoryRanges.reachable, MemoryWrites.{write_denied, write_made, still_roomy}}
use Rattle.plain_services.proofs.memory.memory_write.Goals as goal

pub range-requires : goal.range-requires
range-requires c = c.area-area.ensures.1 c.requires.0

pub returns-in_default : goal.returns-in_default
returns-in_default c = write_denied _ _ _ _ _ _ _ _ c.area-area.ensures c.most.ensures c.range.ensures _ _ c.in_default.is c.not_written.ensures

pub with_data-requires : goal.with_data-requires
with_data-requires c =
    let x = reachable _ _ _ _ _ _ _ _ _ _ c.area-area.ensures c.most.ensures c.range.ensures _ c.in-Some.is c.requires.0 in
    (x.0, omega (arith, x.2, c.requires.1))

pub written-requires : goal.written-requires
written-requires c =
    still_roomy _ _ _ _ _ _ c.with_data.ensures refl c.requires.1
    (reachable _ _ _ _ _ _ _ _ _ _ c.area-area.ensures c.most.ensures c.range.ensures _ c.in-Some.is c.requires.0)

pub returns : goal.returns
returns c =
    write_made _ _ _ _ _ _ _ _ c.area-area.ensures c.most.ensures c.range.ensures _ _ _ c.in-Some.is c.requires.1
    _ c.with_data.ensures c.written.ensures
