-- `plain_services::memory::bit_write` meets its contract.
use Rattle.device.proofs.leaves.Bits.{length_build}
use Rattle.plain_services.proofs.{MemoryWrites.{bits_denied, bits_reach, bits_made, still_roomy}}
use Rattle.plain_services.proofs.memory.bit_write.Goals as goal

pub range-requires : goal.range-requires
range-requires c = c.area-area.ensures.1 c.requires.0

pub returns-in_default : goal.returns-in_default
returns-in_default c = bits_denied _ _ _ _ _ _ c.area-area.ensures c.range.ensures _ _ c.in_default.is c.not_written.ensures

pub with_bits-requires : goal.with_bits-requires
with_bits-requires c = let x = bits_reach _ _ _ _ _ _ c.area-area.ensures c.range.ensures _ c.in-Some.is c.requires.0 in (x.0, x.2, c.requires.1)

pub written-requires : goal.written-requires
written-requires c =
    still_roomy _ _ _ _ _ _ c.with_bodies-after.ensures c.with_bits.ensures (length_build _ _)
    (bits_reach _ _ _ _ _ _ c.area-area.ensures c.range.ensures _ c.in-Some.is c.requires.0)

pub returns : goal.returns
returns c =
    bits_made _ _ _ _ _ _ c.area-area.ensures c.range.ensures _ _ _ c.in-Some.is _ c.with_bits.ensures
    _ c.with_bodies-after.ensures c.written.ensures
