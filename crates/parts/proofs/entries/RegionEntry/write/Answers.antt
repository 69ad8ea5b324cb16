-- `parts::entries::RegionEntry::write` meets its contract.
use Rattle.octets.proofs.Kit.{arith, refl, sym}
use Rattle.parts.specs.Again.{WholeRegion}
use Rattle.parts.proofs.{Runs.{begun, on, restores_to, levels_at}}
use Rattle.parts.proofs.entries.RegionEntry.write.Goals as goal

pub returns : goal.returns
returns c =
    let a = c.args in
    let r1 = on (begun (WholeRegion a.self a.at) _ _) refl (λ s o h. h.is.address) c.write_number.ensures c.write_number.auto.sheet in
    let r2 = on r1 (omega arith) (λ s o h. h.is.long) c.write_number-2.ensures c.write_number-2.auto.sheet in
    let r3 = on r2 (omega arith) (λ s o h. h.is.offset) c.write_number-3.ensures c.write_number-3.auto.sheet in
    let r4 = on r3 (omega arith) (λ s o h. levels_at s o _ _ _ _ c.levels_byte.ensures h.is.read h.is.write) c.write_number-4.ensures c.write_number-4.auto.sheet in
    let r5 = on r4 (omega arith) (λ s o h. sym h.zero) c.write_number-5.ensures c.write_number-5.auto.sheet in
    restores_to _ _ _ _ _ _ r5.done (omega arith)
