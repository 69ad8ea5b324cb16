-- `parts::entries::PropertyEntry::write` meets its contract: nine writes, one behind the other.
use Rattle.octets.proofs.Kit.{arith, refl, sym}
use Rattle.parts.specs.Again.{WholeProperty}
use Rattle.parts.proofs.{Runs.{begun, on, restores_to, levels_at, type_at}}
use Rattle.parts.proofs.entries.PropertyEntry.write.Goals as goal

pub returns : goal.returns
returns c =
    let a = c.args in
    let r1 = on (begun (WholeProperty a.self a.at) _ _) refl (λ s o h. h.is.object) c.write_number.ensures c.write_number.auto.sheet in
    let r2 = on r1 (omega arith) (λ s o h. h.is.id) c.write_number-2.ensures c.write_number-2.auto.sheet in
    let r3 = on r2 (omega arith) (λ s o h. type_at s o _ _ a.self c.type_byte.ensures h.is.writable h.is.typ) c.write_number-3.ensures c.write_number-3.auto.sheet in
    let r4 = on r3 (omega arith) (λ s o h. h.is.size) c.write_number-4.ensures c.write_number-4.auto.sheet in
    let r5 = on r4 (omega arith) (λ s o h. h.is.maximum) c.write_number-5.ensures c.write_number-5.auto.sheet in
    let r6 = on r5 (omega arith) (λ s o h. h.is.count) c.write_number-6.ensures c.write_number-6.auto.sheet in
    let r7 = on r6 (omega arith) (λ s o h. h.is.offset) c.write_number-7.ensures c.write_number-7.auto.sheet in
    let r8 = on r7 (omega arith) (λ s o h. levels_at s o _ _ _ _ c.levels_byte.ensures h.is.read h.is.write) c.write_number-8.ensures c.write_number-8.auto.sheet in
    let r9 = on r8 (omega arith) (λ s o h. sym h.zero) c.write_number-9.ensures c.write_number-9.auto.sheet in
    restores_to _ _ _ _ _ _ r9.done (omega arith)
