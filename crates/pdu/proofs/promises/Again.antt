-- An APDU that reads, written again from its fields and its data, is the same but for what the table ignores.
use Rattle.octets.proofs.Kit.{ℕ, ◌+◌, ◌≤◌, ◌≡◌, refl, ◌∙◌, true, List, arith, length, drop, length-drop}
use Rattle.std.proofs.Common.{Ok}
use Rattle.octets.specs.{Bytes.num_at, Octets.{Octets, ReadFrom}}
use Rattle.pdu.specs.{Item.{Row, Value}, Table.row_of, Pdus.{service_of, values_of}, Rules.{code_of, head_of, code_for}, Read.{read_pdu, data_at, data_of}, Write.{encoded, writable}}
use Rattle.pdu.specs.{Allows.{Typed, Carries}, Cleared.Cleared, declared.Pdu.Pdu}
use Rattle.pdu.proofs.{Formed.{Formed, formed_says, decoded, long_enough}, Sound.{sound, shown}, Stands.{Stands, stands, stands_wide, stands_low}, promises.Codes.has_is}
use Rattle.pdu.proofs.{promises.{Outcomes.reads_pdu, Only.writable_is}, Kept.cleared}

-- WRITE-BACK: what a call read may be written again, and is then the same but for what the table ignores
pub write_back :
    (b : List ℕ) (p : Pdu) → ReadFrom b (Ok p) (read_pdu b) →
    Cleared (row_of (service_of p)) b (encoded p (data_of p b)) × (writable p (data_of p b) ≡ true) × Typed p
unfolding encoded data_of
write_back b p call =
    let small : Octets b = call.bytes in
    let r : Row = row_of (service_of p) in
    let x : List Value = values_of p in
    let c : Carries b p = (reads_pdu b (Ok p) call p).0 refl in
    let f : Formed r = formed_says r (sound (service_of p)).form in
    let s : Stands r.items x 2 b = stands r.items x 2 b (shown p ∙ c.fields) in
    let t : Typed p = stands_wide r.items x 2 b small s in
    let h : head_of r ≤ length b = long_enough r.tail (head_of r) x (length b) f.tail_ok c.least c.allowed.suited in
    let n : data_at p + length (drop (data_at p) b) ≡ length b = omega (arith, length-drop (head_of r) b) in
    let i = (has_is r (code_of b)).0 c.code in
    let g : code_for r x ≡ code_of b = decoded r.base r.span r.items x (num_at b 0 2) f.items_ok (stands_low r.items x 2 b s) i.0 i.1 in
    (cleared r x b small s g h, (writable_is p (data_of p b) t).1 (rw n c.allowed), t)
