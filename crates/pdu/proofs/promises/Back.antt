-- Reading back what was written gives the same PDU and the same data: over the table, for any row.
use Rattle.octets.proofs.Kit.{ℕ, ◌+◌, ◌≡◌, sym, ap, ◌∙◌, List, ◌++◌, arith, length, take, drop, take_at, drop_at}
use Rattle.std.proofs.Common.{Result, Ok}
use Rattle.pdu.specs.{Item.{Row, Value}, Table.row_of, Pdus.{service_of, values_of}, Rules.head_bytes, Read.{read_pdu, data_at, data_of}, Write.{encoded, write_outcome, write_count, Wrote}}
use Rattle.pdu.specs.{Allows.{Allows, Typed, Carries}, declared.{Pdu.Pdu, WriteRefusal.WriteRefusal}}
use Rattle.pdu.proofs.{Formed.formed_says, Sound.{sound, shown}, Items.{length_head, two_or_more, RowBack, row_back}, promises.{Outcomes.carried, Writing.length_encoded}}
use Rattle.pdu.proofs.promises.{Only.writes_0, Filled.buffer_filled}

-- the bytes of a PDU carry it
encoded_carries : (p : Pdu) (d : List ℕ) → Allows (row_of (service_of p)) (values_of p) (data_at p + length d) → Carries (encoded p d) p
unfolding encoded
encoded_carries p d a =
    let r : Row = row_of (service_of p) in
    let x : List Value = values_of p in
    let l : length (encoded p d) ≡ data_at p + length d = length_encoded p d in
    let b : RowBack r x (head_bytes r x ++ d) = row_back r x d (formed_says r (sound (service_of p)).form) a.fields in
    record {
      least = omega (arith, two_or_more r x);
      code = b.code;
      fields = sym (b.values ∙ shown p);
      allowed = rw l a;
    }

-- READ-BACK: what the table allows is read back from its bytes, the data too
pub read_back :
    (p : Pdu) (d : List ℕ) → Allows (row_of (service_of p)) (values_of p) (data_at p + length d) → (read_pdu (encoded p d) ≡ Ok p) × (data_of p (encoded p d) ≡ d)
unfolding encoded data_of
read_back p d a =
    let r : Row = row_of (service_of p) in
    (carried (encoded p d) p (encoded_carries p d a), drop_at (head_bytes r (values_of p)) d (data_at p) (length_head r (values_of p)))

-- AND FROM THE BUFFER: of what a write leaves there as many bytes as counted read as the PDU with its data, and the rest is as found
pub buffer_back :
    (p : Pdu) (d o e : List ℕ) (r : Result ℕ WriteRefusal) → Wrote p d o r e → Typed p → write_outcome r ≡ 0 →
    (read_pdu (take (write_count r) e) ≡ Ok p) × (data_of p (take (write_count r) e) ≡ d) × (drop (write_count r) e ≡ drop (write_count r) o)
buffer_back p d o e r w t z =
    let n : ℕ = write_count r in
    let a = ((writes_0 p d o t).0 (ap write_outcome (sym w.result) ∙ z)).1 in
    let f = buffer_filled p d o e r w z in
    let k : length (encoded p d) ≡ n = sym f.0 in
    let front : take n e ≡ encoded p d = ap (take n) f.1 ∙ take_at (encoded p d) (drop n o) n k in
    let back = read_back p d a in (
      ap read_pdu front ∙ back.0,
      ap (data_of p) front ∙ back.1,
      ap (drop n) f.1 ∙ drop_at (encoded p d) (drop n o) n k,
    )
