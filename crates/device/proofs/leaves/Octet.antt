-- Bytes stay below 256: in data and in what bit writes give; the laws for any list of bytes are passed on.
use Rattle.octets.proofs.Kit.{ℕ, ◌+◌, ◌<◌, List, get_or, List·getD-eq-default, get_or-drop, and_lt, xor_lt, dec_lt, arith}
use Rattle.pdu.specs.{Read.{data_at, data_of}, declared.Pdu.Pdu}
use Rattle.device.specs.{Octets.Octets, MemoryDue.Combined}
pub use Rattle.octets.proofs.Octet.{is_bytes, octets_by, octets_none, octets_one, octets_append, octets_bytes, octets_splice}

pub octets_data : (p : Pdu) (a : List ℕ) → Octets a → Octets (data_of p a)
unfolding data_of
octets_data p a h i = rw (get_or-drop (data_at p) a i 0) (h (data_at p + i))

pub octets_bits : {s : List ℕ} {o n : ℕ} {given d : List ℕ} → Combined s o n given d → Octets s → Octets given → Octets d
octets_bits {s} {o} {n} {given} {d} c p q i = go (dec_lt i n)
  where
    go : Dec (i < n) → get_or d i 0 < 256
    go (yes l) = rw (c.each i l) (xor_lt 8 _ _ (and_lt 8 _ _ (p (o + i)) (q i)) (q (n + i)))
    go (no l) = rw (List·getD-eq-default d 0 {n = i} (omega (arith, c.long))) (omega arith)
