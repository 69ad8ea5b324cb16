-- A datapoint is read back from its GroupValue_Write.
use Rattle.octets.proofs.Kit.{◌+◌, ◌<◌, ◌≡◌, refl, ap, ◌∙◌, inl, inr, Bool, true, false, cond, arith, length}
use Rattle.std.proofs.Common.{Ok}
use Rattle.octets.proofs.Numbers.{length_bytes}
use Rattle.pdu.specs.{Table.row_of, Pdus.{service_of, values_of}, Read.{read_pdu, data_at, data_of}, Write.encoded, Allows.Allows}
use Rattle.pdu.proofs.promises.Back.{read_back as pdu-back}
use Rattle.points.specs.{Point.{type_of, width_at, refusal_of, number_of, point_bytes, Typed, Exact, as_written}, declared.Datapoint.Datapoint}
use Rattle.points.specs.declared.Datapoint.TheVariants.{Switch, Byte, Hundredths, Float as Single}
use Rattle.points.proofs.promises.Back.{point_written, written_back, exact_written}
use Rattle.values.specs.Value.{six_bits, value_data, value_pdu, read_value}

long : (d : Datapoint) → length (point_bytes d) ≡ width_at (type_of d)
unfolding point_bytes
long d = length_bytes (width_at (type_of d)) (number_of d)

bit : (b : Bool) → cond b 1 0 < 64
bit true = omega arith
bit false = omega arith

-- its row allows the PDU
pub allowed : (d : Datapoint) → Allows (row_of (service_of (value_pdu d))) (values_of (value_pdu d)) (data_at (value_pdu d) + length (value_data d))
unfolding six_bits value_data
allowed (Switch b) = record { fields = (bit b, tt); suited = inl refl; most = omega arith }
allowed (Byte n) = record { fields = (omega arith, tt); suited = inr refl; most = omega (arith, long (Byte n)) }
allowed (Hundredths z) = record { fields = (omega arith, tt); suited = inr refl; most = omega (arith, long (Hundredths z)) }
allowed (Single x) = record { fields = (omega arith, tt); suited = inr refl; most = omega (arith, long (Single x)) }

-- THE SIX BITS AND THE DATA SAY THE DATAPOINT, hundredths as they are written
pub said : (d : Datapoint) → Typed d → refusal_of d ≡ 0 → read_value (type_of d) (six_bits d) (value_data d) ≡ Ok (as_written d)
unfolding read_value six_bits value_data
said (Switch b) t r = point_written (Switch b) t r
said (Byte n) t r = written_back (Byte n) t r
said (Hundredths z) t r = written_back (Hundredths z) t r
said (Single x) t r = written_back (Single x) t r

-- A DATAPOINT IS READ BACK FROM ITS GroupValue_Write: the bytes read as the PDU, with its data, and these say the datapoint; hundredths where a valid code has them
pub value_back : (d : Datapoint) → Typed d → refusal_of d ≡ 0 → Exact d →
    (read_pdu (encoded (value_pdu d) (value_data d)) ≡ Ok (value_pdu d))
    × (data_of (value_pdu d) (encoded (value_pdu d) (value_data d)) ≡ value_data d)
    × (read_value (type_of d) (six_bits d) (value_data d) ≡ Ok d)
value_back d t r e =
    let b = pdu-back (value_pdu d) (value_data d) (allowed d) in
    (b.0, b.1, said d t r ∙ ap Ok (exact_written d e))
