-- What is sent is received: the bytes that the tool writes read as the PDU with the data of the datapoint.
use Rattle.octets.proofs.Kit.{ℕ, ◌+◌, ◌≤◌, max, ◌≡◌, refl, ap, ◌∙◌, List, [], ◌++◌, length, arith}
use Rattle.std.proofs.Common.{Ok}
use Rattle.octets.{specs.Bytes.bytes_of, proofs.Numbers.length_bytes}
use Rattle.sheet.specs.{Head.rules_of, Rules.Accepted}
use Rattle.pdu.specs.{Table.row_of, Pdus.{service_of, values_of}, Rules.head_bytes, Read.{read_pdu, data_of}, Write.encoded, Allows.Allows, declared.Pdu.Pdu}
use Rattle.pdu.{specs.declared.Pdu.TheVariants.{GroupValueResponse, GroupValueWrite}, proofs.promises.{Back.read_back, Readings.reading}}
use Rattle.points.specs.{Point.{type_of, width_at, number_of, point_bytes}, declared.Datapoint.{Datapoint, TheVariants.{Switch, Byte, Hundredths, Float as Single}}}
use Rattle.judge.specs.Session.{multicast}
use Rattle.values.{specs.Value.value_data, proofs.promises.Back.allowed}
use Rattle.device.{specs.{Octets.Octets, Asked.{Asked, Takes, to_group, Reads, given}, GroupsDue.Brings}, proofs.due.Taking.among_at}
use Rattle.device.proofs.leaves.Octet.{octets_none, octets_append, octets_bytes}
use Rattle.delivery.specs.Delivery.{length_code, Sends}

-- a group value is read back from its bytes, be it a Write or a Response
pub group_back :
    {p : Pdu} {v flag : ℕ} (ds : List ℕ) → Brings p v flag → Allows (row_of (service_of (GroupValueWrite v))) (values_of (GroupValueWrite v)) (2 + length ds) →
    (read_pdu (encoded p ds) ≡ Ok p) × (data_of p (encoded p ds) ≡ ds)
group_back ds (Brings.write v) a = read_back (GroupValueWrite v) ds a
group_back ds (Brings.response v) a =
    read_back (GroupValueResponse v) ds (record { fields = a.fields; suited = a.suited; most = a.most })

taken : (rules : ℕ) {p : Pdu} {v flag m : ℕ} → Brings p v flag → m ≡ multicast → Takes rules (service_of p) m
taken rules (Brings.write v) e = to_group e (among_at _ 2 refl)
taken rules (Brings.response v) e = to_group e (among_at _ 1 refl)

-- its bytes are bytes
octets_brought : {p : Pdu} {v flag : ℕ} (ds : List ℕ) → Brings p v flag → Octets ds → Octets (encoded p ds)
unfolding encoded head_bytes
octets_brought ds (Brings.write v) h =
    octets_append (bytes_of 2 (128 + v) ++ []) ds (octets_append (bytes_of 2 (128 + v)) [] (octets_bytes 2 (128 + v)) octets_none) h
octets_brought ds (Brings.response v) h =
    octets_append (bytes_of 2 (64 + v) ++ []) ds (octets_append (bytes_of 2 (64 + v)) [] (octets_bytes 2 (64 + v)) octets_none) h

-- a datapoint's bytes, and its data: bytes, and how many
pub octets_point : (d : Datapoint) → Octets (point_bytes d)
unfolding point_bytes
octets_point d = octets_bytes (width_at (type_of d)) (number_of d)

octets_data : (d : Datapoint) → Octets (value_data d)
unfolding value_data
octets_data (Switch b) = octets_none
octets_data (Byte n) = octets_point (Byte n)
octets_data (Hundredths z) = octets_point (Hundredths z)
octets_data (Single x) = octets_point (Single x)

pub length_point : (d : Datapoint) → length (point_bytes d) ≡ width_at (type_of d)
unfolding point_bytes
length_point d = length_bytes (width_at (type_of d)) (number_of d)

pub length_data : (d : Datapoint) → length (value_data d) ≡ length_code (type_of d)
unfolding value_data
length_data (Switch b) = refl
length_data (Byte n) = length_point (Byte n)
length_data (Hundredths z) = length_point (Hundredths z)
length_data (Single x) = length_point (Single x)

pub length_body : (d : Datapoint) → length (point_bytes d) ≡ max 1 (length_code (type_of d))
length_body (Switch b) = length_point (Switch b)
length_body (Byte n) = length_point (Byte n)
length_body (Hundredths z) = length_point (Hundredths z)
length_body (Single x) = length_point (Single x)

-- a request that reads, in multicast on an accepted sheet, is one that its service decides
pub received : (x : Asked) (p : Pdu) → Takes (rules_of x.sheet) (service_of p) x.mode → x.mode ≡ multicast → read_pdu x.apdu ≡ Ok p →
    Accepted x.sheet → 16 ≤ x.room → Reads x p
received x p t m e ok b =
    let r = reading x.apdu p e in
    record {
      ready = record { buffer = b; sheet = ok; least = r.least; most = r.most; mode = omega (arith, m); session = λ c. absurd (omega (arith, m, c)) };
      takes = t;
      reads = e;
    }

module _ {x : Asked} {d : Datapoint} {p : Pdu} {flag : ℕ} (s : Sends x d p flag) where
  read : (read_pdu (encoded p (value_data d)) ≡ Ok p) × (data_of p (encoded p (value_data d)) ≡ value_data d)
  read = group_back (value_data d) s.brings (allowed d)

  pub sent_reads : Reads x p
  sent_reads = received x p (taken _ s.brings s.mode) s.mode (ap read_pdu s.apdu ∙ read.0) s.accepted s.buffer

  pub sent_data : given x p ≡ value_data d
  sent_data = ap (data_of p) s.apdu ∙ read.1

  pub sent_octets : Octets x.apdu
  sent_octets = rw s.apdu (octets_brought (value_data d) s.brings (octets_data d))
