-- Worked examples: a switch stands in the six bits and has no data, a byte stands in its data. Forms exchanged in code and definitions at once would show here.
use Rattle.octets.proofs.Kit.{◌≡◌, refl, true, [], ◌∷◌}
use Rattle.octets.specs.Bytes.{bytes_of}
use Rattle.pdu.specs.declared.Pdu.TheVariants.{GroupValueWrite}
use Rattle.points.specs.{Point.point_bytes, declared.{Datapoint.TheVariants.{Switch, Byte}, Refusal.TheVariants.Length}}
use Rattle.std.proofs.Common.{Ok, Err}
use Rattle.values.specs.Value.{six_bits, value_data, value_pdu, read_value}

switch_sent : value_pdu (Switch true) ≡ GroupValueWrite 1
unfolding six_bits
switch_sent = refl

switch_alone : value_data (Switch true) ≡ []
unfolding value_data
switch_alone = refl

switch_said : read_value 1 1 [] ≡ Ok (Switch true)
unfolding read_value
switch_said = refl

byte_sent : value_pdu (Byte 7) ≡ GroupValueWrite 0
unfolding six_bits
byte_sent = refl

byte_after : value_data (Byte 7) ≡ 7 ∷ []
unfolding value_data point_bytes bytes_of
byte_after = refl

switch_with_data : read_value 1 1 (1 ∷ []) ≡ Err Length
unfolding read_value
switch_with_data = refl
