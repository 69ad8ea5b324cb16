-- The answer for a type that the device has not, in bytes.
use Rattle.octets.proofs.Kit.{◌≡◌, refl, [], ◌∷◌}
use Rattle.octets.specs.Bytes.{bytes_of}
use Rattle.pdu.specs.{Rules.head_bytes, Write.encoded, declared.Pdu.TheVariants.{DeviceDescriptorResponse}}
use Rattle.judge.specs.Addresses.{no_type}

pub no_type_bytes : encoded (DeviceDescriptorResponse no_type) [] ≡ 0x03 ∷ 0x7F ∷ []
unfolding encoded head_bytes bytes_of
no_type_bytes = refl
