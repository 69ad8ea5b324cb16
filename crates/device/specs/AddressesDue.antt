-- WHAT IS DUE FOR THE INDIVIDUAL ADDRESS, by programming mode and by serial number, and for the descriptor.
use Rattle.std.specs.Prelude.{ℕ, ◌≤◌, ◌≡◌, []}
use Rattle.octets.specs.Bytes.{bytes_of}
use Rattle.octets.specs.Splice.{splice}
use Rattle.sheet.specs.Layout.{◌of◌}
use Rattle.sheet.specs.Head as head
use Rattle.sheet.specs.Head.{rules_of, later}
use Rattle.pdu.specs.declared.Pdu.TheVariants.{IndividualAddressWrite, IndividualAddressRead, SerialNumberRead, SerialNumberWrite}
use Rattle.pdu.specs.declared.Pdu.TheVariants.{DeviceDescriptorRead, IndividualAddressResponse, SerialNumberResponse, DeviceDescriptorResponse}
use Rattle.device.specs.Step.{Step}
use Rattle.device.specs.Asked.{Asked, quiet, says, stores, Reads}

abbrev pub Programming : Asked → Type 0
Programming x = head.programming x.sheet ≡ 1

-- THE STEP THAT IS DUE
pub data AddressesDue (x : Asked) : Step → Type 0 where
  address_write : (address : ℕ) → Reads x (IndividualAddressWrite address) → Programming x →
      AddressesDue x (stores x (splice x.sheet (head.address).at (bytes_of 2 address)))
  no_address_write : (address : ℕ) → Reads x (IndividualAddressWrite address) → (Programming x → ⊥) → AddressesDue x (quiet x 2)
  address_read : Reads x IndividualAddressRead → Programming x → AddressesDue x (says x 0 IndividualAddressResponse [])
  no_address_read : Reads x IndividualAddressRead → (Programming x → ⊥) → AddressesDue x (quiet x 2)
  serial_read : (serial : ℕ) → Reads x (SerialNumberRead serial) → serial ≡ head.serial of x.sheet →
      AddressesDue x (says x 0 (SerialNumberResponse serial 0) [])
  no_serial_read : (serial : ℕ) → Reads x (SerialNumberRead serial) → (serial ≡ head.serial of x.sheet → ⊥) → AddressesDue x (quiet x 2)
  serial_write : (serial address : ℕ) → Reads x (SerialNumberWrite serial address) → serial ≡ head.serial of x.sheet →
      AddressesDue x (stores x (splice x.sheet (head.address).at (bytes_of 2 address)))
  no_serial_write : (serial address : ℕ) → Reads x (SerialNumberWrite serial address) → (serial ≡ head.serial of x.sheet → ⊥) → AddressesDue x (quiet x 2)
  descriptor : Reads x (DeviceDescriptorRead 0) → AddressesDue x (says x 0 (DeviceDescriptorResponse 0) (bytes_of 2 (head.mask of x.sheet)))
  no_descriptor : (t : ℕ) → Reads x (DeviceDescriptorRead t) → 1 ≤ t → (rules_of x.sheet ≡ later → ⊥) → AddressesDue x (quiet x 2)
  descriptor_denied : (t : ℕ) → Reads x (DeviceDescriptorRead t) → 1 ≤ t → rules_of x.sheet ≡ later →
      AddressesDue x (says x 11 (DeviceDescriptorResponse 63) [])
