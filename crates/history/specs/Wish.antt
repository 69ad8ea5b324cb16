-- What a request asks for, as far as a history is concerned with it, and which modes take it.
use Rattle.std.specs.Prelude.{ℕ, List, [], Bool, false, ◌||◌, ◌&&◌, eqb}
use Rattle.std.specs.Prelude.{Result, Ok, Err}
use Rattle.pdu.specs.declared.ReadRefusal.{ReadRefusal}
use Rattle.sheet.specs.Head.{later}
use Rattle.sheet.specs.declared.Memory.{Memory}
use Rattle.sheet.specs.declared.Memory.TheVariants.{Device, User}
use Rattle.pdu.specs.Read.{read_pdu, data_of}
use Rattle.pdu.specs.declared.Pdu.{Pdu}
use Rattle.pdu.specs.declared.Pdu.TheVariants.{GroupValueRead, GroupValueResponse, GroupValueWrite, IndividualAddressWrite, IndividualAddressRead, SerialNumberRead, SerialNumberWrite}
use Rattle.pdu.specs.declared.Pdu.TheVariants.{DeviceDescriptorRead, PropertyValueRead, PropertyValueWrite, PropertyDescriptionRead, MemoryRead, MemoryWrite, MemoryBitWrite}
use Rattle.pdu.specs.declared.Pdu.TheVariants.{AuthorizeRequest, KeyWrite, Restart, IndividualAddressResponse, SerialNumberResponse, DeviceDescriptorResponse, PropertyValueResponse}
use Rattle.pdu.specs.declared.Pdu.TheVariants.{PropertyDescriptionResponse, MemoryResponse, AuthorizeResponse, KeyResponse, UserMemoryRead, UserMemoryResponse, UserMemoryWrite}

-- a write to locations: bytes of a memory, bits of the device's memory, a property, a key; and what no request asks for, all properties restored
pub data Change : Type 0 where
  write_memory : Memory → (n address : ℕ) → Change
  write_bits : (n address : ℕ) → Change
  write_property : (object id n s : ℕ) → Change
  write_key : (level number : ℕ) → Change
  restore_all : Change

-- what changes other bytes: the address in programming mode, and by serial; a group value for objects that have a flag
pub data Other : Type 0 where
  address : (new : ℕ) → Other
  address_for : (serial new : ℕ) → Other
  group : (flag v : ℕ) → Other

-- a change, a key offered, a restart, other bytes, or nothing of these
pub data Wish : Type 0 where
  change : Change → Wish
  offer_key : (number : ℕ) → Wish
  restart : Wish
  other : Other → Wish
  nothing : Wish

abbrev pub wish_of : Pdu → Wish
wish_of (GroupValueResponse v) = other (group 4 v)
wish_of (GroupValueWrite v) = other (group 2 v)
wish_of (IndividualAddressWrite new) = other (address new)
wish_of (SerialNumberWrite serial new) = other (address_for serial new)
wish_of (PropertyValueWrite object id n s) = change (write_property object id n s)
wish_of (MemoryWrite n a) = change (write_memory Device n a)
wish_of (MemoryBitWrite n a) = change (write_bits n a)
wish_of (AuthorizeRequest number) = offer_key number
wish_of (KeyWrite level number) = change (write_key level number)
wish_of Restart = restart
wish_of (UserMemoryWrite n a) = change (write_memory User n a)
wish_of GroupValueRead = nothing
wish_of IndividualAddressRead = nothing
wish_of (SerialNumberRead serial) = nothing
wish_of (DeviceDescriptorRead t) = nothing
wish_of (PropertyValueRead object id n s) = nothing
wish_of (PropertyDescriptionRead object id index) = nothing
wish_of (MemoryRead n a) = nothing
wish_of IndividualAddressResponse = nothing
wish_of (SerialNumberResponse serial domain) = nothing
wish_of (DeviceDescriptorResponse t) = nothing
wish_of (PropertyValueResponse object id n s) = nothing
wish_of (PropertyDescriptionResponse object id index kind maximum access) = nothing
wish_of (MemoryResponse n a) = nothing
wish_of (AuthorizeResponse level) = nothing
wish_of (KeyResponse level) = nothing
wish_of (UserMemoryRead n a) = nothing
wish_of (UserMemoryResponse n a) = nothing

-- what an APDU asks for, and its data: what doesn't read asks for nothing
abbrev pub wish_in : Result Pdu ReadRefusal → Wish
wish_in (Ok p) = wish_of p
wish_in (Err e) = nothing

-- judge's `data_in` says the same: a history is read without any word of judging, so it stands here again
abbrev pub data_from : Result Pdu ReadRefusal → List ℕ → List ℕ
data_from (Ok p) a = data_of p a
data_from (Err e) a = []

unfoldable pub asks : List ℕ → Wish
asks a = wish_in (read_pdu a)

unfoldable pub brings : List ℕ → List ℕ
brings a = data_from (read_pdu a) a

-- WHICH MODE TAKES IT, by the number of the rules: 0 multicast, 1 broadcast, 2 connectionless, 3 connected
abbrev pub taken : ℕ → Wish → ℕ → Bool
taken rules (change (write_memory m n a)) mode = eqb mode 3
taken rules (change (write_bits n a)) mode = eqb mode 3
taken rules (change (write_key level number)) mode = eqb mode 3
taken rules (offer_key number) mode = eqb mode 3
taken rules restart mode = eqb mode 3 || (eqb rules later && eqb mode 2)
taken rules (change (write_property object id n s)) mode = eqb mode 2 || eqb mode 3
taken rules (other (address new)) mode = eqb mode 1
taken rules (other (address_for serial new)) mode = eqb mode 1
taken rules (other (group flag v)) mode = eqb mode 0
taken rules (change restore_all) mode = false
taken rules nothing mode = false
