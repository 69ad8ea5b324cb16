-- What the bytes of an answer are: a PDU, and where a request is denied the negative answer of its service.
use Rattle.std.specs.Prelude.{ℕ, ◌≤◌, ◌≡◌, List, []}
use Rattle.std.specs.Prelude.{Ok}
use Rattle.pdu.specs.Read.{read_pdu, data_of}
use Rattle.pdu.specs.Write.{encoded}
use Rattle.pdu.specs.declared.Pdu.{Pdu}
use Rattle.pdu.specs.declared.Pdu.TheVariants.{PropertyValueRead, PropertyValueWrite, PropertyDescriptionRead, MemoryRead, MemoryWrite, MemoryBitWrite}
use Rattle.pdu.specs.declared.Pdu.TheVariants.{KeyWrite, DeviceDescriptorRead, DeviceDescriptorResponse, PropertyValueResponse}
use Rattle.pdu.specs.declared.Pdu.TheVariants.{PropertyDescriptionResponse, MemoryResponse, KeyResponse, UserMemoryRead, UserMemoryWrite, UserMemoryResponse}

-- b is the bytes of a PDU with its data, and reads as that
pub record IsPdu (b : List ℕ) : Type 0 where
  pub pdu : Pdu
  pub bytes : List ℕ
  pub written : b ≡ encoded pdu bytes
  pub reads : read_pdu b ≡ Ok pdu
  pub gives : data_of pdu b ≡ bytes

-- the negative answer of a service, if it has one
pub data Negative : Pdu → Pdu → Type 0 where
  of_read : (object id n s : ℕ) → Negative (PropertyValueRead object id n s) (PropertyValueResponse object id 0 s)
  of_write : (object id n s : ℕ) → Negative (PropertyValueWrite object id n s) (PropertyValueResponse object id 0 s)
  of_description : (object id index : ℕ) → Negative (PropertyDescriptionRead object id index) (PropertyDescriptionResponse object id index 0 0 0)
  of_memory_read : (n address : ℕ) → Negative (MemoryRead n address) (MemoryResponse 0 address)
  of_memory_write : (n address : ℕ) → Negative (MemoryWrite n address) (MemoryResponse 0 address)
  of_bit_write : (n address : ℕ) → Negative (MemoryBitWrite n address) (MemoryResponse 0 address)
  of_user_read : (n address : ℕ) → Negative (UserMemoryRead n address) (UserMemoryResponse 0 address)
  of_user_write : (n address : ℕ) → Negative (UserMemoryWrite n address) (UserMemoryResponse 0 address)
  of_descriptor : (t : ℕ) → 1 ≤ t → Negative (DeviceDescriptorRead t) (DeviceDescriptorResponse 63)
  of_key_write : (level key : ℕ) → Negative (KeyWrite level key) (KeyResponse 255)

-- b is the negative answer to the request a, and nothing else
pub record Denial (a b : List ℕ) : Type 0 where
  pub request : Pdu
  pub reply : Pdu
  pub reads : read_pdu a ≡ Ok request
  pub negative : Negative request reply
  pub bytes : b ≡ encoded reply []
