-- Worked examples: the figures of the standards (004: 8 to 46; 003: 6, 12, 13, 35, 36, 41, 57 to 59, 64 to 68), filled with the values of the sample sheet.
use Rattle.octets.proofs.Kit.{ℕ, ◌≡◌, refl, List, [], ◌∷◌, map, replicate}
use Rattle.std.proofs.Common.{Result, Ok}
use Rattle.octets.specs.Bytes.{num_at, bytes_of}
use Rattle.pdu.specs.{Table.{row_of, services, find}, Rules.{low_at, four_at, twelve_at, head_bytes}, Read.{read_pdu, read_outcome, data_of}, Write.encoded, declared.Service.Service}
use Rattle.pdu.specs.declared.Pdu.{Pdu, TheVariants.{GroupValueRead, GroupValueResponse, GroupValueWrite, IndividualAddressWrite, IndividualAddressRead, SerialNumberRead}}
use Rattle.pdu.specs.declared.Pdu.TheVariants.{SerialNumberWrite, DeviceDescriptorRead, PropertyValueRead, PropertyValueWrite, PropertyDescriptionRead, MemoryRead, MemoryWrite}
use Rattle.pdu.specs.declared.Pdu.TheVariants.{MemoryBitWrite, AuthorizeRequest, KeyWrite, Restart, IndividualAddressResponse, SerialNumberResponse, DeviceDescriptorResponse}
use Rattle.pdu.specs.declared.Pdu.TheVariants.{PropertyValueResponse, PropertyDescriptionResponse, MemoryResponse, AuthorizeResponse, KeyResponse, UserMemoryRead, UserMemoryResponse}
use Rattle.pdu.specs.declared.{Pdu.TheVariants.UserMemoryWrite, ReadRefusal.ReadRefusal}

-- an APDU, the PDU that it is, its data, and the APDU that writing these gives
pub record Example : Type 0 where
  pub apdu : List ℕ
  pub pdu : Pdu
  pub rest : List ℕ
  pub written : List ℕ

abbrev pub exact : List ℕ → Pdu → List ℕ → Example
exact b p d = record { apdu = b; pdu = p; rest = d; written = b }

abbrev pub loose : List ℕ → Pdu → List ℕ → List ℕ → Example
loose b p d c = record { apdu = b; pdu = p; rest = d; written = c }

abbrev pub examples : List Example
examples =
    exact (0x00 ∷ 0x00 ∷ []) GroupValueRead [] ∷
    exact (0x00 ∷ 0x41 ∷ []) (GroupValueResponse 1) [] ∷
    exact (0x00 ∷ 0x40 ∷ 0x55 ∷ []) (GroupValueResponse 0) (0x55 ∷ []) ∷
    exact (0x00 ∷ 0x81 ∷ []) (GroupValueWrite 1) [] ∷
    exact (0x00 ∷ 0x80 ∷ 0x55 ∷ []) (GroupValueWrite 0) (0x55 ∷ []) ∷
    exact (0x00 ∷ 0xC0 ∷ 0x11 ∷ 0x05 ∷ []) (IndividualAddressWrite 0x1105) [] ∷
    exact (0x01 ∷ 0x00 ∷ []) IndividualAddressRead [] ∷
    exact (0x03 ∷ 0xDC ∷ 0x00 ∷ 0xC5 ∷ 0x01 ∷ 0x02 ∷ 0x03 ∷ 0x04 ∷ []) (SerialNumberRead 0x00C501020304) [] ∷
    exact (0x03 ∷ 0xDE ∷ 0x00 ∷ 0xC5 ∷ 0x01 ∷ 0x02 ∷ 0x03 ∷ 0x04 ∷ 0x11 ∷ 0x05 ∷ 0x00 ∷ 0x00 ∷ 0x00 ∷ 0x00 ∷ []) (SerialNumberWrite 0x00C501020304 0x1105) [] ∷
    exact (0x03 ∷ 0x00 ∷ []) (DeviceDescriptorRead 0) [] ∷
    exact (0x03 ∷ 0xD5 ∷ 0x01 ∷ 0x33 ∷ 0x10 ∷ 0x01 ∷ []) (PropertyValueRead 0x01 0x33 1 1) [] ∷
    exact (0x03 ∷ 0xD5 ∷ 0x01 ∷ 0x33 ∷ 0x20 ∷ 0x01 ∷ []) (PropertyValueRead 0x01 0x33 2 1) [] ∷
    exact (0x03 ∷ 0xD7 ∷ 0x01 ∷ 0x33 ∷ 0x20 ∷ 0x01 ∷ 0xAA ∷ 0xBB ∷ 0xCC ∷ 0xDD ∷ []) (PropertyValueWrite 0x01 0x33 2 1) (0xAA ∷ 0xBB ∷ 0xCC ∷ 0xDD ∷ []) ∷
    exact (0x03 ∷ 0xD8 ∷ 0x01 ∷ 0x33 ∷ 0x05 ∷ []) (PropertyDescriptionRead 0x01 0x33 5) [] ∷
    exact (0x02 ∷ 0x04 ∷ 0x01 ∷ 0x00 ∷ []) (MemoryRead 4 0x0100) [] ∷
    exact (0x02 ∷ 0x81 ∷ 0x01 ∷ 0x00 ∷ 0x55 ∷ []) (MemoryWrite 1 0x0100) (0x55 ∷ []) ∷
    exact (0x03 ∷ 0xD0 ∷ 0x01 ∷ 0x01 ∷ 0x00 ∷ 0x0F ∷ 0xF0 ∷ []) (MemoryBitWrite 1 0x0100) (0x0F ∷ 0xF0 ∷ []) ∷
    exact (0x03 ∷ 0xD1 ∷ 0x00 ∷ 0x22 ∷ 0x22 ∷ 0x22 ∷ 0x22 ∷ []) (AuthorizeRequest 0x22222222) [] ∷
    exact (0x03 ∷ 0xD3 ∷ 0x01 ∷ 0xAA ∷ 0xBB ∷ 0xCC ∷ 0xDD ∷ []) (KeyWrite 1 0xAABBCCDD) [] ∷
    exact (0x03 ∷ 0x80 ∷ []) Restart [] ∷
    exact (0x01 ∷ 0x40 ∷ []) IndividualAddressResponse [] ∷
    exact (0x03 ∷ 0xDD ∷ 0x00 ∷ 0xC5 ∷ 0x01 ∷ 0x02 ∷ 0x03 ∷ 0x04 ∷ 0x00 ∷ 0x00 ∷ 0x00 ∷ 0x00 ∷ []) (SerialNumberResponse 0x00C501020304 0) [] ∷
    exact (0x03 ∷ 0x40 ∷ 0x07 ∷ 0xB0 ∷ []) (DeviceDescriptorResponse 0) (0x07 ∷ 0xB0 ∷ []) ∷
    exact (0x03 ∷ 0x7F ∷ []) (DeviceDescriptorResponse 63) [] ∷
    exact (0x03 ∷ 0xD6 ∷ 0x01 ∷ 0x33 ∷ 0x10 ∷ 0x01 ∷ 0x03 ∷ 0xE8 ∷ []) (PropertyValueResponse 0x01 0x33 1 1) (0x03 ∷ 0xE8 ∷ []) ∷
    exact (0x03 ∷ 0xD6 ∷ 0x01 ∷ 0x33 ∷ 0x00 ∷ 0x01 ∷ []) (PropertyValueResponse 0x01 0x33 0 1) [] ∷
    exact (0x03 ∷ 0xD9 ∷ 0x01 ∷ 0x33 ∷ 0x00 ∷ 0x84 ∷ 0x00 ∷ 0x02 ∷ 0x31 ∷ []) (PropertyDescriptionResponse 0x01 0x33 0 0x84 2 0x31) [] ∷
    exact (0x02 ∷ 0x44 ∷ 0x01 ∷ 0x00 ∷ 0xA0 ∷ 0xA1 ∷ 0xA2 ∷ 0xA3 ∷ []) (MemoryResponse 4 0x0100) (0xA0 ∷ 0xA1 ∷ 0xA2 ∷ 0xA3 ∷ []) ∷
    exact (0x02 ∷ 0x40 ∷ 0x01 ∷ 0x00 ∷ []) (MemoryResponse 0 0x0100) [] ∷
    exact (0x03 ∷ 0xD2 ∷ 0x01 ∷ []) (AuthorizeResponse 1) [] ∷
    exact (0x03 ∷ 0xD4 ∷ 0xFF ∷ []) (KeyResponse 0xFF) [] ∷
    exact (0x02 ∷ 0xC0 ∷ 0x04 ∷ 0x02 ∷ 0x00 ∷ []) (UserMemoryRead 4 0x0200) [] ∷
    exact (0x02 ∷ 0xC0 ∷ 0x14 ∷ 0x02 ∷ 0x00 ∷ []) (UserMemoryRead 0x14 0x0200) [] ∷
    exact (0x02 ∷ 0xC1 ∷ 0x04 ∷ 0x02 ∷ 0x00 ∷ 0xB0 ∷ 0xB1 ∷ 0xB2 ∷ 0xB3 ∷ []) (UserMemoryResponse 4 0x0200) (0xB0 ∷ 0xB1 ∷ 0xB2 ∷ 0xB3 ∷ []) ∷
    exact (0x02 ∷ 0xC1 ∷ 0x00 ∷ 0x02 ∷ 0x00 ∷ []) (UserMemoryResponse 0 0x0200) [] ∷
    exact (0x02 ∷ 0xC2 ∷ 0x02 ∷ 0x02 ∷ 0x01 ∷ 0x11 ∷ 0x22 ∷ []) (UserMemoryWrite 2 0x0201) (0x11 ∷ 0x22 ∷ []) ∷
    -- the top six bits of the first byte, and bytes of no meaning
    loose (0xFE ∷ 0x04 ∷ 0x01 ∷ 0x00 ∷ []) (MemoryRead 4 0x0100) [] (0x02 ∷ 0x04 ∷ 0x01 ∷ 0x00 ∷ []) ∷
    loose (0x03 ∷ 0xD1 ∷ 0x55 ∷ 0x22 ∷ 0x22 ∷ 0x22 ∷ 0x22 ∷ []) (AuthorizeRequest 0x22222222) [] (0x03 ∷ 0xD1 ∷ 0x00 ∷ 0x22 ∷ 0x22 ∷ 0x22 ∷ 0x22 ∷ []) ∷
    loose (0x03 ∷ 0xDE ∷ 0x00 ∷ 0xC5 ∷ 0x01 ∷ 0x02 ∷ 0x03 ∷ 0x04 ∷ 0x12 ∷ 0x07 ∷ 0xDE ∷ 0xAD ∷ 0xBE ∷ 0xEF ∷ []) (SerialNumberWrite 0x00C501020304 0x1207) []
    (0x03 ∷ 0xDE ∷ 0x00 ∷ 0xC5 ∷ 0x01 ∷ 0x02 ∷ 0x03 ∷ 0x04 ∷ 0x12 ∷ 0x07 ∷ 0x00 ∷ 0x00 ∷ 0x00 ∷ 0x00 ∷ []) ∷
    loose (0x47 ∷ 0xD6 ∷ 0x01 ∷ 0x33 ∷ 0x10 ∷ 0x01 ∷ 0x03 ∷ 0xE8 ∷ []) (PropertyValueResponse 0x01 0x33 1 1) (0x03 ∷ 0xE8 ∷ []) (0x03 ∷ 0xD6 ∷ 0x01 ∷ 0x33 ∷ 0x10 ∷ 0x01 ∷ 0x03 ∷ 0xE8 ∷ []) ∷
    []

-- what reading, the data and writing give of it, and what they should
pub record Worked : Type 0 where
  pub read : Result Pdu ReadRefusal
  pub data_read : List ℕ
  pub bytes : List ℕ

abbrev pub found : Example → Worked
found x = record { read = read_pdu x.apdu; data_read = data_of x.pdu x.apdu; bytes = encoded x.pdu x.rest }

abbrev pub wanted : Example → Worked
wanted x = record { read = Ok x.pdu; data_read = x.rest; bytes = x.written }

-- ALL EXAMPLES ARE READ AND WRITTEN AS THE FIGURES HAVE THEM
pub vectors : map found examples ≡ map wanted examples
unfolding read_pdu find data_of encoded head_bytes num_at bytes_of low_at four_at twelve_at
vectors = refl

-- EACH PDU WITH DATA AT ITS LONGEST, so many bytes of data as it may have
abbrev rest : ℕ → List ℕ
rest n = replicate n 0x55

abbrev pub longest : List Example
longest =
    exact (0x00 ∷ 0x40 ∷ rest 14) (GroupValueResponse 0) (rest 14) ∷
    exact (0x00 ∷ 0x80 ∷ rest 14) (GroupValueWrite 0) (rest 14) ∷
    exact (0x03 ∷ 0x42 ∷ rest 14) (DeviceDescriptorResponse 2) (rest 14) ∷
    exact (0x03 ∷ 0xD7 ∷ 0x01 ∷ 0x33 ∷ 0x50 ∷ 0x01 ∷ rest 10) (PropertyValueWrite 0x01 0x33 5 1) (rest 10) ∷
    exact (0x03 ∷ 0xD6 ∷ 0x01 ∷ 0x33 ∷ 0x50 ∷ 0x01 ∷ rest 10) (PropertyValueResponse 0x01 0x33 5 1) (rest 10) ∷
    exact (0x02 ∷ 0x8C ∷ 0x01 ∷ 0x00 ∷ rest 12) (MemoryWrite 12 0x0100) (rest 12) ∷
    exact (0x02 ∷ 0x4C ∷ 0x01 ∷ 0x00 ∷ rest 12) (MemoryResponse 12 0x0100) (rest 12) ∷
    exact (0x03 ∷ 0xD0 ∷ 0x05 ∷ 0x01 ∷ 0x00 ∷ rest 10) (MemoryBitWrite 5 0x0100) (rest 10) ∷
    exact (0x02 ∷ 0xC1 ∷ 0x0B ∷ 0x02 ∷ 0x00 ∷ rest 11) (UserMemoryResponse 11 0x0200) (rest 11) ∷
    exact (0x02 ∷ 0xC2 ∷ 0x0B ∷ 0x02 ∷ 0x00 ∷ rest 11) (UserMemoryWrite 11 0x0200) (rest 11) ∷
    []

pub longest_worked : map found longest ≡ map wanted longest
unfolding read_pdu find data_of encoded head_bytes num_at bytes_of low_at four_at twelve_at
longest_worked = refl

-- THE TABLE'S ORDER, by the first code of each row: its place in the table is a service's number in C
pub in_order :
    map (λ (k : Service). (row_of k).base) services
    ≡ 0x000 ∷ 0x040 ∷ 0x080 ∷ 0x0C0 ∷ 0x100 ∷ 0x3DC ∷ 0x3DE ∷ 0x300 ∷ 0x3D5 ∷ 0x3D7 ∷ 0x3D8 ∷ 0x200 ∷ 0x280 ∷ 0x3D0 ∷
    0x3D1 ∷ 0x3D3 ∷ 0x380 ∷ 0x140 ∷ 0x3DD ∷ 0x340 ∷ 0x3D6 ∷ 0x3D9 ∷ 0x240 ∷ 0x3D2 ∷ 0x3D4 ∷ 0x2C0 ∷ 0x2C1 ∷ 0x2C2 ∷ []
in_order = refl

-- bytes that are no APDU of the table, and the number of the refusal
pub record Refusal : Type 0 where
  pub apdu : List ℕ
  pub number : ℕ

abbrev pub refusal : List ℕ → ℕ → Refusal
refusal b n = record { apdu = b; number = n }

abbrev pub refusals : List Refusal
refusals =
    refusal [] 5 ∷
    refusal (0x03 ∷ []) 5 ∷
    refusal (0x00 ∷ 0x40 ∷ 0x55 ∷ 0x55 ∷ 0x55 ∷ 0x55 ∷ 0x55 ∷ 0x55 ∷ 0x55 ∷ 0x55 ∷ 0x55 ∷ 0x55 ∷ 0x55 ∷ 0x55 ∷ 0x55 ∷ 0x55 ∷ 0x55 ∷ []) 5 ∷
    refusal (0x00 ∷ 0x01 ∷ []) 8 ∷
    refusal (0x02 ∷ 0x10 ∷ 0x01 ∷ 0x00 ∷ []) 8 ∷
    refusal (0x03 ∷ 0x81 ∷ []) 8 ∷
    refusal (0x03 ∷ 0xDF ∷ []) 8 ∷
    refusal (0xFF ∷ 0xFF ∷ []) 8 ∷
    refusal (0x00 ∷ 0x81 ∷ 0x55 ∷ []) 10 ∷
    refusal (0x00 ∷ 0x00 ∷ 0x00 ∷ []) 10 ∷
    refusal (0x03 ∷ 0xD0 ∷ []) 10 ∷
    refusal (0x02 ∷ 0x81 ∷ 0x01 ∷ 0x00 ∷ []) 10 ∷
    refusal (0x03 ∷ 0xD7 ∷ 0x01 ∷ 0x33 ∷ 0x10 ∷ 0x01 ∷ []) 10 ∷
    refusal (0x03 ∷ 0xD9 ∷ 0x01 ∷ 0x33 ∷ 0x00 ∷ 0x84 ∷ 0x10 ∷ 0x00 ∷ 0x31 ∷ []) 10 ∷
    refusal (0x02 ∷ 0xC3 ∷ 0x04 ∷ 0x02 ∷ 0x00 ∷ []) 8 ∷
    refusal (0x02 ∷ 0xC2 ∷ 0x12 ∷ 0x02 ∷ 0x01 ∷ 0x11 ∷ 0x22 ∷ []) 10 ∷
    []

-- AND THESE ARE REFUSED BY THAT NUMBER
pub vectors_refused : map (λ (x : Refusal). read_outcome (read_pdu x.apdu)) refusals ≡ map (λ (x : Refusal). x.number) refusals
unfolding read_pdu find num_at low_at four_at twelve_at
vectors_refused = refl
