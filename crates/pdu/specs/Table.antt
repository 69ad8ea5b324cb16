-- THE SERVICE TABLE, and the list of the answers that a tool reads.
use Rattle.std.specs.Prelude.{ℕ, ◌+◌, List, [], ◌∷◌, Bool, cond, ◌&&◌, leb, ltb, Option, Some, None}
use Rattle.pdu.specs.Item.{low, num, cap, duo, skip, none, by, twice, between, group, Row, row, V6, Address, Serial, Domain, T, Object, Id, N, S, Index, Typ, Maximum, Access, Level, Key}
use Rattle.pdu.specs.declared.Service.{Service}
use Rattle.pdu.specs.declared.Service.TheVariants.{GroupValueRead, GroupValueResponse, GroupValueWrite, IndividualAddressWrite, IndividualAddressRead, SerialNumberRead, SerialNumberWrite}
use Rattle.pdu.specs.declared.Service.TheVariants.{DeviceDescriptorRead, PropertyValueRead, PropertyValueWrite, PropertyDescriptionRead, MemoryRead, MemoryWrite, MemoryBitWrite}
use Rattle.pdu.specs.declared.Service.TheVariants.{AuthorizeRequest, KeyWrite, Restart, IndividualAddressResponse, SerialNumberResponse, DeviceDescriptorResponse, PropertyValueResponse}
use Rattle.pdu.specs.declared.Service.TheVariants.{PropertyDescriptionResponse, MemoryResponse, AuthorizeResponse, KeyResponse, UserMemoryRead, UserMemoryResponse, UserMemoryWrite}

abbrev pub row_of : Service → Row
-- the services
row_of GroupValueRead = row 0x000 1 [] none
row_of GroupValueResponse = row 0x040 64 (low V6 64 ∷ []) (group V6)
row_of GroupValueWrite = row 0x080 64 (low V6 64 ∷ []) (group V6)
row_of IndividualAddressWrite = row 0x0C0 1 (num Address 2 ∷ []) none
row_of IndividualAddressRead = row 0x100 1 [] none
row_of SerialNumberRead = row 0x3DC 1 (cap Serial 6 281474976710656 ∷ []) none
row_of SerialNumberWrite = row 0x3DE 1 (cap Serial 6 281474976710656 ∷ num Address 2 ∷ skip 4 ∷ []) none
row_of DeviceDescriptorRead = row 0x300 64 (low T 64 ∷ []) none
row_of PropertyValueRead = row 0x3D5 1 (num Object 1 ∷ num Id 1 ∷ duo N S ∷ []) none
row_of PropertyValueWrite = row 0x3D7 1 (num Object 1 ∷ num Id 1 ∷ duo N S ∷ []) (between 1 10)
row_of PropertyDescriptionRead = row 0x3D8 1 (num Object 1 ∷ num Id 1 ∷ num Index 1 ∷ []) none
row_of MemoryRead = row 0x200 16 (low N 16 ∷ num Address 2 ∷ []) none
row_of MemoryWrite = row 0x280 16 (low N 16 ∷ num Address 2 ∷ []) (by N)
row_of MemoryBitWrite = row 0x3D0 1 (num N 1 ∷ num Address 2 ∷ []) (twice N)
row_of AuthorizeRequest = row 0x3D1 1 (skip 1 ∷ num Key 4 ∷ []) none
row_of KeyWrite = row 0x3D3 1 (num Level 1 ∷ num Key 4 ∷ []) none
row_of Restart = row 0x380 1 [] none
-- the answers
row_of IndividualAddressResponse = row 0x140 1 [] none
row_of SerialNumberResponse = row 0x3DD 1 (cap Serial 6 281474976710656 ∷ num Domain 2 ∷ skip 2 ∷ []) none
row_of DeviceDescriptorResponse = row 0x340 64 (low T 64 ∷ []) (between 0 14)
row_of PropertyValueResponse = row 0x3D6 1 (num Object 1 ∷ num Id 1 ∷ duo N S ∷ []) (between 0 10)
row_of PropertyDescriptionResponse = row 0x3D9 1 (num Object 1 ∷ num Id 1 ∷ num Index 1 ∷ num Typ 1 ∷ cap Maximum 2 4096 ∷ num Access 1 ∷ []) none
row_of MemoryResponse = row 0x240 16 (low N 16 ∷ num Address 2 ∷ []) (by N)
row_of AuthorizeResponse = row 0x3D2 1 (num Level 1 ∷ []) none
row_of KeyResponse = row 0x3D4 1 (num Level 1 ∷ []) none
-- user memory: a request, the answer, a request
row_of UserMemoryRead = row 0x2C0 1 (num N 1 ∷ num Address 2 ∷ []) none
row_of UserMemoryResponse = row 0x2C1 1 (num N 1 ∷ num Address 2 ∷ []) (by N)
row_of UserMemoryWrite = row 0x2C2 1 (num N 1 ∷ num Address 2 ∷ []) (by N)

-- all of them, in the table's order
abbrev pub services : List Service
services =
    GroupValueRead ∷ GroupValueResponse ∷ GroupValueWrite ∷ IndividualAddressWrite ∷ IndividualAddressRead ∷ SerialNumberRead ∷
    SerialNumberWrite ∷ DeviceDescriptorRead ∷ PropertyValueRead ∷ PropertyValueWrite ∷ PropertyDescriptionRead ∷ MemoryRead ∷
    MemoryWrite ∷ MemoryBitWrite ∷ AuthorizeRequest ∷ KeyWrite ∷ Restart ∷ IndividualAddressResponse ∷ SerialNumberResponse ∷
    DeviceDescriptorResponse ∷ PropertyValueResponse ∷ PropertyDescriptionResponse ∷ MemoryResponse ∷ AuthorizeResponse ∷ KeyResponse ∷
    UserMemoryRead ∷ UserMemoryResponse ∷ UserMemoryWrite ∷ []

-- the code is one of the row's
abbrev pub has : Row → ℕ → Bool
has r c = leb r.base c && ltb c (r.base + r.span)

-- the service among these whose row has the code
unfoldable pub find : List Service → ℕ → Option Service
find [] c = None
find (k ∷ ks) c = cond (has (row_of k) c) (Some k) (find ks c)

-- WHICH SERVICE A CODE NAMES
abbrev pub service_at : ℕ → Option Service
service_at c = find services c

-- the outcome of that by its number: 0 for a service, 8 for unknown
abbrev pub found_outcome : Option Service → ℕ
found_outcome (Some k) = 0
found_outcome None = 8
