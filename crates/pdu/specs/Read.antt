-- What reading an APDU gives.
use Rattle.std.specs.Prelude.{ℕ, cond, List, length, drop, ltb, Option, Some, None, Result, Ok, Err}
use Rattle.pdu.specs.Table.{row_of, service_at}
use Rattle.pdu.specs.Pdus.{service_of, pdu_of}
use Rattle.pdu.specs.Rules.{code_of, values_at, head_of, fits}
use Rattle.pdu.specs.declared.Service.{Service}
use Rattle.pdu.specs.declared.Pdu.{Pdu}
use Rattle.pdu.specs.declared.ReadRefusal.{ReadRefusal}
use Rattle.pdu.specs.declared.ReadRefusal.TheVariants as unread

-- a refusal by its number
abbrev pub read_number : ReadRefusal → ℕ
read_number unread.Length = 5
read_number unread.Service = 8
read_number unread.Fields = 10

-- the PDU of a service whose fields are those in the bytes
abbrev pub built_of : Service → List ℕ → Pdu
built_of k b = pdu_of k (values_at (row_of k).items 2 b)

-- bytes of a service: refused for their fields where its row does not let them stand
abbrev pub read_as : Service → List ℕ → Result Pdu ReadRefusal
read_as k b = cond (fits (row_of k) (values_at (row_of k).items 2 b) (length b)) (Ok (built_of k b)) (Err unread.Fields)

abbrev pub read_found : Option Service → List ℕ → Result Pdu ReadRefusal
read_found None b = Err unread.Service
read_found (Some k) b = read_as k b

-- WHAT READING GIVES: the refusal of the length, then of the service, then of the fields, or the PDU
unfoldable pub read_pdu : List ℕ → Result Pdu ReadRefusal
read_pdu b =
    cond (ltb (length b) 2) (Err unread.Length) (cond (ltb 16 (length b)) (Err unread.Length) (read_found (service_at (code_of b)) b))

-- the outcome of a reading by its number
abbrev pub read_outcome : Result Pdu ReadRefusal → ℕ
read_outcome (Ok p) = 0
read_outcome (Err e) = read_number e

-- where the data of a PDU starts, and the data
abbrev pub data_at : Pdu → ℕ
data_at p = head_of (row_of (service_of p))

unfoldable pub data_of : Pdu → List ℕ → List ℕ
data_of p b = drop (data_at p) b
