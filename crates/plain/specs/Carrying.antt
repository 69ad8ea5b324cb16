-- What is served, and a reply carried out.
use Rattle.std.specs.Prelude.{ℕ, ◌+◌, ◌≤◌, ◌≡◌, List, [], length, take}
use Rattle.std.specs.Prelude.{Option, Some, None, Ok}
use Rattle.pdu.specs.Read.{read_pdu, data_of, data_at}
use Rattle.pdu.specs.Write.{encoded}
use Rattle.pdu.specs.declared.Pdu.{Pdu}
use Rattle.device.specs.Carry.{Filled}
use Rattle.parts.specs.Again.{Restores, Whole, Roomy}
use Rattle.plain_services.specs.Outcome.{number_of}
use Rattle.plain_services.specs.declared.Reply.{Reply}

-- d is the data of some request that reads as p
pub record ReadAs (p : Pdu) (d : List ℕ) : Type 0 where
  pub apdu : List ℕ
  pub reads : read_pdu apdu ≡ Ok p
  pub given : d ≡ data_of p apdu

-- the bytes of what is sent, and that a buffer of n bytes takes them
abbrev pub sent_bytes : Option Pdu → List ℕ → List ℕ
sent_bytes None b = []
sent_bytes (Some p) b = encoded p b

abbrev pub Sendable : ℕ → Option Pdu → List ℕ → Type 0
Sendable n None b = Unit {0}
Sendable n (Some p) b = (16 ≤ n) × (data_at p + length b ≤ 16)

-- a reply that a sheet of n bytes and a buffer of m take
abbrev pub Ready : Reply → ℕ → ℕ → Type 0
Ready r n m = Roomy r.parts n × Sendable m r.sent (take r.length r.bytes) × (r.length ≤ 14) × (length r.bytes ≡ 14)

-- A REPLY CARRIED OUT: the parts written to the sheet unless it was refused or ignored, and the PDU to the buffer, n bytes of it
pub record Carried (r : Reply) (s o : List ℕ) (n : ℕ) (s' o' : List ℕ) : Type 0 where
  pub kept : 2 ≤ number_of r.outcome → s' ≡ s
  pub sheet : number_of r.outcome ≤ 1 → Restores (Whole r.parts) s s' 0 r.parts.length
  pub answer : Filled (sent_bytes r.sent (take r.length r.bytes)) n o o'
