-- What writing a PDU gives.
use Rattle.std.specs.Prelude.{ℕ, ◌+◌, ◌≡◌, List, ◌++◌, Bool, cond, ◌&&◌, length, leb, ltb, Result, Ok, Err}
use Rattle.octets.specs.Splice.{splice}
use Rattle.pdu.specs.Table.{row_of}
use Rattle.pdu.specs.Pdus.{service_of, values_of}
use Rattle.pdu.specs.Rules.{fits, head_bytes}
use Rattle.pdu.specs.Read.{data_at}
use Rattle.pdu.specs.declared.Pdu.{Pdu}
use Rattle.pdu.specs.declared.WriteRefusal.{WriteRefusal}
use Rattle.pdu.specs.declared.WriteRefusal.TheVariants as unwritten

-- a refusal by its number
abbrev pub write_number : WriteRefusal → ℕ
write_number unwritten.Room = 3
write_number unwritten.Fields = 13

-- THE BYTES OF A PDU with its data
unfoldable pub encoded : Pdu → List ℕ → List ℕ
encoded p d = head_bytes (row_of (service_of p)) (values_of p) ++ d

-- its row lets it stand in n bytes
abbrev pub fits_in : Pdu → ℕ → Bool
fits_in p n = fits (row_of (service_of p)) (values_of p) n

-- at most 16 bytes in all, and its row lets them stand
unfoldable pub writable : Pdu → List ℕ → Bool
writable p d = leb (data_at p + length d) 16 && fits_in p (data_at p + length d)

-- WHAT WRITING GIVES: the refusal of the room, then of the fields, or the count of bytes
unfoldable pub write_of : Pdu → List ℕ → List ℕ → Result ℕ WriteRefusal
write_of p d o = cond (ltb (length o) 16) (Err unwritten.Room) (cond (writable p d) (Ok (data_at p + length d)) (Err unwritten.Fields))

-- the outcome of a writing by its number, and its count
abbrev pub write_outcome : Result ℕ WriteRefusal → ℕ
write_outcome (Ok n) = 0
write_outcome (Err e) = write_number e

abbrev pub write_count : Result ℕ WriteRefusal → ℕ
write_count (Ok n) = n
write_count (Err e) = 0

-- what the buffer o then holds: the bytes in front, and the rest as found; on a refusal, all as found
abbrev pub buffer_of : Pdu → List ℕ → List ℕ → Result ℕ WriteRefusal → List ℕ
buffer_of p d o (Ok n) = splice o 0 (encoded p d)
buffer_of p d o (Err e) = o

pub record Wrote (p : Pdu) (d o : List ℕ) (r : Result ℕ WriteRefusal) (e : List ℕ) : Type 0 where
  pub result : r ≡ write_of p d o
  pub buffer : e ≡ buffer_of p d o r
