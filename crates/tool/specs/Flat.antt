-- A PDU laid flat for C, and what reading and writing are in that form.
use Rattle.std.specs.Prelude.{ℕ, suc, ◌-◌, ◌≡◌, cond, List, [], ◌∷◌, length, eqb, ltb}
use Rattle.std.specs.Prelude.{Option, Some, None, Result, Ok, Err}
use Rattle.pdu.specs.declared.ReadRefusal.{ReadRefusal}
use Rattle.pdu.specs.declared.WriteRefusal.{WriteRefusal}
use Rattle.pdu.specs.declared.WriteRefusal.TheVariants as unwritten
use Rattle.std.proofs.Math.Option.{Option as Maybe, none, some}
use Rattle.std.proofs.Math.ListN.{get_elem?}
use Rattle.pdu.specs.Item.{Value, ◌≔◌, the, V6, Address, Serial, Domain, T, Object, Id, N, S, Index, Typ, Maximum, Access, Level, Key}
use Rattle.pdu.specs.Table.{row_of, services}
use Rattle.pdu.specs.Pdus.{service_of, values_of, pdu_of}
use Rattle.pdu.specs.Read.{read_number, read_pdu, data_at}
use Rattle.pdu.specs.Write.{write_of, write_outcome, write_count, buffer_of}
use Rattle.pdu.specs.declared.Service.{Service}
use Rattle.pdu.specs.declared.Pdu.{Pdu}
use Rattle.tool.specs.declared.FlatPdu.{FlatPdu}
use Rattle.tool.specs.declared.FlatWritten.{FlatWritten}

-- THE KIND OF A SERVICE: its place in the table, where its first code tells it from the others
unfoldable pub place_in : List Service → Service → ℕ
place_in [] k = 0
place_in (j ∷ js) k = cond (eqb (row_of j).base (row_of k).base) 0 (suc (place_in js k))

unfoldable pub kind_of : Service → ℕ
kind_of k = place_in services k

-- a kind and its fields by their names, of which those that are missing are 0, with the data n bytes from a place on
abbrev pub laid : ℕ → List Value → ℕ → ℕ → FlatPdu
laid k x at n =
    record {
      serial = the x Serial;
      key = the x Key;
      address = the x Address;
      domain = the x Domain;
      s = the x S;
      maximum = the x Maximum;
      outcome = 0;
      kind = k;
      v = the x V6;
      t = the x T;
      object = the x Object;
      id = the x Id;
      n = the x N;
      index = the x Index;
      typ = the x Typ;
      access = the x Access;
      level = the x Level;
      data_offset = at;
      data_length = n;
    }

-- A PDU LAID FLAT, as it stands in the bytes b
abbrev pub flat_of : Pdu → List ℕ → FlatPdu
flat_of p b = laid (kind_of (service_of p)) (values_of p) (data_at p) (length b - data_at p)

-- no PDU: a kind that no service has
abbrev pub no_kind : ℕ
no_kind = 255

-- a refusal: its outcome, no kind, and all else 0
abbrev pub refusal : ℕ → FlatPdu
refusal n =
    record {
      serial = 0;
      key = 0;
      address = 0;
      domain = 0;
      s = 0;
      maximum = 0;
      outcome = n;
      kind = no_kind;
      v = 0;
      t = 0;
      object = 0;
      id = 0;
      n = 0;
      index = 0;
      typ = 0;
      access = 0;
      level = 0;
      data_offset = 0;
      data_length = 0;
    }

-- WHAT READING GIVES
abbrev pub flat_by : List ℕ → Result Pdu ReadRefusal → FlatPdu
flat_by b (Ok p) = flat_of p b
flat_by b (Err e) = refusal (read_number e)

unfoldable pub flat_read : List ℕ → FlatPdu
flat_read b = flat_by b (read_pdu b)

-- the fields of a flat PDU by their names
abbrev pub fields_in : FlatPdu → List Value
fields_in f =
    V6 ≔ f.v ∷
    Address ≔ f.address ∷
    Serial ≔ f.serial ∷
    Domain ≔ f.domain ∷
    T ≔ f.t ∷
    Object ≔ f.object ∷
    Id ≔ f.id ∷
    N ≔ f.n ∷
    S ≔ f.s ∷
    Index ≔ f.index ∷
    Typ ≔ f.typ ∷
    Maximum ≔ f.maximum ∷
    Access ≔ f.access ∷
    Level ≔ f.level ∷
    Key ≔ f.key ∷
    []

-- THE PDU THAT A FLAT ONE MEANS: of the service at the place of its kind, with its fields
abbrev pub meant_as : Maybe Service → FlatPdu → Option Pdu
meant_as none f = None
meant_as (some k) f = Some (pdu_of k (fields_in f))

unfoldable pub meant_by : FlatPdu → Option Pdu
meant_by f = meant_as (get_elem? services f.kind) f

-- WHAT WRITING GIVES: of an unknown kind the refusal of the room, then of the fields
abbrev pub unknown_kind : ℕ → Result ℕ WriteRefusal
unknown_kind room = cond (ltb room 16) (Err unwritten.Room) (Err unwritten.Fields)

abbrev pub meant_write : Option Pdu → List ℕ → List ℕ → Result ℕ WriteRefusal
meant_write (Some p) d o = write_of p d o
meant_write None d o = unknown_kind (length o)

abbrev pub meant_buffer : Option Pdu → List ℕ → List ℕ → List ℕ
meant_buffer (Some p) d o = buffer_of p d o (write_of p d o)
meant_buffer None d o = o

abbrev pub flat_written : Result ℕ WriteRefusal → FlatWritten
flat_written w = record { outcome = write_outcome w; count = write_count w }

pub record FlatWrote (m : Option Pdu) (d o : List ℕ) (r : FlatWritten) (e : List ℕ) : Type 0 where
  pub result : r ≡ flat_written (meant_write m d o)
  pub buffer : e ≡ meant_buffer m d o

-- THE VERSION: 65536 times its first number, 256 times its second, its third; so this is 1.0.0
abbrev pub version_of : ℕ
version_of = 65536
