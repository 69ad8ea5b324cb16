-- WHAT SERVING A FRAME GIVES: at most one frame that answers it.
use Rattle.std.specs.Prelude.{ℕ, ◌≡◌, cond, List, [], ◌∷◌, length, ltb, eqb}
use Rattle.octets.specs.Octets.{Octets}
use Rattle.octets.specs.Splice.{splice}
use Rattle.device.specs.Events.{named_outcome, connect_of, disconnect_of, request_of}
use Rattle.device.specs.Changed.{changed_of, none}
use Rattle.device.specs.declared.Sessions.{Sessions}
use Rattle.device.specs.declared.Changed.{Changed}
use Rattle.cemi.specs.Read.{fields_in, frame_in}
use Rattle.cemi.specs.Parts.{tpdu_of}
use Rattle.cemi.specs.Write.{encoded}
use Rattle.cemi.specs.Answering.{answering}
use Rattle.cemi.specs.declared.Fields.{Fields}
use Rattle.link.specs.Partners.{nobody}
use Rattle.link.specs.Hearing.{own_of, heard_of}
use Rattle.link.specs.declared.Link.{Link}
use Rattle.link.specs.declared.Served.{Served}
use Rattle.link.specs.declared.Arrived.{Arrived}
use Rattle.link.specs.declared.Arrived.TheVariants.{Request, Connect, Disconnect, Nothing}

-- the buffer of a request's answer; and the longest frame that answers, nine bytes and that
abbrev pub most : ℕ
most = 16

abbrev pub longest : ℕ
longest = 25

-- the bytes of a frame from octet 6 on
abbrev pub apdu_of : List ℕ → List ℕ
apdu_of b = tpdu_of (frame_in b) b

-- the frame with the fields g that brings an answer: no answer is no frame
abbrev pub answer_frame : Fields → List ℕ → List ℕ
answer_frame g [] = []
answer_frame g (x ∷ a) = encoded g [] (x ∷ a)

-- the link with other sessions, and after a connect by the address a, which alone sets an address
abbrev pub with_sessions : Link → Sessions → Link
with_sessions k q = record { sessions = q; first = k.first; second = k.second }

abbrev pub linked_to : Link → ℕ → ℕ → Link
linked_to k c a =
    record { sessions = connect_of k.sessions c; first = cond (eqb c 0) a k.first; second = cond (eqb c 1) a k.second }

-- what becomes of a frame: 0 if it is an event, with its outcome and connection, or else the number of why not; the frame that answers;
-- the parts of the sheet that were stored; link and sheet afterwards
pub record Deed : Type 0 where
  pub number : ℕ
  pub outcome : ℕ
  pub connection : ℕ
  pub answer : List ℕ
  pub changed : Changed
  pub link : Link
  pub sheet : List ℕ

-- nothing but the number of why, and whose frame it was; a connect by the address a; a disconnect
abbrev pub leaving : Link → List ℕ → ℕ → ℕ → Deed
leaving k s n c = record { number = n; outcome = 0; connection = c; answer = []; changed = none; link = k; sheet = s }

abbrev pub joining : Link → List ℕ → ℕ → ℕ → Deed
joining k s c a = record { number = 0; outcome = named_outcome c; connection = c; answer = []; changed = none; link = linked_to k c a; sheet = s }

abbrev pub parting : Link → List ℕ → ℕ → Deed
parting k s c =
    record { number = 0; outcome = named_outcome c; connection = c; answer = []; changed = none; link = with_sessions k (disconnect_of k.sessions c); sheet = s }

-- WHAT ARRIVED, DEALT WITH: it came with the fields f and, from octet 6 on, the bytes a
unfoldable pub deed_of : Link → Fields → ℕ → List ℕ → List ℕ → Arrived → Deed
deed_of k f sequence a s (Request mode c group) =
    let x = request_of most s k.sessions mode c group a in
    record {
      number = 0;
      outcome = x.outcome;
      connection = c;
      answer = answer_frame (answering f (own_of s) mode sequence) x.answer;
      changed = changed_of most s k.sessions mode c group a;
      link = with_sessions k x.sessions;
      sheet = x.sheet;
    }
deed_of k f sequence a s (Connect c) = joining k s c f.source
deed_of k f sequence a s (Disconnect c) = parting k s c
deed_of k f sequence a s (Nothing n c) = leaving k s n c

-- what arrived is no request
abbrev pub NoRequest : Arrived → Type 0
NoRequest (Request mode c group) = ⊥
NoRequest (Connect c) = Unit {0}
NoRequest (Disconnect c) = Unit {0}
NoRequest (Nothing n c) = Unit {0}

-- A FRAME b SERVED, the buffer having so much room: 64 for want of it, before all else
unfoldable pub serve_of : Link → ℕ → List ℕ → List ℕ → ℕ → Deed
serve_of k sequence b s room =
    cond (ltb room longest) (leaving k s 64 nobody)
    (deed_of k (fields_in b) sequence (apdu_of b) s (heard_of k (own_of s) b))

-- a deed as a call gives it: its result, sheet and buffer afterwards, the buffer having been o
abbrev pub result_of : Deed → Served
result_of x =
    record { number = x.number; outcome = x.outcome; connection = x.connection; count = length x.answer; changed = x.changed; link = x.link }

pub record DidServe (x : Deed) (r : Served) (o s' o' : List ℕ) : Type 0 where
  pub result : r ≡ result_of x
  pub sheet : s' ≡ x.sheet
  pub buffer : o' ≡ splice o 0 x.answer

-- r bytes of the frame with the fields g and an answer a stand in front of the buffer, whose rest is as found
pub record Sent (g : Fields) (a o : List ℕ) (r : ℕ) (o' : List ℕ) : Type 0 where
  pub count : r ≡ length (answer_frame g a)
  pub buffer : o' ≡ splice o 0 (answer_frame g a)

-- WHAT A CALL DID with a frame b, sheet s and buffer o; frame and sheet being bytes
pub record ServedFrame (k : Link) (sequence : ℕ) (b s o : List ℕ) (r : Served) (s' o' : List ℕ) : Type 0 where
  pub did : DidServe (serve_of k sequence b s (length o)) r o s' o'
  pub frame_bytes : Octets b
  pub sheet_bytes : Octets s
