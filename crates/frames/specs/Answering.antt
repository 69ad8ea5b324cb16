-- The frame in which a device answers a request, and what the answer's PDU is in it.
use Rattle.std.specs.Prelude.{ℕ, ◌≡◌, List, Ok}
use Rattle.pdu.specs.Read.{read_pdu, data_of}
use Rattle.pdu.specs.declared.Pdu.{Pdu}
use Rattle.sheet.specs.Layout.{◌of◌}
use Rattle.sheet.specs.Head as head
use Rattle.device.specs.Asked.{Asked}
use Rattle.cemi.specs.Read.{read_frame}
use Rattle.cemi.specs.Parts.{info_of, tpdu_of}
use Rattle.cemi.specs.Write.{frame_of}
use Rattle.cemi.specs.Answering.{answering}
use Rattle.cemi.specs.declared.Fields.{Fields}
use Rattle.cemi.specs.declared.Frame.{Frame}

-- THE FIELDS OF THE FRAME THAT ANSWERS the request x, which came in the frame f: from the address in the sheet as the request found it
abbrev pub answer_to : Frame → Asked → ℕ → Fields
answer_to f x sequence = answering f.fields (head.address of x.sheet) x.mode sequence

-- THE FRAME b BRINGS THE PDU p WITH THE DATA d: it reads as these fields with the additional information i, and from octet 6 on it is that PDU, whatever transport's bits are
pub record Brings (b : List ℕ) (g : Fields) (i a : List ℕ) (p : Pdu) (d : List ℕ) : Type 0 where
  pub reads : read_frame b ≡ Ok (frame_of g i a)
  pub info : info_of (frame_of g i a) b ≡ i
  pub pdu : read_pdu (tpdu_of (frame_of g i a) b) ≡ Ok p
  pub bytes : data_of p (tpdu_of (frame_of g i a) b) ≡ d
