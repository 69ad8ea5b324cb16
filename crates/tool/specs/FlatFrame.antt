-- A frame laid flat for C, and what reading and writing are in that form.
use Rattle.std.specs.Prelude.{ℕ, ◌+◌, ◌≡◌, List, length, Result, Ok, Err}
use Rattle.cemi.specs.Layout.{octet6}
use Rattle.cemi.specs.Read.{read_frame}
use Rattle.cemi.specs.Meaning.{meaning_of, meaning_number}
use Rattle.cemi.specs.Write.{write_of, write_outcome, write_count, buffer_of}
use Rattle.cemi.specs.declared.Fields.{Fields}
use Rattle.cemi.specs.declared.Frame.{Frame}
use Rattle.cemi.specs.Refusal.{read_number}
use Rattle.cemi.specs.declared.ReadRefusal.{ReadRefusal}
use Rattle.cemi.specs.declared.WriteRefusal.{WriteRefusal}
use Rattle.tool.specs.declared.FlatFrame.{FlatFrame}
use Rattle.tool.specs.declared.Framed.{Framed}

-- A FRAME THAT READS, with what it means by its number, and where its parts stand
abbrev pub laid_frame : Frame → FlatFrame
laid_frame f =
    record {
      source = f.fields.source;
      destination = f.fields.destination;
      outcome = 0;
      event = meaning_number (meaning_of f);
      code = f.fields.code;
      control1 = f.fields.control1;
      control2 = f.fields.control2;
      transport = f.fields.transport;
      info_offset = 2;
      info_length = f.info;
      tpdu_offset = octet6 f.info;
      tpdu_length = f.stated + 1;
    }

-- no event: the number of what is refused on reading, which no frame that reads has
abbrev pub no_event : ℕ
no_event = 255

-- a refusal: its outcome, no event, and all else 0
abbrev pub refused_frame : ℕ → FlatFrame
refused_frame n =
    record {
      source = 0;
      destination = 0;
      outcome = n;
      event = no_event;
      code = 0;
      control1 = 0;
      control2 = 0;
      transport = 0;
      info_offset = 0;
      info_length = 0;
      tpdu_offset = 0;
      tpdu_length = 0;
    }

-- WHAT READING GIVES
abbrev pub flat_got : Result Frame ReadRefusal → FlatFrame
flat_got (Ok f) = laid_frame f
flat_got (Err e) = refused_frame (read_number e)

unfoldable pub flat_frame : List ℕ → FlatFrame
flat_frame b = flat_got (read_frame b)

-- the fields of a flat frame
abbrev pub fields_of : FlatFrame → Fields
fields_of f =
    record {
      code = f.code;
      control1 = f.control1;
      control2 = f.control2;
      source = f.source;
      destination = f.destination;
      transport = f.transport;
    }

-- WHAT WRITING GIVES
abbrev pub framed : Result ℕ WriteRefusal → Framed
framed w = record { count = write_count w; outcome = write_outcome w }

abbrev pub frame_written : FlatFrame → List ℕ → List ℕ → List ℕ → Result ℕ WriteRefusal
frame_written f i a o = write_of (fields_of f) (length i) (length a) (length o)

pub record FrameWrote (f : FlatFrame) (i a o : List ℕ) (r : Framed) (e : List ℕ) : Type 0 where
  pub result : r ≡ framed (frame_written f i a o)
  pub buffer : e ≡ buffer_of (fields_of f) i a o (frame_written f i a o)
