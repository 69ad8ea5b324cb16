-- What reading a frame gives.
use Rattle.std.specs.Prelude.{ℕ, ◌+◌, ◌/◌, ◌%◌, cond, ◌||◌, List, length, ltb, eqb, Result, Ok, Err}
use Rattle.octets.specs.Bytes.{num_at}
use Rattle.cemi.specs.Layout.{request, indication, info_length, control1, control2, source, destination, stated, octet6, ◌of◌}
use Rattle.cemi.specs.declared.Fields.{Fields}
use Rattle.cemi.specs.declared.Frame.{Frame}
use Rattle.cemi.specs.declared.ReadRefusal.{ReadRefusal}
use Rattle.cemi.specs.declared.ReadRefusal.TheVariants.{Short, Code, Extended, Length}
use Rattle.cemi.specs.Refusal.{told}

-- the fields in the bytes of a frame; transport's are the top six bits of octet 6
abbrev pub fields_in : List ℕ → Fields
fields_in b =
    record {
      code = num_at b 0 1;
      control1 = control1 of b;
      control2 = control2 of b;
      source = source of b;
      destination = destination of b;
      transport = num_at b (octet6 (info_length b)) 1 / 4;
    }

-- and with them the two low bits of octet 6, the length of the additional information, and the length byte
abbrev pub frame_in : List ℕ → Frame
frame_in b =
    record {
      fields = fields_in b;
      low = num_at b (octet6 (info_length b)) 1 % 4;
      info = info_length b;
      stated = stated of b;
    }

-- no standard frame, 42: bit 7 of control 1 clear, or one of the low four bits of control 2 set.
-- 43: a length byte x above 15, or not one less than the bytes from octet 6 on. The frame has n bytes, l of them additional information.
unfoldable pub standard_of : ℕ → ℕ → Fields → ℕ → Result (Unit {0}) ReadRefusal
standard_of n l f x =
    cond (ltb f.control1 128) (Err Extended)
    (cond (eqb (f.control2 % 16) 0) (cond (ltb 15 x) (Err Length) (cond (eqb (octet6 l + (x + 1)) n) (Ok tt) (Err Length))) (Err Extended))

-- THE REFUSAL, where there is one: 40 too short, 41 another message code, then 42 and 43
unfoldable pub refusal_of : ℕ → ℕ → Fields → ℕ → Result (Unit {0}) ReadRefusal
refusal_of n l f x =
    cond (ltb n 2) (Err Short)
    (cond (ltb n (10 + l)) (Err Short) (cond (eqb f.code request || eqb f.code indication) (standard_of n l f x) (Err Code)))

-- WHAT READING GIVES
abbrev pub got_by : Result (Unit {0}) ReadRefusal → Frame → Result Frame ReadRefusal
got_by (Ok u) f = Ok f
got_by (Err e) f = Err e

unfoldable pub read_frame : List ℕ → Result Frame ReadRefusal
read_frame b = got_by (refusal_of (length b) (info_length b) (fields_in b) (stated of b)) (frame_in b)

-- the outcome of a reading by its number
abbrev pub read_outcome : Result Frame ReadRefusal → ℕ
read_outcome r = told r
