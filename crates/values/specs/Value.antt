-- A datapoint in a GroupValue_Write: which form each type takes, and what such a PDU says.
use Rattle.std.specs.Prelude.{ℕ, Bool, cond, List, [], length, eqb, Result, Err}
use Rattle.pdu.specs.declared.Pdu.{Pdu}
use Rattle.pdu.specs.declared.Pdu.TheVariants.{GroupValueWrite}
use Rattle.points.specs.Point.{type_of, point_at, read_point, number_of, point_bytes}
use Rattle.points.specs.declared.Datapoint.{Datapoint}
use Rattle.points.specs.declared.Refusal.{Refusal}
use Rattle.points.specs.declared.Refusal.TheVariants.{Length}

-- WHICH FORM A TYPE TAKES: type 1 stands in the six bits of the code, the others in data bytes
abbrev pub short : ℕ → Bool
short t = eqb t 1

-- the six bits and the data of a datapoint
unfoldable pub six_bits : Datapoint → ℕ
six_bits d = cond (short (type_of d)) (number_of d) 0

unfoldable pub value_data : Datapoint → List ℕ
value_data d = cond (short (type_of d)) [] (point_bytes d)

-- THE PDU
abbrev pub value_pdu : Datapoint → Pdu
value_pdu d = GroupValueWrite (six_bits d)

-- WHAT SIX BITS v AND DATA s SAY in a type: refused for the length where the form is not the type's
unfoldable pub read_value : ℕ → ℕ → List ℕ → Result Datapoint Refusal
read_value t v s = cond (short t) (cond (eqb (length s) 0) (point_at 1 v) (Err Length)) (read_point t s)
