-- A datapoint laid flat.
use Rattle.std.specs.Prelude.{ℕ, ◌≡◌, cond, List, length, eqb, ℤ, pos, Result, Ok, Err}
use Rattle.octets.specs.Bytes.{num_at}
use Rattle.points.specs.Point.{width_at, point_at, read_point, write_outcome, point_bytes}
use Rattle.points.specs.declared.Datapoint.TheVariants.{Switch, Byte, Hundredths, Float as Single}
use Rattle.points.specs.declared.Datapoint.{Datapoint}
use Rattle.points.specs.declared.Refusal.{Refusal}
use Rattle.points.specs.Refusal.{number_of}
use Rattle.tool.specs.declared.FlatPoint.{FlatPoint}

abbrev pub flat_point : ℕ → ℕ → ℤ → ℕ → ℕ → FlatPoint
flat_point t v z b n = record { hundredths = z; bits = b; kind = t; value = v; outcome = n }

-- WHAT READING GIVES: the type and the value in its field, of a float the bits as they stood; on a refusal its number alone
abbrev pub point_laid : List ℕ → Result Datapoint Refusal → FlatPoint
point_laid s (Ok (Switch on)) = flat_point 1 (cond on 1 0) (pos 0) 0 0
point_laid s (Ok (Byte n)) = flat_point 5 n (pos 0) 0 0
point_laid s (Ok (Hundredths z)) = flat_point 9 0 z 0 0
point_laid s (Ok (Single x)) = flat_point 14 0 (pos 0) (num_at s 0 4) 0
point_laid s (Err e) = flat_point 0 0 (pos 0) 0 (number_of e)

unfoldable pub flat_point_read : ℕ → List ℕ → FlatPoint
flat_point_read t s = point_laid s (read_point t s)

-- THE DATAPOINT THAT A FLAT ONE MEANS, or why it means none
unfoldable pub point_meant : FlatPoint → Result Datapoint Refusal
point_meant f = cond (eqb f.kind 9) (Ok (Hundredths f.hundredths)) (cond (eqb f.kind 14) (point_at 14 f.bits) (point_at f.kind f.value))

-- WHAT WRITING GIVES: 25, then 20, then what the datapoint gives
abbrev pub meant_outcome : Result Datapoint Refusal → List ℕ → ℕ
meant_outcome (Ok d) o = write_outcome d o
meant_outcome (Err e) o = number_of e

abbrev pub meant_part : Result Datapoint Refusal → List ℕ → List ℕ
meant_part (Ok d) o = point_bytes d
meant_part (Err e) o = o

abbrev pub flat_point_outcome : FlatPoint → List ℕ → ℕ
flat_point_outcome f o = cond (eqb (width_at f.kind) 0) 25 (cond (eqb (length o) (width_at f.kind)) (meant_outcome (point_meant f) o) 20)

-- the part then: the bytes, or on a refusal as found
pub record FlatPut (f : FlatPoint) (o : List ℕ) (r : ℕ) (e : List ℕ) : Type 0 where
  pub result : r ≡ flat_point_outcome f o
  pub part : e ≡ cond (eqb r 0) (meant_part (point_meant f) o) o
