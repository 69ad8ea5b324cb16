-- The datapoint types: their numbers and widths, what reading gives and what writing leaves.
use Rattle.std.specs.Prelude.{ℕ, ◌/◌, ◌%◌, ◌<◌, ◌≡◌, Bool, true, false, cond, List, length, T, eqb, ltb, Float, Option, Some, None, Result, Ok, Err, IfOk}
use Rattle.std.specs.Float.{nan, inf, fin, binary32}
use Rattle.std.specs.Float.Ieee.{to_bits, of_bits, fits}
use Rattle.octets.specs.Bytes.{num_at, bytes_of}
use Rattle.points.specs.Nine.{res, in_range, Valid}
use Rattle.points.specs.Code.{code_of}
use Rattle.points.specs.declared.Datapoint.{Datapoint}
use Rattle.points.specs.declared.Datapoint.TheVariants.{Switch, Byte, Hundredths, Float as Single}
use Rattle.points.specs.declared.Refusal.{Refusal}
use Rattle.points.specs.declared.Refusal.TheVariants as why
use Rattle.points.specs.Refusal.{told}

-- THE TYPES: 1 a switch, 5 a byte, 9 hundredths, 14 a float
abbrev pub type_of : Datapoint → ℕ
type_of (Switch b) = 1
type_of (Byte n) = 5
type_of (Hundredths z) = 9
type_of (Single x) = 14

-- the bytes of a type's values; 0 where there is no such type
abbrev pub width_at : ℕ → ℕ
width_at t = cond (eqb t 1) 1 (cond (eqb t 5) 1 (cond (eqb t 9) 2 (cond (eqb t 14) 4 0)))

-- the same with no number where there is no such type
abbrev pub width_given : ℕ → Option ℕ
width_given t = cond (eqb (width_at t) 0) None (Some (width_at t))

-- no infinity and no NaN: of a float, and of its bits, where the eight of the exponent are not all set
abbrev pub finite : Float → Bool
finite nan = false
finite (inf s) = false
finite (fin s m e) = true

abbrev pub finite_bits : ℕ → Bool
finite_bits n = ltb (n / 8388608 % 256) 255

-- WHAT THE NUMBER n IN THE BYTES MEANS
abbrev pub point_at : ℕ → ℕ → Result Datapoint Refusal
point_at t n =
    cond (eqb t 1) (cond (ltb n 2) (Ok (Switch (eqb n 1))) (Err why.Bits))
    (cond (eqb t 5) (Ok (Byte n))
    (cond (eqb t 9) (cond (eqb n 32767) (Err why.Invalid) (Ok (Hundredths (res n))))
    (cond (finite_bits n) (Ok (Single (of_bits binary32 n))) (Err why.Infinite))))

-- a number that stands in so many bytes as the type has
pub record Narrow (t n : ℕ) : Type 0 where
  pub byte : t ≡ 5 → n < 256
  pub word : t ≡ 9 → n < 65536

-- WHAT READING GIVES: no such type, then another length, then by the type
unfoldable pub read_point : ℕ → List ℕ → Result Datapoint Refusal
read_point t b = cond (eqb (width_at t) 0) (Err why.Kind) (cond (eqb (length b) (width_at t)) (point_at t (num_at b 0 (width_at t))) (Err why.Length))

-- a reading by its number
abbrev pub read_outcome : Result Datapoint Refusal → ℕ
read_outcome r = told r

-- why a datapoint can't be written; 0 where it can
abbrev pub refusal_of : Datapoint → ℕ
refusal_of (Switch b) = 0
refusal_of (Byte n) = 0
refusal_of (Hundredths z) = cond (in_range z) 0 23
refusal_of (Single x) = cond (finite x) 0 24

-- the number that stands for it
abbrev pub number_of : Datapoint → ℕ
number_of (Switch b) = cond b 1 0
number_of (Byte n) = n
number_of (Hundredths z) = code_of z
number_of (Single x) = to_bits binary32 x

-- ITS BYTES
unfoldable pub point_bytes : Datapoint → List ℕ
point_bytes d = bytes_of (width_at (type_of d)) (number_of d)

-- WHAT WRITING GIVES: 20 where the part isn't exactly as long as the value, then the datapoint's own refusal
abbrev pub write_outcome : Datapoint → List ℕ → ℕ
write_outcome d o = cond (eqb (length o) (width_at (type_of d))) (refusal_of d) 20

-- what the part o then holds: the value's bytes; on a refusal it is as found
pub record Put (d : Datapoint) (o : List ℕ) (r : ℕ) (e : List ℕ) : Type 0 where
  pub result : r ≡ write_outcome d o
  pub part : e ≡ cond (eqb r 0) (point_bytes d) o

-- a number of a datapoint, or why there is none
pub record Numbered (d : Datapoint) (r : Result ℕ Refusal) : Type 0 where
  pub refused : told r ≡ refusal_of d
  pub is : IfOk r (λ n. n ≡ number_of d)

-- for the theorems: each number fits its type, as every value of the code does
abbrev pub Typed : Datapoint → Type 0
Typed (Switch b) = Unit {0}
Typed (Byte n) = n < 256
Typed (Hundredths z) = Unit {0}
Typed (Single x) = T (fits binary32 x)

-- hundredths that a valid code has
abbrev pub Exact : Datapoint → Type 0
Exact (Switch b) = Unit {0}
Exact (Byte n) = Unit {0}
Exact (Hundredths z) = (c : ℕ) × (Valid c × (res c ≡ z))
Exact (Single x) = Unit {0}

-- THE DATAPOINT THAT THE BYTES OF d SAY: hundredths are those of the code that is chosen, all others are d
abbrev pub as_written : Datapoint → Datapoint
as_written (Switch b) = Switch b
as_written (Byte n) = Byte n
as_written (Hundredths z) = Hundredths (res (code_of z))
as_written (Single x) = Single x
