-- A SAVE AS PIECES OF WORK, by their number.
use Rattle.std.specs.Prelude.{ℕ, ◌+◌, ◌≡◌, List, cond, ltb, eqb, length}
use Rattle.octets.specs.Splice.{splice}
use Rattle.slots.specs.Slot.{longest, head_at, sheet_at, mark_unit, blank_unit, head_of}
use Rattle.slots.specs.declared.Work.{Work}
use Rattle.slots.specs.declared.saving.Kind.{Kind}
use Rattle.slots.specs.declared.saving.Kind.TheVariants.{Write, Erase, Sheet}

-- a kind of work by number
abbrev pub kind_number : Kind → ℕ
kind_number Write = 1
kind_number Erase = 2
kind_number Sheet = 3

-- no work left; the bytes of the buffer; an erase; the sheet; refused
abbrev pub done : Work
done = record { refusal = 0; work = 0; at = 0; count = 0 }

abbrev pub writes : ℕ → Work
writes at = record { refusal = 0; work = 1; at = at; count = 32 }

abbrev pub erases : ℕ → Work
erases room = record { refusal = 0; work = 2; at = 0; count = room }

abbrev pub copies : ℕ → Work
copies long = record { refusal = 0; work = 3; at = sheet_at; count = long }

abbrev pub refused : ℕ → Work
refused r = record { refusal = r; work = 0; at = 0; count = 0 }

-- PIECE k: the mark is taken away, the slot erased, head and sheet written, the mark set
unfoldable pub piece_of : ℕ → ℕ → ℕ → Work
piece_of k room long =
    cond (eqb k 0) (writes 0)
    (cond (eqb k 1) (erases room)
    (cond (eqb k 2) (writes head_at) (cond (eqb k 3) (copies long) (cond (eqb k 4) (writes 0) done))))

-- refused where the buffer has no 32 bytes, or the sheet has no room
unfoldable pub work_of : ℕ → ℕ → ℕ → ℕ → Work
work_of k buffer room long =
    cond (ltb buffer 32) (refused 85)
    (cond (ltb longest long) (refused 86) (cond (ltb room (sheet_at + long)) (refused 86) (piece_of k room long)))

-- the bytes that a piece writes
unfoldable pub unit_of : ℕ → ℕ → List ℕ → List ℕ
unit_of k n t = cond (eqb k 0) blank_unit (cond (eqb k 2) (head_of n t) mark_unit)

-- WHAT A CALL GAVE for piece k of saving t under number n: the work, and the buffer with the bytes to write
pub record WorksAs (k n : ℕ) (t : List ℕ) (room : ℕ) (o : List ℕ) (r : Work) (o' : List ℕ) : Type 0 where
  pub work : r ≡ work_of k (length o) room (length t)
  pub bytes : o' ≡ cond (eqb (work_of k (length o) room (length t)).work 1) (splice o 0 (unit_of k n t)) o
