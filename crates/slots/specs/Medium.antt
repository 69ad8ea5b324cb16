-- THE MEDIUM AND A CUT OF THE POWER.
-- Assumes of a medium one thing that a host can't bring about: `NoneRevived`.
use Rattle.std.specs.Prelude.{ℕ, ◌+◌, ◌≤◌, ◌<◌, ◌≡◌, List, [], ◌∷◌, Bool, true, false, cond, ◌⊎◌, eqb, length, take, drop, get_or}
use Rattle.octets.specs.Splice.{splice}
use Rattle.slots.specs.Slot.{head_at, sheet_at, marked, mark_unit, head_of, slot_of, newer_of, target_of}
use Rattle.slots.specs.declared.Slot.{Slot}
use Rattle.slots.specs.declared.Target.{Target}

-- WHAT A SLOT HOLDS: nothing, or a sheet under a number
pub data Held : Type 0 where
  nothing : Held
  sheet : ℕ → List ℕ → Held

abbrev pub held_by : Slot → List ℕ → Held
held_by r b = cond (eqb r.refusal 0) (sheet r.number (take r.length (drop r.offset b))) nothing

unfoldable pub held : List ℕ → Held
held b = held_by (slot_of b) b

-- A PIECE OF WORK on a slot: what stands there is not needed any more; or a run of bytes is written
pub data Piece : Type 0 where
  clear : Piece
  put : ℕ → List ℕ → Piece

-- THE PIECES OF A SAVE: unmarked, erased, head, sheet, marked
abbrev pub pieces : ℕ → List ℕ → List Piece
pieces n t = clear ∷ clear ∷ put head_at (head_of n t) ∷ put sheet_at t ∷ put 0 mark_unit ∷ []

-- A PIECE THAT WAS DONE. Of a slot that was unmarked or erased nothing is said but that its mark is gone: where a medium needs no erase none is made
pub data Done : Piece → List ℕ → List ℕ → Type 0 where
  cleared : {b b' : List ℕ} → length b' ≡ length b → marked b' ≡ false → Done clear b b'
  written : {at : ℕ} {ds b b' : List ℕ} → at + length ds ≤ length b → b' ≡ splice b at ds → Done (put at ds) b b'

-- THE ONE ASSUMPTION: what unmarks or erases a slot may, when it is cut, leave anything at all, but no sheet that was not there. Without it a sheet comes back that was given up (`example_revived`);
-- where each byte is old or new after a cut it is no assumption (`halt_cuts`)
abbrev pub NoneRevived : List ℕ → List ℕ → Type 0
NoneRevived b b' = (held b' ≡ nothing) ⊎ (held b' ≡ held b)

-- A PIECE THAT WAS CUT. A write leaves the bytes outside its run as they were, and inside whatever it likes
pub data Torn : Piece → List ℕ → List ℕ → Type 0 where
  clearing : {b b' : List ℕ} → length b' ≡ length b → NoneRevived b b' → Torn clear b b'
  writing :
      {at : ℕ} {ds b b' : List ℕ} → length b' ≡ length b → ((i : ℕ) → (i < at) ⊎ (at + length ds ≤ i) → get_or b' i 0 ≡ get_or b i 0) →
      Torn (put at ds) b b'

-- all pieces done, one after the other
pub data Did : List Piece → List ℕ → List ℕ → Type 0 where
  end : {b : List ℕ} → Did [] b b
  next : {p : Piece} {ps : List Piece} {b x b' : List ℕ} → Done p b x → Did ps x b' → Did (p ∷ ps) b b'

-- THE POWER LOST, and whether the mark was set: before a piece; within one that is not the last; within the last, the mark's own, where the mark itself tells; after it
pub data Cut : Bool → List Piece → List ℕ → List ℕ → Type 0 where
  before : {p : Piece} {ps : List Piece} {b : List ℕ} → Cut false (p ∷ ps) b b
  within : {p q : Piece} {ps : List Piece} {b b' : List ℕ} → Torn p b b' → Cut false (p ∷ q ∷ ps) b b'
  last : {p : Piece} {b b' : List ℕ} → Torn p b b' → Cut (marked b') (p ∷ []) b b'
  over : {b : List ℕ} → Cut true [] b b
  later : {set : Bool} {p : Piece} {ps : List Piece} {b x b' : List ℕ} → Done p b x → Cut set ps x b' → Cut set (p ∷ ps) b b'

-- THE MEDIUM: two slots
pub record Medium : Type 0 where
  pub first : List ℕ
  pub second : List ℕ

-- WHAT A UNIT STARTS WITH
abbrev pub chosen : ℕ → Medium → Held
chosen at m = cond (eqb at 0) (held m.first) (cond (eqb at 1) (held m.second) nothing)

unfoldable pub choice : Medium → Held
choice m = chosen (newer_of (slot_of m.first) (slot_of m.second)) m

-- where a save goes
unfoldable pub goal : Medium → Target
goal m = target_of (slot_of m.first) (slot_of m.second)

-- WORK ON THE ONE SLOT OF A MEDIUM THAT A SAVE OF t MAY TOUCH
pub data Into (R : List Piece → List ℕ → List ℕ → Type 0) (t : List ℕ) (m : Medium) : Medium → Type 0 where
  one : {b : List ℕ} → (goal m).slot ≡ 0 → R (pieces (goal m).number t) m.first b → Into R t m record { first = b; second = m.second }
  two : {b : List ℕ} → (goal m).slot ≡ 1 → R (pieces (goal m).number t) m.second b → Into R t m record { first = m.first; second = b }

-- A SAVE, AND A SAVE DURING WHICH THE POWER WAS LOST, the mark being set or not
abbrev pub Saved : List ℕ → Medium → Medium → Type 0
Saved = Into Did

abbrev pub Broken : Bool → List ℕ → Medium → Medium → Type 0
Broken set = Into (Cut set)
