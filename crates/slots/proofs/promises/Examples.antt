-- A SLOT WORKED BY HAND: the sheet 1, 2, 3 under number 7, its check sum by another program (zlib); what each wrong byte gives. Assumes nothing.
use Rattle.octets.proofs.Kit.{ℕ, ◌≡◌, refl, List, [], ◌∷◌, ◌++◌, arith, take, set, replicate}
use Rattle.octets.specs.{Bytes.{num_at, bytes_of}, Splice.splice}
use Rattle.slots.specs.{Crc.{crc_of, crc_from, byte_step, bits, bit_step}, Slot.{marked, mark_unit, blank_unit, tail_of, head_of, bad, slot_of, next_of, newer_of, target_of}, declared.Slot.Slot}
use Rattle.slots.specs.{Medium.{held, sheet, choice}, Parts.{begin_of, more_of, end_of}, Saving.{work_of, piece_of}, Lives.{Ready, one, none}}

abbrev example : List ℕ
example =
    75 ∷ 69 ∷ 76 ∷ 73 ∷ 78 ∷ 68 ∷ (replicate 26 255 ++ (159 ∷ 227 ∷ 175 ∷ 196 ∷ 0 ∷ 0 ∷ 0 ∷ 7 ∷ 0 ∷ 0 ∷ 0 ∷ 3 ∷ (replicate 20 0 ++ (1 ∷ 2 ∷ 3 ∷ []))))

pub example_held : held example ≡ sheet 7 (1 ∷ 2 ∷ 3 ∷ [])
unfolding held slot_of marked num_at crc_of crc_from byte_step bits bit_step
example_held = refl

-- one byte of mark, check sum, number, length or sheet another, and one byte less: 80, 81, 82, 84
pub example_wrong :
    ((slot_of (take 63 example)).refusal ≡ 80)
    × ((slot_of (set example 5 69)).refusal ≡ 81)
    × ((slot_of (set example 42 1)).refusal ≡ 82)
    × ((slot_of (set example 32 158)).refusal ≡ 84)
    × ((slot_of (set example 39 8)).refusal ≡ 84)
    × ((slot_of (set example 66 2)).refusal ≡ 84)
unfolding slot_of marked num_at crc_of crc_from byte_step bits bit_step
example_wrong = (refl, refl, refl, refl, refl, refl)

-- what no whole slot shows: 83, not all of the sheet handed over; 85 before 86; 86 on one side of each limit, and none on the other
pub refusals_worked :
    ((end_of (more_of (begin_of example 67) (1 ∷ 2 ∷ []))).refusal ≡ 83)
    × ((work_of 1 31 66 3).refusal ≡ 85)
    × ((work_of 1 32 66 3).refusal ≡ 86)
    × ((work_of 1 32 67 3).refusal ≡ 0)
    × ((work_of 1 32 40000 32769).refusal ≡ 86)
    × ((work_of 1 32 32832 32768).refusal ≡ 0)
unfolding end_of more_of begin_of marked num_at crc_from byte_step bits bit_step work_of piece_of
refusals_worked = (refl, refl, refl, refl, refl, refl)

-- WHERE A SAVE GOES, worked: from a slot that holds a sheet to the other, under the next number
abbrev full : ℕ → Slot
full n = record { refusal = 0; number = n; offset = 64; length = 3 }

pub second_worked : (target_of (full 7) (bad 81) ≡ record { slot = 1; number = 8 }) × (target_of (full 8) (full 7) ≡ record { slot = 1; number = 9 })
unfolding target_of newer_of next_of
second_worked = (refl, refl)

pub first_worked :
    (target_of (bad 81) (full 7) ≡ record { slot = 0; number = 8 })
    × (target_of (full 7) (full 8) ≡ record { slot = 0; number = 9 })
    × (target_of (full 4294967294) (full 4294967295) ≡ record { slot = 0; number = 0 })
unfolding target_of newer_of next_of
first_worked = (refl, refl, refl)

-- and it is what the pieces of a save write
pub example_written : splice (splice (splice (replicate 67 255) 32 (head_of 7 (1 ∷ 2 ∷ 3 ∷ []))) 64 (1 ∷ 2 ∷ 3 ∷ [])) 0 mark_unit ≡ example
unfolding splice head_of tail_of bytes_of crc_of crc_from byte_step bits bit_step
example_written = refl

-- a medium with it is ready
pub example_ready : Ready (1 ∷ 2 ∷ 3 ∷ []) record { first = example; second = replicate 67 255 }
unfolding held slot_of marked num_at
example_ready = one 7 (omega arith) example_held none

-- THE ONE ASSUMPTION IS NEEDED. Beside the example stands 9, 9, 9 under number 8, whose save was cut right before its mark, so that a unit starts with 1, 2, 3. If the next save's unmark, torn, left
-- the mark there, a unit would start with 9, 9, 9: neither the old sheet nor the new one
abbrev unmarked : List ℕ
unmarked = splice (splice (splice (replicate 67 255) 32 (head_of 8 (9 ∷ 9 ∷ 9 ∷ []))) 64 (9 ∷ 9 ∷ 9 ∷ [])) 0 blank_unit

pub example_before : choice record { first = example; second = unmarked } ≡ sheet 7 (1 ∷ 2 ∷ 3 ∷ [])
unfolding choice newer_of next_of held slot_of marked num_at crc_of crc_from byte_step bits bit_step splice head_of tail_of bytes_of
example_before = refl

pub example_revived : choice record { first = example; second = splice unmarked 0 mark_unit } ≡ sheet 8 (9 ∷ 9 ∷ 9 ∷ [])
unfolding choice newer_of next_of held slot_of marked num_at crc_of crc_from byte_step bits bit_step splice head_of tail_of bytes_of
example_revived = refl
