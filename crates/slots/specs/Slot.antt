-- A SLOT: a mark of six bytes in a unit of its own, a head, a sheet; what it holds; which of two is the newer.
use Rattle.std.specs.Prelude.{ℕ, ◌+◌, List, ◌∷◌, ◌++◌, Bool, cond, not, ltb, eqb, length, take, drop, replicate}
use Rattle.octets.specs.Bytes.{num_at, bytes_of}
use Rattle.slots.specs.Crc.{crc_of, ones}
use Rattle.slots.specs.declared.Slot.{Slot}
use Rattle.slots.specs.declared.Target.{Target}

-- the longest sheet
abbrev pub longest : ℕ
longest = 32768

-- THE LAYOUT: the mark's unit of 32 bytes, of which the first six are the mark; the head, 32 bytes: check sum, number, length, four bytes each, and 20 bytes 0; the sheet
abbrev pub head_at : ℕ
head_at = 32

abbrev pub sheet_at : ℕ
sheet_at = 64

-- the mark: KELIND in ASCII. No byte of it is 0 or FFh
abbrev pub mark : ℕ
mark = 82761004699204

unfoldable pub marked : List ℕ → Bool
marked b = eqb (num_at b 0 6) mark

-- the unit that marks a slot, and the one that takes the mark away
abbrev pub mark_unit : List ℕ
mark_unit = 75 ∷ 69 ∷ 76 ∷ 73 ∷ 78 ∷ 68 ∷ replicate 26 255

abbrev pub blank_unit : List ℕ
blank_unit = replicate 32 0

-- what the check sum is over: number, length, zeros, and then the sheet
unfoldable pub tail_of : ℕ → ℕ → List ℕ
tail_of n long = bytes_of 4 n ++ (bytes_of 4 long ++ replicate 20 0)

-- THE HEAD of sheet t under number n
unfoldable pub head_of : ℕ → List ℕ → List ℕ
head_of n t = bytes_of 4 (crc_of (tail_of n (length t) ++ t)) ++ tail_of n (length t)

abbrev pub bad : ℕ → Slot
bad r = record { refusal = r; number = 0; offset = 0; length = 0 }

-- where the check sum is over, if the sheet has this length
abbrev pub covered : List ℕ → ℕ → List ℕ
covered b long = take (28 + long) (drop 36 b)

abbrev pub numbered : List ℕ → ℕ → Slot
numbered b long = record { refusal = 0; number = num_at b 36 4; offset = sheet_at; length = long }

-- A SLOT IS GOOD by its length, its mark, the length of its sheet and its check sum, or is refused by 80, 81, 82 or 84
unfoldable pub slot_of : List ℕ → Slot
slot_of b =
    cond (ltb (length b) sheet_at) (bad 80)
    (cond (not (marked b)) (bad 81)
    (cond (ltb longest (num_at b 40 4)) (bad 82)
    (cond (ltb (length b) (sheet_at + num_at b 40 4)) (bad 82)
    (cond (eqb (num_at b 32 4) (crc_of (covered b (num_at b 40 4)))) (numbered b (num_at b 40 4)) (bad 84)))))

-- the number after one: they go round
unfoldable pub next_of : ℕ → ℕ
next_of n = cond (eqb n ones) 0 (n + 1)

-- WHICH IS THE NEWER, 0 or 1; 2 where neither is good
unfoldable pub newer_of : Slot → Slot → ℕ
newer_of a b =
    cond (eqb a.refusal 0)
    (cond (eqb b.refusal 0) (cond (eqb b.number (next_of a.number)) 1 0) 0)
    (cond (eqb b.refusal 0) 1 2)

-- WHERE A SAVE GOES, AND UNDER WHICH NUMBER
unfoldable pub target_of : Slot → Slot → Target
target_of a b =
    cond (eqb (newer_of a b) 0) record { slot = 1; number = next_of a.number }
    (cond (eqb (newer_of a b) 1) record { slot = 0; number = next_of b.number } record { slot = 0; number = 0 })
