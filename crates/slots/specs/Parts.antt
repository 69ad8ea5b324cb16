-- A SLOT JUDGED IN PARTS: its first 64 bytes, then the bytes behind them in runs of any length.
use Rattle.std.specs.Prelude.{ℕ, ◌+◌, ◌-◌, List, [], ◌∷◌, ◌++◌, cond, not, ltb, eqb, length, take, drop}
use Rattle.octets.specs.Bytes.{num_at}
use Rattle.slots.specs.Crc.{ones, crc_from}
use Rattle.slots.specs.Slot.{longest, sheet_at, marked, bad}
use Rattle.slots.specs.declared.Slot.{Slot}
use Rattle.slots.specs.declared.Judging.{Judging}

abbrev pub barred : ℕ → Judging
barred r = record { refusal = r; number = 0; length = 0; left = 0; stated = 0; sum = 0 }

-- the head is read: its sheet is to come
abbrev pub headed : List ℕ → Judging
headed f = record { refusal = 0; number = num_at f 36 4; length = num_at f 40 4; left = num_at f 40 4; stated = num_at f 32 4; sum = crc_from ones (take 28 (drop 36 f)) }

abbrev pub gone_on : Judging → ℕ → ℕ → Judging
gone_on j left sum = record { refusal = j.refusal; number = j.number; length = j.length; left = left; stated = j.stated; sum = sum }

-- THE FRONT of a slot that has this room
unfoldable pub begin_of : List ℕ → ℕ → Judging
begin_of f room =
    cond (ltb room sheet_at) (barred 80)
    (cond (ltb (length f) sheet_at) (barred 80)
    (cond (not (marked f)) (barred 81)
    (cond (ltb longest (num_at f 40 4)) (barred 82) (cond (ltb room (sheet_at + num_at f 40 4)) (barred 82) (headed f)))))

-- THE NEXT BYTES: those behind the sheet are passed over
unfoldable pub more_of : Judging → List ℕ → Judging
more_of j s = gone_on j (j.left - length s) (crc_from j.sum (take j.left s))

-- THE END
unfoldable pub end_of : Judging → Slot
end_of j =
    cond (eqb j.refusal 0)
    (cond (eqb j.left 0)
    (cond (eqb j.stated (ones - j.sum)) record { refusal = 0; number = j.number; offset = sheet_at; length = j.length } (bad 84))
    (bad 83))
    (bad j.refusal)

-- parts one after the other, the first first; and the bytes that they are
unfoldable pub handed : Judging → List (List ℕ) → Judging
handed j [] = j
handed j (p ∷ ps) = handed (more_of j p) ps

unfoldable pub joined : List (List ℕ) → List ℕ
joined [] = []
joined (p ∷ ps) = p ++ joined ps
