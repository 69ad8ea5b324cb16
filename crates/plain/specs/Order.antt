-- The outcomes that come before a service, by their numbers; 0 where none is due.
use Rattle.std.specs.Prelude.{ℕ, Bool, cond, not, ltb, eqb}
use Rattle.std.specs.Prelude.{Option, Some, None}
use Rattle.pdu.specs.declared.Service.{Service}
use Rattle.judge.specs.Modes.{reach_of, reaches, takes}

-- of a buffer of `room` bytes, a sheet refused by n, an APDU of l bytes, a mode, and a session that is shut or not
unfoldable pub first_of : ℕ → ℕ → ℕ → ℕ → Bool → ℕ
first_of room n l mode shut =
    cond (ltb room 16) 3
    (cond (not (eqb n 0)) n
    (cond (ltb l 2) 5 (cond (ltb 16 l) 5 (cond (ltb 3 mode) 6 (cond shut 7 0)))))

-- of what the code names, under these rules, in a mode
abbrev pub next_of : Option Service → ℕ → ℕ → ℕ
next_of None rules mode = 8
next_of (Some k) rules mode = cond (not (reaches (reach_of rules k))) 8 (cond (not (takes (reach_of rules k) mode)) 9 0)
