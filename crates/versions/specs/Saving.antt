-- WHAT SAVING GIVES.
use Rattle.std.specs.Prelude.{ℕ, ◌+◌, ◌≡◌, cond, List, [], ◌∷◌, ◌++◌, eqb, ltb, length, drop}
use Rattle.sheet.specs.Layout.{◌of◌}
use Rattle.sheet.specs.Rules.{refusal_of}
use Rattle.versions.specs.Head as head
use Rattle.versions.specs.Store.{Version, places, table_end, laid, kept, bodies_of}
use Rattle.versions.specs.Rules.{is_store, bad_store}
use Rattle.versions.specs.Settings.{settings_of}
use Rattle.versions.specs.declared.saving.Saved.{Saved}

-- the numbers of the refusals: no number left, no place left, no room left
abbrev pub no_number : ℕ
no_number = 31

abbrev pub no_place : ℕ
no_place = 32

abbrev pub no_room : ℕ
no_room = 33

-- the last number that can be given
abbrev pub last_number : ℕ
last_number = 65535

-- the versions with one more, of the next number
abbrev pub next_number : List ℕ → ℕ
next_number s = head.last of s + 1

abbrev pub with : List ℕ → List ℕ → List Version
with s d = kept s ++ (record { number = next_number s; body = d } ∷ [])

-- the store that keeps them; bytes after the last body are as found
unfoldable pub saved : List ℕ → List ℕ → List ℕ
saved s d = laid (next_number s) (with s d) ++ drop (length (laid (next_number s) (with s d))) s

-- what head and table with one row more, the kept bodies and a new one take together
abbrev pub needed : List Version → List ℕ → ℕ
needed vs d = table_end (length vs + 1) + length (bodies_of vs) + length d

-- by what the sheet is refused by, 0 if it is not: that, 30 for a bad store, 31 if the last number is given, 32 if all places are taken, 33 for want of room, else 0
abbrev pub save_by : ℕ → List ℕ → List ℕ → ℕ
save_by n sheet s =
    cond (eqb n 0)
    (cond (is_store s)
    (cond (eqb (head.last of s) last_number) no_number
    (cond (eqb (length (kept s)) places) no_place (cond (ltb (length s) (needed (kept s) (settings_of sheet))) no_room 0)))
    bad_store) n

-- THE OUTCOME: 14 for an old sheet, 4 for a bad one, and so on
unfoldable pub save_outcome : List ℕ → List ℕ → ℕ
save_outcome sheet s = save_by (refusal_of sheet) sheet s

-- after an outcome: the number given, 0 on a refusal, and the store
abbrev pub number_by : ℕ → List ℕ → ℕ
number_by r s = cond (eqb r 0) (next_number s) 0

abbrev pub store_by : ℕ → List ℕ → List ℕ → List ℕ
store_by r sheet s = cond (eqb r 0) (saved s (settings_of sheet)) s

-- THE NUMBER GIVEN, AND THE STORE AFTERWARDS
unfoldable pub save_number : List ℕ → List ℕ → ℕ
save_number sheet s = number_by (save_outcome sheet s) s

unfoldable pub save_store : List ℕ → List ℕ → List ℕ
save_store sheet s = store_by (save_outcome sheet s) sheet s

pub record SavedAs (sheet s : List ℕ) (r : Saved) (s' : List ℕ) : Type 0 where
  pub outcome : r.outcome ≡ save_outcome sheet s
  pub number : r.number ≡ save_number sheet s
  pub store : s' ≡ save_store sheet s
