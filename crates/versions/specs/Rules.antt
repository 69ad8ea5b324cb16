-- WHETHER A STORE IS GOOD, as rows of a table: any row that does not hold gives the one number.
use Rattle.std.specs.Prelude.{ℕ, zero, suc, ◌+◌, ◌≡◌, Bool, List, [], ◌∷◌, eqb, length}
use Rattle.sheet.specs.Demand.{Demand, ◌≼◌, ◌≐◌, ◌⦂◌, breach}
use Rattle.sheet.specs.First.{or_else}
use Rattle.sheet.specs.Layout.{◌of◌}
use Rattle.versions.specs.Head as head
use Rattle.versions.specs.Row as row
use Rattle.versions.specs.Store.{settings, places, longest, lowest, table_end, in_row}

-- the numbers of the refusals that several calls give: a sheet that is not accepted, a bad store, a number that is not kept
abbrev pub bad_sheet : ℕ
bad_sheet = 4

abbrev pub bad_store : ℕ
bad_store = 30

abbrev pub not_kept : ℕ
not_kept = 34

abbrev pub head_demands : List ℕ → List Demand
head_demands s =
    (bad_store ⦂ head.size ≼ length s) ∷
    (bad_store ⦂ length s ≼ longest) ∷
    (bad_store ⦂ head.count of s ≼ places) ∷
    (bad_store ⦂ head.zeros of s ≐ 0) ∷
    (bad_store ⦂ table_end (head.count of s) ≼ length s) ∷
    []

-- of the row at p, whose number is to be at least `floor` and whose body is to start at `at`
abbrev pub row_demands : List ℕ → ℕ → ℕ → ℕ → List Demand
row_demands s p floor at =
    (bad_store ⦂ floor ≼ in_row s p row.number) ∷
    (bad_store ⦂ in_row s p row.kind ≐ settings) ∷
    (bad_store ⦂ in_row s p row.offset ≐ at) ∷
    []

-- after the last row
abbrev pub end_demands : List ℕ → ℕ → ℕ → List Demand
end_demands s floor at = (bad_store ⦂ floor ≼ head.last of s + 1) ∷ (bad_store ⦂ at ≼ length s) ∷ []

-- of n rows from p on
unfoldable pub rows_rule : List ℕ → ℕ → ℕ → ℕ → ℕ → ℕ
rows_rule s p floor at zero = breach (end_demands s floor at)
rows_rule s p floor at (suc n) =
    or_else (breach (row_demands s p floor at))
    (rows_rule s (p + row.size) (in_row s p row.number + 1) (at + in_row s p row.long) n)

unfoldable pub all_rows : List ℕ → ℕ
all_rows s = rows_rule s head.size lowest (table_end (head.count of s)) (head.count of s)

-- 30, or 0 for a good store
unfoldable pub store_rule : List ℕ → ℕ
store_rule s = or_else (breach (head_demands s)) (all_rows s)

-- A GOOD STORE PASSES, and the same as a test
abbrev pub Passes : List ℕ → Type 0
Passes s = store_rule s ≡ 0

unfoldable pub is_store : List ℕ → Bool
is_store s = eqb (store_rule s) 0
