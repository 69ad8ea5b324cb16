-- WHAT RESTORING GIVES.
use Rattle.std.specs.Prelude.{ℕ, ◌+◌, ◌*◌, ◌≡◌, Bool, cond, ◌&&◌, ◌||◌, List, eqb, leb, ltb, length, get_or}
use Rattle.octets.specs.Bytes.{num_at}
use Rattle.octets.specs.Every.{every}
use Rattle.sheet.specs.Kind.{properties}
use Rattle.sheet.specs.Property as property
use Rattle.sheet.specs.Entries.{place}
use Rattle.sheet.specs.Rules.{refusal_of}
use Rattle.judge.specs.declared.Session.{Session}
use Rattle.versions.specs.Store.{is_kept, version_in}
use Rattle.versions.specs.Rules.{is_store, bad_store, not_kept}
use Rattle.versions.specs.Settings.{front, many, entries_long, bodies_long, restored}

-- the numbers of the refusals: no session at level 0, other entries, a count above its maximum
abbrev pub not_at_zero : ℕ
not_at_zero = 35

abbrev pub other_entries : ℕ
other_entries = 36

abbrev pub high_count : ℕ
high_count = 37

-- a session is open, and its level exactly 0
unfoldable pub at_zero : Session → Bool
at_zero q = q.opened && eqb q.level 0

-- byte j of a property's entry is one of its count
abbrev pub is_count : ℕ → Bool
is_count j = leb (property.count).at j && ltb j ((property.count).at + (property.count).width)

-- the entry at p of a sheet and the one at q of a version are the same byte by byte, but for the count
abbrev pub same_byte : List ℕ → ℕ → List ℕ → ℕ → ℕ → Bool
same_byte s p d q j = is_count j || eqb (get_or d (q + j) 0) (get_or s (p + j) 0)

unfoldable pub same_entry : List ℕ → ℕ → List ℕ → ℕ → Bool
same_entry s p d q = every property.size (λ j. same_byte s p d q j)

-- the version's count is at most the sheet's maximum
unfoldable pub low_count : List ℕ → ℕ → List ℕ → ℕ → Bool
low_count s p d q = leb (num_at d (q + (property.count).at) (property.count).width) (num_at s (p + (property.maximum).at) (property.maximum).width)

-- where entry i stands in a version
abbrev pub entry_in : ℕ → ℕ
entry_in i = front + property.size * i

-- A VERSION d HAS THE ENTRIES OF A SHEET, but for the counts: as many, all other bytes the same, bodies as long
unfoldable pub same_entries : List ℕ → List ℕ → Bool
same_entries s d =
    eqb (length d) (front + entries_long s + bodies_long s)
    && (eqb (num_at d 0 front) (many s) && every (many s) (λ i. same_entry s (place s properties i) d (entry_in i)))

-- NO COUNT IS ABOVE ITS MAXIMUM
unfoldable pub low_counts : List ℕ → List ℕ → Bool
low_counts s d = every (many s) (λ i. low_count s (place s properties i) d (entry_in i))

-- 36 or 37, or 1 where the version can be given back
unfoldable pub gives_back : List ℕ → List ℕ → ℕ
gives_back s d = cond (same_entries s d) (cond (low_counts s d) 1 high_count) other_entries

-- restoring number x for a session q, by what the sheet is refused by, 0 if it is not: that, 30 for a bad store, 34 for a number that is not kept,
-- 35 unless the session is open at level 0, 36 for other entries, 37 for a count above its maximum, else 1
abbrev pub restore_by : ℕ → Session → List ℕ → List ℕ → ℕ → ℕ
restore_by n q sheet s x =
    cond (eqb n 0)
    (cond (is_store s)
    (cond (is_kept s x) (cond (at_zero q) (gives_back sheet (version_in s x)) not_at_zero) not_kept)
    bad_store) n

-- and the sheet after that outcome
abbrev pub left_by : ℕ → List ℕ → List ℕ → ℕ → List ℕ
left_by r sheet s x = cond (eqb r 1) (restored sheet (version_in s x)) sheet

-- THE OUTCOME: 14 for an old sheet, 4 for a bad one, and so on
unfoldable pub restore_outcome : Session → List ℕ → List ℕ → ℕ → ℕ
restore_outcome q sheet s x = restore_by (refusal_of sheet) q sheet s x

-- AND THE SHEET AFTERWARDS
unfoldable pub restore_sheet : Session → List ℕ → List ℕ → ℕ → List ℕ
restore_sheet q sheet s x = left_by (restore_outcome q sheet s x) sheet s x

pub record RestoredAs (q : Session) (sheet s : List ℕ) (x r : ℕ) (sheet' : List ℕ) : Type 0 where
  pub outcome : r ≡ restore_outcome q sheet s x
  pub after : sheet' ≡ restore_sheet q sheet s x
