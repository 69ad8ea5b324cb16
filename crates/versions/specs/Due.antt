-- WHAT IS DUE, as plain propositions: a constructor for each outcome, with what is given and left.
use Rattle.std.specs.Prelude.{ℕ, ◌≤◌, ◌<◌, ◌≡◌, true, false, List, length}
use Rattle.sheet.specs.Layout.{◌of◌}
use Rattle.sheet.specs.Rules.{Accepted, Old, Bad, old}
use Rattle.judge.specs.declared.Session.{Session}
use Rattle.versions.specs.Head as head
use Rattle.versions.specs.Store.{places, kept, is_kept, version_in}
use Rattle.versions.specs.Rules.{Passes, bad_sheet, bad_store, not_kept}
use Rattle.versions.specs.Settings.{settings_of, restored, SameEntries, LowCounts}
use Rattle.versions.specs.Saving.{no_number, no_place, no_room, last_number, next_number, needed, saved}
use Rattle.versions.specs.Restoring.{not_at_zero, other_entries, high_count}
use Rattle.versions.specs.Removing.{removed}

-- the sheet is accepted and the store good
pub record Ready (sheet s : List ℕ) : Type 0 where
  pub accepted : Accepted sheet
  pub good : Passes s

-- SAVING: the outcome, the number given and the store afterwards
pub data SaveDue (sheet s : List ℕ) : ℕ → ℕ → List ℕ → Type 0 where
  no_sheet : Bad sheet → SaveDue sheet s bad_sheet 0 s
  old_sheet : Old sheet → SaveDue sheet s old 0 s
  no_store : Accepted sheet → (Passes s → ⊥) → SaveDue sheet s bad_store 0 s
  last_given : Ready sheet s → head.last of s ≡ last_number → SaveDue sheet s no_number 0 s
  all_taken : Ready sheet s → (head.last of s ≡ last_number → ⊥) → length (kept s) ≡ places → SaveDue sheet s no_place 0 s
  too_long :
      Ready sheet s → (head.last of s ≡ last_number → ⊥) → (length (kept s) ≡ places → ⊥) →
      length s < needed (kept s) (settings_of sheet) → SaveDue sheet s no_room 0 s
  is_saved :
      Ready sheet s → (head.last of s ≡ last_number → ⊥) → (length (kept s) ≡ places → ⊥) →
      needed (kept s) (settings_of sheet) ≤ length s → SaveDue sheet s 0 (next_number s) (saved s (settings_of sheet))

-- a session is open at level 0
pub record AtZero (q : Session) : Type 0 where
  pub opened : q.opened ≡ true
  pub level : q.level ≡ 0

-- a sheet and a store that are in order, and a number that is kept
pub record Known (sheet s : List ℕ) (x : ℕ) : Type 0 where
  pub ready : Ready sheet s
  pub there : is_kept s x ≡ true

-- RESTORING: the outcome and the sheet afterwards
pub data RestoreDue (q : Session) (sheet s : List ℕ) (x : ℕ) : ℕ → List ℕ → Type 0 where
  sheet_refused : Bad sheet → RestoreDue q sheet s x bad_sheet sheet
  sheet_old : Old sheet → RestoreDue q sheet s x old sheet
  store_refused : Accepted sheet → (Passes s → ⊥) → RestoreDue q sheet s x bad_store sheet
  unknown_number : Ready sheet s → is_kept s x ≡ false → RestoreDue q sheet s x not_kept sheet
  not_open : Known sheet s x → (AtZero q → ⊥) → RestoreDue q sheet s x not_at_zero sheet
  differs : Known sheet s x → AtZero q → (SameEntries sheet (version_in s x) → ⊥) → RestoreDue q sheet s x other_entries sheet
  too_high :
      Known sheet s x → AtZero q → SameEntries sheet (version_in s x) → (LowCounts sheet (version_in s x) → ⊥) →
      RestoreDue q sheet s x high_count sheet
  is_restored :
      Known sheet s x → AtZero q → SameEntries sheet (version_in s x) → LowCounts sheet (version_in s x) →
      RestoreDue q sheet s x 1 (restored sheet (version_in s x))

-- REMOVING: the outcome and the store afterwards
pub data RemoveDue (s : List ℕ) (x : ℕ) : ℕ → List ℕ → Type 0 where
  bad_one : (Passes s → ⊥) → RemoveDue s x bad_store s
  unknown : Passes s → is_kept s x ≡ false → RemoveDue s x not_kept s
  is_removed : Passes s → is_kept s x ≡ true → RemoveDue s x 1 (removed s x)
