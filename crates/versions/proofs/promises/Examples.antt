-- The full example, by computation; and each refusal, alone and before those behind it.
use Rattle.octets.proofs.Kit.{ℕ, ◌≡◌, refl, List, [], ◌∷◌, replicate}
use Rattle.octets.specs.{Bytes.{num_at, bytes_of}, Every.every, Splice.splice}
use Rattle.sheet.specs.{Demand.breach, First.first, Entries.{entry, key_of, floor, body_at, body_end, start_of, reached, six_bits}}
use Rattle.sheet.specs.{Rules.{entry_demands, body_demands, entry_rule, body_rule, entries_rule, bodies_rule, walk_rule, rest_rule, rule_in, verdict_of}, Sample.sample}
use Rattle.versions.specs.{Store.{head_of, row_of, table_of, bodies_of, laid, version_at, versions_from, kept, has, body_of, is_kept, version_in}, Rules.{rows_rule, all_rows, store_rule, is_store}}
use Rattle.versions.specs.{Settings.{settings_of, restored}, Saving.{needed, saved, save_outcome, save_number, save_store}, Removing.{without, removed, remove_outcome, remove_store}}
use Rattle.versions.specs.Restoring.{same_entry, low_count, same_entries, low_counts, gives_back, at_zero, restore_outcome, restore_sheet}
use Rattle.versions.specs.Example.{empty, once, later, twice, left, tool, other}

-- SAVED ONCE
pub first_save : (save_outcome sample empty ≡ 0) × (save_number sample empty ≡ 1) × (save_store sample empty ≡ once)
unfolding sample empty once save_outcome save_number save_store saved settings_of laid head_of row_of table_of bodies_of version_at versions_from kept
    rows_rule all_rows store_rule is_store verdict_of rule_in walk_rule rest_rule entries_rule bodies_rule entry_rule body_rule body_demands entry_demands
    entry key_of floor body_at body_end start_of reached six_bits first breach splice num_at bytes_of
first_save = (refl, refl, refl)

-- SAVED TWICE; a third time would take 86 bytes, and there are 64
pub second_save : (save_outcome later once ≡ 0) × (save_number later once ≡ 2) × (save_store later once ≡ twice)
unfolding later once twice save_outcome save_number save_store saved settings_of laid head_of row_of table_of bodies_of version_at versions_from kept
    rows_rule all_rows store_rule is_store verdict_of rule_in walk_rule rest_rule entries_rule bodies_rule entry_rule body_rule body_demands entry_demands
    entry key_of floor body_at body_end start_of reached six_bits first breach splice num_at bytes_of
second_save = (refl, refl, refl)

pub third_save : (save_outcome later twice ≡ 33) × (save_number later twice ≡ 0) × (save_store later twice ≡ twice)
unfolding later twice save_outcome save_number save_store saved settings_of laid head_of row_of table_of bodies_of version_at versions_from kept
    rows_rule all_rows store_rule is_store verdict_of rule_in walk_rule rest_rule entries_rule bodies_rule entry_rule body_rule body_demands entry_demands
    entry key_of floor body_at body_end start_of reached six_bits first breach splice num_at bytes_of
third_save = (refl, refl, refl)

pub third_needs : needed (kept twice) (settings_of later) ≡ 86
unfolding later twice settings_of bodies_of version_at versions_from kept entry body_end start_of reached splice num_at bytes_of
third_needs = refl

-- THE FIRST RESTORED on the later sheet, and what is refused
pub first_restored : (restore_outcome tool later twice 1 ≡ 1) × (restore_sheet tool later twice 1 ≡ sample)
unfolding sample later twice restore_outcome restore_sheet restored body_of has is_kept version_in every same_entry low_count same_entries low_counts gives_back at_zero settings_of version_at versions_from kept
    rows_rule all_rows store_rule is_store verdict_of rule_in walk_rule rest_rule entries_rule bodies_rule entry_rule body_rule body_demands entry_demands
    entry key_of floor body_at body_end start_of reached six_bits first breach splice num_at bytes_of
first_restored = (refl, refl)

pub not_restored : (restore_outcome tool later twice 3 ≡ 34) × (restore_outcome other later twice 1 ≡ 35)
unfolding later twice restore_outcome body_of has is_kept version_in every same_entry low_count same_entries low_counts gives_back at_zero settings_of version_at versions_from kept
    rows_rule all_rows store_rule is_store verdict_of rule_in walk_rule rest_rule entries_rule bodies_rule entry_rule body_rule body_demands entry_demands
    entry key_of floor body_at body_end start_of reached six_bits first breach splice num_at bytes_of
not_restored = (refl, refl)

-- THE FIRST REMOVED: what it took is zero
pub first_removed : (remove_outcome twice 1 ≡ 1) × (remove_store twice 1 ≡ left)
unfolding twice left remove_outcome remove_store removed has is_kept without laid head_of row_of table_of bodies_of version_at versions_from kept
    rows_rule all_rows store_rule is_store first breach splice num_at bytes_of
first_removed = (refl, refl)

-- AND THE NEXT SAVE has a number that was never given
pub next_save : (save_outcome later left ≡ 0) × (save_number later left ≡ 3)
unfolding later left save_outcome save_number saved settings_of laid head_of row_of table_of bodies_of version_at versions_from kept
    rows_rule all_rows store_rule is_store verdict_of rule_in walk_rule rest_rule entries_rule bodies_rule entry_rule body_rule body_demands entry_demands
    entry key_of floor body_at body_end start_of reached six_bits first breach splice num_at bytes_of
next_save = (refl, refl)

-- A STORE of eight versions without a byte and what stands behind them: how many are said to be kept, the last number given being a and b, and where the bodies begin; full, and with a ninth
unfoldable pub eight : (n a b at : ℕ) → List ℕ → List ℕ
eight n a b at rest =
    0x00 ∷ n ∷ a ∷ b ∷ 0x00 ∷ 0x00 ∷ 0x00 ∷ 0x00 ∷
    0x00 ∷ 0x01 ∷ 0x00 ∷ 0x01 ∷ 0x00 ∷ at ∷ 0x00 ∷ 0x00 ∷
    0x00 ∷ 0x02 ∷ 0x00 ∷ 0x01 ∷ 0x00 ∷ at ∷ 0x00 ∷ 0x00 ∷
    0x00 ∷ 0x03 ∷ 0x00 ∷ 0x01 ∷ 0x00 ∷ at ∷ 0x00 ∷ 0x00 ∷
    0x00 ∷ 0x04 ∷ 0x00 ∷ 0x01 ∷ 0x00 ∷ at ∷ 0x00 ∷ 0x00 ∷
    0x00 ∷ 0x05 ∷ 0x00 ∷ 0x01 ∷ 0x00 ∷ at ∷ 0x00 ∷ 0x00 ∷
    0x00 ∷ 0x06 ∷ 0x00 ∷ 0x01 ∷ 0x00 ∷ at ∷ 0x00 ∷ 0x00 ∷
    0x00 ∷ 0x07 ∷ 0x00 ∷ 0x01 ∷ 0x00 ∷ at ∷ 0x00 ∷ 0x00 ∷
    0x00 ∷ 0x08 ∷ 0x00 ∷ 0x01 ∷ 0x00 ∷ at ∷ 0x00 ∷ 0x00 ∷ rest

unfoldable pub full : ℕ → ℕ → List ℕ
full a b = eight 0x08 a b 0x48 []

unfoldable pub nine : List ℕ
nine = eight 0x09 0x00 0x09 0x50 (0x00 ∷ 0x09 ∷ 0x00 ∷ 0x01 ∷ 0x00 ∷ 0x50 ∷ 0x00 ∷ 0x00 ∷ [])

-- a version with other levels, with a count above its maximum, with both
unfoldable pub levelled : List ℕ
levelled = splice twice 36 (0x30 ∷ [])

unfoldable pub counted : List ℕ
counted = splice twice 32 (0x00 ∷ 0x03 ∷ [])

unfoldable pub both : List ℕ
both = splice levelled 32 (0x00 ∷ 0x03 ∷ [])

-- EACH REFUSAL OF A SAVE, alone or before those behind it: 4 and 30, 14 and 30, 30, 31, 31 and 32 and 33, 32 and 33, 33
pub saves_worked :
    save_outcome [] [] ∷ save_outcome (splice sample 0 (0x01 ∷ [])) [] ∷ save_outcome sample [] ∷ save_outcome sample (splice empty 2 (0xFF ∷ 0xFF ∷ [])) ∷
    save_outcome sample (full 0xFF 0xFF) ∷ save_outcome sample (full 0x00 0x08) ∷ save_outcome later twice ∷ []
    ≡ 4 ∷ 14 ∷ 30 ∷ 31 ∷ 31 ∷ 32 ∷ 33 ∷ []
unfolding eight full sample later empty once twice save_outcome save_number save_store saved settings_of laid head_of row_of table_of bodies_of version_at versions_from kept
    rows_rule all_rows store_rule is_store verdict_of rule_in walk_rule rest_rule entries_rule bodies_rule entry_rule body_rule body_demands entry_demands
    entry key_of floor body_at body_end start_of reached six_bits first breach splice num_at bytes_of
saves_worked = refl

-- OF A RESTORE: 4 and 30, 14 and 30, 30 and 34, 34 and 35, 35 and 36, 36, 36 and 37, 37
pub restores_worked :
    restore_outcome tool [] [] 1 ∷ restore_outcome tool (splice later 0 (0x01 ∷ [])) [] 1 ∷ restore_outcome tool later [] 1 ∷ restore_outcome other later twice 3 ∷
    restore_outcome other later levelled 1 ∷
    restore_outcome tool later levelled 1 ∷ restore_outcome tool later both 1 ∷ restore_outcome tool later counted 1 ∷ []
    ≡ 4 ∷ 14 ∷ 30 ∷ 34 ∷ 35 ∷ 36 ∷ 36 ∷ 37 ∷ []
unfolding levelled counted both sample later twice restore_outcome restore_sheet restored body_of has is_kept version_in every
    same_entry low_count same_entries low_counts gives_back at_zero settings_of version_at versions_from kept rows_rule all_rows store_rule is_store
    verdict_of rule_in walk_rule rest_rule entries_rule bodies_rule entry_rule body_rule body_demands entry_demands
    entry key_of floor body_at body_end start_of reached six_bits first breach splice num_at bytes_of
restores_worked = refl

-- OF A REMOVE: 30 and 34, 34
pub removes_worked : remove_outcome [] 3 ∷ remove_outcome twice 3 ∷ [] ≡ 30 ∷ 34 ∷ []
unfolding twice remove_outcome has is_kept version_at versions_from kept rows_rule all_rows store_rule is_store breach splice num_at bytes_of
removes_worked = refl

-- OF A STORE: eight versions are good, nine are not, all else being right; number 1 is good, number 0 is not; eight bytes are enough, seven are not
pub stores_worked :
    store_rule (full 0x00 0x08) ∷ store_rule nine ∷ store_rule once ∷ store_rule (splice once 8 (0x00 ∷ 0x00 ∷ [])) ∷
    store_rule (replicate 8 0) ∷ store_rule (replicate 7 0) ∷ []
    ≡ 0 ∷ 30 ∷ 0 ∷ 30 ∷ 0 ∷ 30 ∷ []
unfolding eight full nine once rows_rule all_rows store_rule breach splice num_at bytes_of
stores_worked = refl

-- AND A BUFFER of 32,768 bytes is good, one byte more is too long
pub too_long_worked : store_rule (replicate 32768 0) ∷ store_rule (replicate 32769 0) ∷ [] ≡ 0 ∷ 30 ∷ []
unfolding rows_rule all_rows store_rule breach splice num_at bytes_of
too_long_worked = refl
