-- A RUN OF ACTS, by computation: the example of docs/STORE.md with the device beside the store. Connected at level 0: saved, BEEFh written to element 2, saved again, version 1 restored, then removed.
use Rattle.octets.proofs.Kit.{ℕ, ◌≡◌, refl, List, [], ◌∷◌, map, replicate}
use Rattle.octets.specs.{Bytes.{num_at, bytes_of}, Every.every, Splice.splice}
use Rattle.sheet.specs.{Demand.breach, First.first, Head.rules_of, Entries.{entry, key_of, floor, body_at, body_end, start_of, reached, six_bits}}
use Rattle.sheet.specs.{Rules.{entry_demands, body_demands, entry_rule, body_rule, entries_rule, bodies_rule, walk_rule, rest_rule, rule_in, verdict_of}, Lookup.{seek, index_of}}
use Rattle.pdu.specs.{Table.find, Rules.{low_at, four_at, twelve_at, head_bytes}, Read.{read_pdu, data_of}, Write.encoded}
use Rattle.judge.specs.{Session.{level_of, level_in}, Properties.{write_in, property_write_of}, Keys.{grant_of, authorize_of}, Judge.{reached_of, is_shut, judge_of}}
use Rattle.device.specs.{Step.{step_by, step_of}, Events.request_of, Marked.sample}
use Rattle.versions.specs.{Store.{head_of, row_of, table_of, bodies_of, laid, version_at, versions_from, kept, has, body_of, is_kept, version_in}, Rules.{rows_rule, all_rows, store_rule, is_store}}
use Rattle.versions.specs.{Settings.{settings_of, restored}, Saving.{saved, save_outcome, save_store}}
use Rattle.versions.specs.{Restoring.{same_entry, low_count, same_entries, low_counts, gives_back, at_zero, restore_outcome, restore_sheet}, Removing.{without, removed, remove_outcome, remove_store}}
use Rattle.versions.specs.Example.{empty, once, later, twice, left}
use Rattle.events.specs.Events.{Event, connect, request, restore, event_of}
use Rattle.history.specs.{Keeps.state_after, Rightful.ours, Acts.{Act, does, restores, saves, removes, events_of, store_after}, Samples.fresh}

-- the key of level 0 offered; BEEF to element 2 of property 51 of object 1
abbrev asked : List ℕ → Event
asked a = request 3 0 0 a (replicate 16 0)

abbrev offer : Event
offer = asked (0x03 ∷ 0xD1 ∷ 0x00 ∷ 0x11 ∷ 0x11 ∷ 0x11 ∷ 0x11 ∷ [])

abbrev write : Event
write = asked (0x03 ∷ 0xD7 ∷ 0x01 ∷ 0x33 ∷ 0x10 ∷ 0x02 ∷ 0xBE ∷ 0xEF ∷ [])

-- the newest first: up to the first save, to the second, to the restore, to the removal
abbrev pub saved_once : List Act
saved_once = saves ∷ does offer ∷ does (connect 0) ∷ []

abbrev pub saved_twice : List Act
saved_twice = saves ∷ does write ∷ saved_once

abbrev pub given_back : List Act
given_back = restores 0 1 ∷ saved_twice

abbrev pub taken_out : List Act
taken_out = removes 1 ∷ given_back

-- THE STORE after each
pub stores_worked : map (store_after ours fresh empty) (saved_once ∷ saved_twice ∷ given_back ∷ taken_out ∷ []) ≡ once ∷ twice ∷ twice ∷ left ∷ []
unfolding events_of store_after state_after event_of request_of step_of step_by judge_of is_shut reached_of rules_of level_in level_of grant_of authorize_of write_in property_write_of
    read_pdu find data_of encoded head_bytes low_at four_at twelve_at seek index_of empty once later twice left sample
    save_outcome save_store saved settings_of laid head_of row_of table_of bodies_of version_at versions_from kept remove_outcome remove_store removed without has is_kept
    restore_outcome restore_sheet restored body_of version_in every same_entry low_count same_entries low_counts gives_back at_zero
    rows_rule all_rows store_rule is_store verdict_of rule_in walk_rule rest_rule entries_rule bodies_rule entry_rule body_rule body_demands entry_demands
    entry key_of floor body_at body_end start_of reached six_bits first breach splice num_at bytes_of
stores_worked = refl

-- THE EVENTS: the restore is from the store as it then stood
pub events_worked : events_of ours fresh empty taken_out ≡ restore 0 1 twice ∷ write ∷ offer ∷ connect 0 ∷ []
unfolding events_of store_after state_after event_of request_of step_of step_by judge_of is_shut reached_of rules_of level_in level_of grant_of authorize_of write_in property_write_of
    read_pdu find data_of encoded head_bytes low_at four_at twelve_at seek index_of empty once later twice sample
    save_outcome save_store saved settings_of laid head_of row_of table_of bodies_of version_at versions_from kept
    rows_rule all_rows store_rule is_store verdict_of rule_in walk_rule rest_rule entries_rule bodies_rule entry_rule body_rule body_demands entry_demands
    entry key_of floor body_at body_end start_of reached six_bits first breach splice num_at bytes_of
events_worked = refl

-- THE SHEET after the write, and after the restore
pub sheets_worked :
    (state_after ours fresh (write ∷ offer ∷ connect 0 ∷ [])).sheet ∷ (state_after ours fresh (restore 0 1 twice ∷ write ∷ offer ∷ connect 0 ∷ [])).sheet ∷ []
    ≡ later ∷ sample ∷ []
unfolding state_after event_of request_of step_of step_by judge_of is_shut reached_of rules_of level_in level_of grant_of authorize_of write_in property_write_of
    read_pdu find data_of encoded head_bytes low_at four_at twelve_at seek index_of later twice sample version_at versions_from kept has is_kept
    restore_outcome restore_sheet restored body_of version_in every same_entry low_count same_entries low_counts gives_back at_zero
    rows_rule all_rows store_rule is_store verdict_of rule_in walk_rule rest_rule entries_rule bodies_rule entry_rule body_rule body_demands entry_demands
    entry key_of floor body_at body_end start_of reached six_bits first breach splice num_at bytes_of
sheets_worked = refl
