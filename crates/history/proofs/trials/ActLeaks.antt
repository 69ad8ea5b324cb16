-- WHAT ISOLATION WITH A STORE RULES OUT: devices in which one tool can tell, by a save or around a restore, what the other did.
use Rattle.octets.proofs.Kit.{ℕ, ◌≡◌, refl, ap, Bool, List, [], ◌∷◌, get_or, arith}
use Rattle.octets.specs.{Bytes.{num_at, bytes_of}, Every.every, Splice.splice}
use Rattle.sheet.specs.{Demand.breach, First.first, Entries.{entry, key_of, floor, body_at, body_end, start_of, reached, six_bits}}
use Rattle.sheet.specs.Rules.{entry_demands, body_demands, entry_rule, body_rule, entries_rule, bodies_rule, walk_rule, rest_rule, rule_in, verdict_of}
use Rattle.device.specs.Marked.{sample}
use Rattle.versions.specs.{Store.{head_of, row_of, table_of, bodies_of, laid, version_at, versions_from, kept, has, body_of, is_kept, version_in}, Rules.{rows_rule, all_rows, store_rule, is_store}}
use Rattle.versions.specs.{Settings.{settings_of, restored}, Saving.{saved, save_outcome, save_store}}
use Rattle.versions.specs.{Restoring.{same_entry, low_count, same_entries, low_counts, gives_back, at_zero, restore_outcome, restore_sheet}, Example.empty}
use Rattle.events.specs.Events.{Event, connect, disconnect, event_of}
use Rattle.history.specs.{Keeps.state_after, Isolation.same, Acts.{Act, does, stores, restores, saves, removes, events_of, store_after, BesideActs, begin, stores_both, shared_restore}}
use Rattle.history.specs.{Acts.{one_more, one_restore, other_restore, ActsIsolated}, Samples.fresh}
use Rattle.history.proofs.trials.Leaks.{how_many, is_disconnect, is_restore, showing, stores_on_close}

-- A SAVE AFTER THE OTHER TOOL'S DISCONNECT, by a device that stores when a connection is closed: version 1 has another height
pub save_shown : ActsIsolated stores_on_close → ⊥
unfolding state_after events_of store_after event_of save_outcome save_store saved settings_of laid head_of row_of table_of bodies_of version_at versions_from kept
    rows_rule all_rows store_rule is_store empty verdict_of rule_in walk_rule rest_rule entries_rule bodies_rule entry_rule body_rule body_demands entry_demands
    entry key_of floor body_at body_end start_of reached six_bits first breach splice num_at bytes_of sample
save_shown i =
    let z : ◌≡◌ {A = ℕ} 0x07 0x03 =
    ap (λ (l : List ℕ). get_or l 30 0)
    (i fresh empty 0 1 (λ e. omega arith) (saves ∷ does (disconnect 1) ∷ []) (saves ∷ []) (stores_both _ (one_more {e = disconnect 1} refl tt begin))).1
    in
    omega arith

-- where the answers show how many events of a kind came, two runs of acts may not differ in that
counted : (p : Event → Bool) (h h' : List Act) → BesideActs (showing p) fresh empty 1 h h'
    → (how_many p (events_of (showing p) fresh empty h) ≡ how_many p (events_of (showing p) fresh empty h') → ⊥) → ActsIsolated (showing p) → ⊥
unfolding event_of
counted p h h' b n i =
    n (ap (λ (l : List ℕ). get_or l 0 0) ((i fresh empty 0 1 (λ e. omega arith) h h' b).0.answer (connect 0) (connect 0) refl (same (connect 0))))

-- A RESTORE THAT IS IN BOTH RUNS, as are a save, a remove and whatever else a host does to its store, and the other tool's disconnect among them
abbrev emptied : Act
emptied = stores (λ s st. empty)

pub disconnect_before_restore : ActsIsolated (showing is_disconnect) → ⊥
unfolding events_of
disconnect_before_restore =
    counted is_disconnect (restores 0 1 ∷ emptied ∷ removes 2 ∷ does (disconnect 1) ∷ saves ∷ []) (restores 0 1 ∷ emptied ∷ removes 2 ∷ saves ∷ [])
    (shared_restore 0 1 refl (stores_both _ (stores_both _ (one_more {e = disconnect 1} refl tt (stores_both _ begin))))) (λ e. omega arith)

-- THE OTHER TOOL'S RESTORE, which is refused, of what was saved; in either run
pub restore_after_save : (ActsIsolated (showing is_restore) → ⊥) × (ActsIsolated (showing is_restore) → ⊥)
unfolding state_after events_of store_after event_of save_outcome save_store saved settings_of laid head_of row_of table_of bodies_of version_at versions_from kept
    restore_outcome restore_sheet restored body_of has is_kept version_in every same_entry low_count same_entries low_counts gives_back at_zero
    rows_rule all_rows store_rule is_store empty verdict_of rule_in walk_rule rest_rule entries_rule bodies_rule entry_rule body_rule body_demands entry_demands
    entry key_of floor body_at body_end start_of reached six_bits first breach splice num_at bytes_of sample
restore_after_save = (
  counted is_restore (restores 1 1 ∷ saves ∷ []) (saves ∷ []) (one_restore 1 refl (stores_both _ begin)) (λ e. omega arith),
  counted is_restore (saves ∷ []) (restores 1 1 ∷ saves ∷ []) (other_restore 1 refl (stores_both _ begin)) (λ e. omega arith),
)
