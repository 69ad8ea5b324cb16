-- WHAT ISOLATION RULES OUT: each of the devices in which one tool can tell what the other does.
use Rattle.octets.proofs.Kit.{ℕ, ◌≡◌, refl, sym, ap, ◌∙◌, Bool, false, List, [], ◌∷◌, get_or, arith}
use Rattle.octets.{specs.{Bytes.{num_at, bytes_of}, Every.every, Splice.splice}, proofs.Truths.never}
use Rattle.sheet.specs.{Demand.breach, First.first, Head.rules_of, Entries.{entry, key_of, floor, body_at, body_end, start_of, reached, six_bits}}
use Rattle.sheet.specs.{Rules.{entry_demands, body_demands, entry_rule, body_rule, entries_rule, bodies_rule, walk_rule, rest_rule, rule_in, verdict_of}, Lookup.{seek, index_of}}
use Rattle.pdu.specs.{Table.find, Rules.{low_at, four_at, twelve_at, head_bytes}, Read.{read_pdu, data_of}, Write.encoded}
use Rattle.judge.specs.{Session.{level_of, level_in}, declared.Session.Session, Groups.{value_of, flags_at, group_read_of}, Addresses.address_read_of, Properties.{read_in, property_read_of}}
use Rattle.judge.specs.{Keys.{grant_of, authorize_of}, Judge.{reached_of, is_shut, judge_of}}
use Rattle.device.specs.{Step.{step_by, step_of}, Events.request_of, Marked.sample}
use Rattle.versions.specs.{Store.{version_at, versions_from, kept, has, body_of, is_kept, version_in}, Rules.{rows_rule, all_rows, store_rule, is_store}, Settings.restored}
use Rattle.versions.specs.{Restoring.{same_entry, low_count, same_entries, low_counts, gives_back, at_zero, restore_outcome, restore_sheet}, Example.once}
use Rattle.events.specs.Events.{Event, connect, disconnect, request, event_of}
use Rattle.history.specs.{Wish.{restart, asks}, History.{wished, is_restart}, Keeps.{Device, state_after}, Isolation.{Beside, begin, shared, one_more, other_more, same, as_long, Isolated}}
use Rattle.history.specs.Samples.{fresh}
use Rattle.history.proofs.trials.{Runs.{offering, offering_on, authorized}, Leaks.{shows_level, lowers_both, offered_on1, how_many, in_mode, is_disconnect, is_restore, showing, shows_buffer}}
use Rattle.history.proofs.trials.Leaks.{read_unconnected, read_group, read_addresses, restore_closed}

-- what the tool on connection 1 offers is no restart
offers_only : (b : ℕ) → wished (offering_on 1 b) ≡ restart → ⊥
unfolding asks read_pdu find num_at low_at
offers_only b e = let z : ◌≡◌ {A = ℕ} 0 1 = cc in omega arith

-- it connects and offers, which changes no byte
more :
    (step : Device) (b : ℕ) (h : List Event) → Beside step fresh 1 h h →
    (step fresh (connect 1 ∷ h) (state_after step fresh (connect 1 ∷ h)) (offering_on 1 b)).sheet ≡ (state_after step fresh (connect 1 ∷ h)).sheet →
    Beside step fresh 1 (offered_on1 b h) h
more step b h s e =
    one_more {e = offering_on 1 b} refl (e, λ r k. offers_only b r) (one_more {e = connect 1} refl tt s)

-- THE KEY OF LEVEL 0 OFFERED, and the answer to the next key of the tool on connection 0 has another last byte
pub level_shown : Isolated shows_level → ⊥
unfolding state_after event_of request_of step_of step_by judge_of verdict_of is_shut reached_of rules_of level_in level_of grant_of authorize_of
    asks read_pdu find data_of encoded head_bytes low_at splice
    rule_in walk_rule rest_rule entries_rule bodies_rule entry_rule body_rule body_demands entry_demands entry key_of floor body_at body_end start_of reached six_bits first breach num_at bytes_of sample
level_shown i =
    let b = more shows_level 0x11 (connect 0 ∷ []) (shared refl (same (connect 0)) begin) refl in
    let z : ◌≡◌ {A = ℕ} 0 3 = ap (λ (l : List ℕ). get_or l 3 0) ((i fresh 0 1 (λ e. omega arith) _ _ b).answer (offering 0xFF) (offering 0xFF) refl (same (offering 0xFF))) in
    omega arith

-- WHAT IS NO KEY OFFERED, and the tool on connection 0 has lost its level
pub level_lost : Isolated lowers_both → ⊥
unfolding state_after event_of request_of step_of step_by judge_of verdict_of is_shut reached_of rules_of level_in level_of grant_of authorize_of
    asks read_pdu find data_of encoded head_bytes low_at splice
    rule_in walk_rule rest_rule entries_rule bodies_rule entry_rule body_rule body_demands entry_demands entry key_of floor body_at body_end start_of reached six_bits first breach num_at bytes_of sample
level_lost i =
    let b = more lowers_both 0x33 authorized (shared refl (same (offering 0x11)) (shared refl (same (connect 0)) begin)) refl in
    let z : ◌≡◌ {A = ℕ} 3 0 = ap (λ (q : Session). q.level) (i fresh 0 1 (λ e. omega arith) _ _ b).session in
    omega arith

-- WHERE THE ANSWERS SHOW how many events of a kind came, two runs may not differ in that: the next connect of the tool on connection 0 tells them apart
counted : (p : Event → Bool) (h h' : List Event) → Beside (showing p) fresh 1 h h' → (how_many p h ≡ how_many p h' → ⊥) → Isolated (showing p) → ⊥
unfolding event_of
counted p h h' b n i =
    n (ap (λ (l : List ℕ). get_or l 0 0) ((i fresh 0 1 (λ e. omega arith) h h' b).answer (connect 0) (connect 0) refl (same (connect 0))))

-- what it reads is no restart
unlike : (e : Event) → is_restart (wished e) ≡ false → wished e ≡ restart → ⊥
unlike e k r = never (sym k ∙ ap is_restart r)

-- A CONNECTIONLESS READ of the other tool, a read to a group, a question to all
pub connectionless_shown : Isolated (showing (in_mode 2)) → ⊥
unfolding state_after event_of request_of step_of step_by judge_of verdict_of is_shut reached_of rules_of level_in level_of property_read_of read_in seek index_of
    asks read_pdu find data_of encoded head_bytes low_at four_at twelve_at splice
    rule_in walk_rule rest_rule entries_rule bodies_rule entry_rule body_rule body_demands entry_demands entry key_of floor body_at body_end start_of reached six_bits first breach num_at bytes_of sample
connectionless_shown =
    counted (in_mode 2) (read_unconnected ∷ []) [] (one_more {e = read_unconnected} refl (refl, λ r k. unlike read_unconnected refl r) begin) (λ e. omega arith)

pub group_shown : Isolated (showing (in_mode 0)) → ⊥
unfolding state_after event_of request_of step_of step_by judge_of verdict_of is_shut reached_of rules_of level_in level_of value_of flags_at group_read_of seek index_of
    asks read_pdu find data_of encoded head_bytes low_at four_at twelve_at splice
    rule_in walk_rule rest_rule entries_rule bodies_rule entry_rule body_rule body_demands entry_demands entry key_of floor body_at body_end start_of reached six_bits first breach num_at bytes_of sample
group_shown =
    counted (in_mode 0) (read_group ∷ []) [] (one_more {e = read_group} refl (refl, λ r k. unlike read_group refl r) begin) (λ e. omega arith)

pub broadcast_shown : Isolated (showing (in_mode 1)) → ⊥
unfolding state_after event_of request_of step_of step_by judge_of verdict_of is_shut reached_of rules_of level_in level_of address_read_of
    asks read_pdu find data_of encoded head_bytes low_at four_at twelve_at splice
    rule_in walk_rule rest_rule entries_rule bodies_rule entry_rule body_rule body_demands entry_demands entry key_of floor body_at body_end start_of reached six_bits first breach num_at bytes_of sample
broadcast_shown =
    counted (in_mode 1) (read_addresses ∷ []) [] (one_more {e = read_addresses} refl (refl, λ r k. unlike read_addresses refl r) begin) (λ e. omega arith)

-- ITS DISCONNECT, in either run
pub disconnect_shown : (Isolated (showing is_disconnect) → ⊥) × (Isolated (showing is_disconnect) → ⊥)
disconnect_shown = (
  counted is_disconnect (disconnect 1 ∷ []) [] (one_more {e = disconnect 1} refl tt begin) (λ e. omega arith),
  counted is_disconnect [] (disconnect 1 ∷ []) (other_more {e = disconnect 1} refl tt begin) (λ e. omega arith),
)

-- ITS RESTORE, which is refused
pub restore_shown : Isolated (showing is_restore) → ⊥
unfolding state_after event_of restore_outcome restore_sheet restored body_of has is_kept version_in every same_entry low_count same_entries low_counts gives_back at_zero version_at versions_from kept
    rows_rule all_rows store_rule is_store once verdict_of rule_in walk_rule rest_rule entries_rule bodies_rule entry_rule body_rule body_demands entry_demands
    entry key_of floor body_at body_end start_of reached six_bits first breach num_at sample
restore_shown =
    counted is_restore (restore_closed ∷ []) [] (one_more {e = restore_closed} refl refl begin) (λ e. omega arith)

-- WHAT THE ANSWER BUFFER HELD
pub buffer_shown : Isolated shows_buffer → ⊥
unfolding state_after request_of step_of step_by judge_of verdict_of is_shut reached_of rules_of read_pdu
    rule_in walk_rule rest_rule entries_rule bodies_rule entry_rule body_rule body_demands entry_demands entry key_of floor body_at body_end start_of reached six_bits first breach num_at sample
buffer_shown i =
    let z : ◌≡◌ {A = ℕ} 0 1 =
    ap (λ (l : List ℕ). get_or l 0 0)
    ((i fresh 0 1 (λ e. omega arith) [] [] begin).answer (request 3 0 0 [] (0 ∷ [])) (request 3 0 0 [] (1 ∷ [])) refl (as_long refl))
    in
    omega arith
