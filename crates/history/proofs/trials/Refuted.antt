-- WHAT DEMAND 3 RULES OUT: each of the wrong devices, since after its run its state is not ours.
use Rattle.octets.proofs.Kit.{◌≡◌, refl, sym, ap, ◌∙◌, Bool, true, ◌&&◌, not, List, [], ◌∷◌, eqb, eq-eqb, eqb-true}
use Rattle.octets.{specs.{Bytes.{num_at, bytes_of}, Every.every, Splice.splice}, proofs.Truths.{never, and_is}}
use Rattle.sheet.specs.{Demand.breach, First.first, Entries.{entry, key_of, floor, body_at, body_end, start_of, reached, six_bits}}
use Rattle.sheet.specs.Rules.{entry_demands, body_demands, entry_rule, body_rule, entries_rule, bodies_rule, walk_rule, rest_rule, rule_in, verdict_of, is_accepted}
use Rattle.sheet.specs.{Lookup.{seek, index_of, covers, place_of, common, range_of}, Head.rules_of}
use Rattle.pdu.specs.{Table.find, Rules.{low_at, four_at, twelve_at, head_bytes}, Read.{read_pdu, data_of}, Write.encoded}
use Rattle.judge.specs.{Session.{level_of, level_in}, declared.Session.Session, Properties.{write_in, property_write_of}, Memory.{change_of, memory_write_of}}
use Rattle.judge.specs.{Keys.{grant_of, authorize_of, key_write_of, restart_of}, Judge.{reached_of, is_shut, judge_of}}
use Rattle.device.{specs.{Step.{step_by, step_of}, Events.{State, request_of, bit}, Marked.sample, Pump.pump}, proofs.leaves.Octet.{is_bytes, octets_by}}
use Rattle.versions.specs.{Store.{version_at, versions_from, kept, has, body_of, is_kept, version_in}, Rules.{rows_rule, all_rows, store_rule, is_store}, Settings.restored}
use Rattle.versions.specs.{Restoring.{same_entry, low_count, same_entries, low_counts, gives_back, at_zero, restore_outcome, restore_sheet}, Example.once}
use Rattle.events.specs.Events.{Event, connect, disconnect, button, request, restore, event_of}
use Rattle.history.specs.{Span.same, Wish.{asks, brings}, Permit.{heard, level_for, region_for, may_write, in_range, index_for, entry_for, allowed}}
use Rattle.history.specs.{History.{First, first_of, key_in, opened, level, content, permitted}, Keeps.{Begins, AllOctets, Keeps, state_after}, Rightful.ours}
use Rattle.history.proofs.{promises.{Keep.keeps, Pinned.pinned}, spans.Spans.same_so, trials.Wrong.{Witness, wrongs}}

-- bytes, by one test
abbrev brings_bytes : Event → Bool
brings_bytes (connect c) = true
brings_bytes (disconnect c) = true
brings_bytes (button on) = true
brings_bytes (request mode c g a out) = is_bytes a
brings_bytes (restore c n st) = is_bytes st

abbrev all_bytes : List Event → Bool
all_bytes [] = true
all_bytes (e ∷ h) = brings_bytes e && all_bytes h

octets_all : (h : List Event) → all_bytes h ≡ true → AllOctets h
octets_all [] e = tt
octets_all (connect c ∷ h) e = (tt, octets_all h e)
octets_all (disconnect c ∷ h) e = (tt, octets_all h e)
octets_all (button on ∷ h) e = (tt, octets_all h e)
octets_all (request mode c g a out ∷ h) e =
    let b = (and_is (is_bytes a) (all_bytes h)).0 e in
    (octets_by a b.0, octets_all h b.1)
octets_all (restore c n st ∷ h) e =
    let b = (and_is (is_bytes st) (all_bytes h)).0 e in
    (octets_by st b.0, octets_all h b.1)

-- one session, one state, by one test
abbrev same_session : Session → Session → Bool
same_session q r = eqb (bit q.opened) (bit r.opened) && eqb q.level r.level

same_session_lem : (q : Session) → same_session q q ≡ true
same_session_lem q =
    let o = bit q.opened in
    let l = q.level in
    (and_is (eqb o o) (eqb l l)).1 (eq-eqb o o refl, eq-eqb l l refl)

abbrev same_state : State → State → Bool
same_state x y =
    same_session x.sessions.first y.sessions.first &&
    (same_session x.sessions.second y.sessions.second && same x.sheet y.sheet)

same_state_lem : (x : State) → same_state x x ≡ true
same_state_lem x =
    let q = x.sessions.first in
    let r = x.sessions.second in
    (and_is (same_session q q) (same_session r r && same x.sheet x.sheet)).1
    (same_session_lem q, (and_is (same_session r r) (same x.sheet x.sheet)).1 (same_session_lem r, same_so x.sheet))

-- a first sheet of bytes that is accepted, by one test
abbrev is_first : First → Bool
is_first f = is_bytes f.sheet && is_accepted f.sheet

begins_by : (f : First) → is_first f ≡ true → Begins f
unfolding is_accepted
begins_by f e =
    let b = (and_is (is_bytes f.sheet) (is_accepted f.sheet)).0 e in
    record { octets = octets_by f.sheet b.0; accepted = eqb-true (verdict_of f.sheet) 0 b.1 }

-- A WITNESS begins so, brings bytes and leaves another state than ours
abbrev tells : Witness → Bool
tells w =
    is_first w.first &&
    (all_bytes w.events && not (same_state (state_after w.device w.first w.events) (state_after ours w.first w.events)))

-- and so refutes its device
refuted : (w : Witness) → tells w ≡ true → Keeps w.device → ⊥
refuted w e k =
    let X : State = state_after w.device w.first w.events in
    let Y : State = state_after ours w.first w.events in
    let a = (and_is (is_first w.first) (all_bytes w.events && not (same_state X Y))).0 e in
    let b = (and_is (all_bytes w.events) (not (same_state X Y))).0 a.1 in
    let s : X ≡ Y = pinned w.device ours k keeps w.first w.events (begins_by w.first a.0) (octets_all w.events b.0) in
    let t : same_state X Y ≡ true = sym (ap (same_state X) s) ∙ same_state_lem X in
    never (sym (ap not t) ∙ b.1)

abbrev tell_all : List Witness → Bool
tell_all [] = true
tell_all (w ∷ ws) = tells w && tell_all ws

-- EACH OF THEM IS REFUTED
abbrev pub Each : List Witness → Type 0
Each [] = Unit
Each (w ∷ ws) = (Keeps w.device → ⊥) × Each ws

each : (ws : List Witness) → tell_all ws ≡ true → Each ws
each [] e = tt
each (w ∷ ws) e = let b = (and_is (tells w) (tell_all ws)).0 e in (refuted w b.0, each ws b.1)

-- by computation
told : tell_all wrongs ≡ true
unfolding state_after event_of request_of step_of step_by judge_of verdict_of is_accepted is_shut reached_of rules_of level_in level_of grant_of
    authorize_of key_write_of restart_of change_of memory_write_of write_in property_write_of
    permitted opened level content first_of key_in heard level_for allowed every region_for may_write in_range index_for entry_for
    asks brings read_pdu find data_of encoded head_bytes low_at four_at twelve_at seek index_of covers place_of common range_of splice
    rule_in walk_rule rest_rule entries_rule bodies_rule entry_rule body_rule body_demands entry_demands entry key_of floor body_at body_end start_of reached six_bits first breach num_at bytes_of sample pump
    restore_outcome restore_sheet restored body_of has is_kept version_in same_entry low_count same_entries low_counts gives_back at_zero version_at versions_from kept
    rows_rule all_rows store_rule is_store once
told = refl

pub wrongs_refuted : Each wrongs
wrongs_refuted = each wrongs told
