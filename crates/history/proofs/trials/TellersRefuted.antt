-- WHAT `Unlearned` RULES OUT: each of the tellers, by one request of a tool that has just connected, on two sheets that differ in what level 0 alone may read.
use Rattle.octets.proofs.Kit.{ℕ, ◌+◌, ◌<◌, ◌≤◌, ◌≡◌, refl, sym, ap, ◌∙◌, Bool, true, ◌&&◌, not, List, [], ◌∷◌, leb, eqb, length, get_or, take, dec_lt, arith, eq-eqb, leb-true}
use Rattle.octets.{specs.{Bytes.{num_at, bytes_of}, Splice.splice}, proofs.{Splices.{length_splice, splice_below, splice_above}, Truths.{never, and_is}}}
use Rattle.sheet.specs.{Demand.breach, First.first, Head.rules_of, Entries.{entry, contents, key_of, floor, body_at, body_end, start_of, reached, six_bits}}
use Rattle.sheet.specs.Rules.{entry_demands, body_demands, entry_rule, body_rule, entries_rule, bodies_rule, walk_rule, rest_rule, rule_in, verdict_of}
use Rattle.sheet.{specs.{Lookup.{seek, index_of, covers, place_of, common, range_of, object_at, rank, nth_of}, declared.Memory.TheVariants.Device}, proofs.{rules.Good.good, alike.Buts.part_but}}
use Rattle.pdu.specs.{Table.find, Rules.{low_at, four_at, twelve_at, head_bytes}, Read.{read_pdu, data_of}, Write.encoded}
use Rattle.judge.specs.{Session.{level_of, level_in}, Properties.{read_in, property_read_of, write_in, property_write_of, described_at, description_of}}
use Rattle.judge.specs.{Memory.{memory_read_of, change_of, memory_write_of, bit_write_of}, Judge.{reached_of, is_shut, judge_of}}
use Rattle.device.{specs.{Carry.{build, bit_at}, Step.{step_by, step_of}, Events.{Effect, request_of}}, proofs.leaves.Octet.{is_bytes, octets_by}}
use Rattle.events.specs.Events.{Event, connect, event_of}
use Rattle.history.specs.{Span.same, Wish.asks, Permit.{index_for, entry_for}, History.First, Keeps.{state_after, Begins}, Keyless.{Unlocks, offers, Locked}}
use Rattle.history.specs.Secret.{Secret, of_memory, of_property, Hide, NoneBelow, none, more, NothingTold, Unlearned}
use Rattle.history.specs.Isolation as isolation
use Rattle.history.proofs.{promises.{Keyless.all_shut, NothingShown.secret_after}, spans.Spans.same_so, trials.{Runs.sent, Tellers.{guarded, other_secrets, Teller, tellers, one, two}}}

-- both are accepted
begins_one : Begins one
unfolding guarded verdict_of rule_in walk_rule rest_rule entries_rule bodies_rule entry_rule body_rule body_demands entry_demands entry key_of floor body_at body_end start_of reached six_bits first breach num_at
begins_one = record { octets = octets_by guarded refl; accepted = refl }

begins_two : Begins two
unfolding guarded splice verdict_of rule_in walk_rule rest_rule entries_rule bodies_rule entry_rule body_rule body_demands entry_demands
    entry key_of floor body_at body_end start_of reached six_bits first breach num_at
begins_two = record { octets = octets_by other_secrets refl; accepted = refl }

-- the three bytes are secret to every level but 0
secret_at : (p : ℕ) → 52 ≤ p → p < 55 → Secret guarded 3 p
unfolding guarded entry num_at body_at body_end
secret_at p l h = go (dec_lt p 53)
  where
    go : Dec (p < 53) → Secret guarded 3 p
    go (yes m) = of_memory Device 0 (record { kind = omega arith; below = omega arith; from = l; to = m }) (omega arith)
    go (no m) = of_property 0 (record { kind = omega arith; below = omega arith; from = omega arith; to = h }) (omega arith)

-- so the two sheets hide them
within : 55 ≤ length guarded
unfolding guarded
within = omega arith

pub hidden : Hide 3 guarded other_secrets
hidden =
    record {
      accepted = begins_one.accepted;
      accepted' = begins_two.accepted;
      others = record { long = length_splice guarded 52 _ within; others = λ p n. at p n (dec_lt p 52) (dec_lt p 55) };
    }
  where
    at : (p : ℕ) → (Secret guarded 3 p → ⊥) → Dec (p < 52) → Dec (p < 55) → get_or other_secrets p 0 ≡ get_or guarded p 0
    at p n (yes l) d = splice_below guarded 52 _ within p l
    at p n (no l) (yes m) = absurd (n (secret_at p (omega arith) m))
    at p n (no l) (no m) = splice_above guarded 52 _ within p (omega arith)

-- a tool that has just connected has offered nothing
no_offer : (f : First) (l c d : ℕ) (e : Event) → e ≡ connect d → Unlocks f [] l c e → ⊥
no_offer f l c d _ q (offers k m h s) = let z : ◌≡◌ {A = ℕ} 0 1 = cc in omega arith

locked : (c : ℕ) → Locked one 2 c (connect 0 ∷ [])
locked c = (no_offer one 2 c 0 (connect 0) refl, tt)

weak : (e : Event) → NoneBelow 3 one (e ∷ connect 0 ∷ [])
weak e = (
  λ c o. omega (arith, (all_shut 2 (omega arith) one (refl, refl) (connect 0 ∷ []) (locked 0) (locked 1) c).rights o),
  (λ c o. omega (arith, (all_shut 2 (omega arith) one (refl, refl) [] tt tt c).rights o), tt),
)

-- what a teller gives on each sheet
abbrev gives : Teller → First → Effect
gives w f = w.device f (connect 0 ∷ []) (state_after w.device f (connect 0 ∷ [])) (sent w.apdu)

-- A TELLER gives another outcome or answer, or leaves another byte before the bodies
abbrev Alike : Effect → Effect → Bool
Alike r t =
    eqb t.outcome r.outcome && (same t.answer r.answer && same (take 52 t.sheet) (take 52 r.sheet))

abbrev tells : Teller → Bool
tells w =
    is_bytes w.apdu && (leb 52 (contents (gives w one).sheet) && not (Alike (gives w one) (gives w two)))

-- which is told nothing
told_nothing : (r t : Effect) → 52 ≤ contents r.sheet → NothingTold 3 r t → Alike r t ≡ true
told_nothing r t c n =
    let b = n.sheet in
    let o : eqb t.outcome r.outcome ≡ true = eq-eqb _ _ n.outcome in
    let a : same t.answer r.answer ≡ true = rw n.answer (same_so r.answer) in
    let e : take 52 t.sheet ≡ take 52 r.sheet =
    part_but b.others 0 52 (λ j l x. omega (arith, secret_after (good r.sheet b.accepted) 3 (0 + j) x)) in
    let s : same (take 52 t.sheet) (take 52 r.sheet) ≡ true = rw e (same_so (take 52 r.sheet)) in
    (and_is (eqb t.outcome r.outcome) _).1 (o, (and_is (same t.answer r.answer) _).1 (a, s))

refuted : (w : Teller) → tells w ≡ true → Unlearned w.device → ⊥
refuted w e u =
    let a = (and_is (is_bytes w.apdu) (leb 52 (contents (gives w one).sheet) && not (Alike (gives w one) (gives w two)))).0 e in
    let b = (and_is (leb 52 (contents (gives w one).sheet)) (not (Alike (gives w one) (gives w two)))).0 a.1 in
    let z = u 3 (omega arith) one two begins_one begins_two refl hidden (sent w.apdu ∷ connect 0 ∷ []) (sent w.apdu ∷ connect 0 ∷ [])
    (more (isolation.same (sent w.apdu)) (more (isolation.same (connect 0)) none)) (octets_by w.apdu a.0, (tt, tt)) (weak (sent w.apdu)) in
    never (sym (ap not (told_nothing (gives w one) (gives w two) (leb-true _ _ b.0) z.0)) ∙ b.1)

abbrev tell_all : List Teller → Bool
tell_all [] = true
tell_all (w ∷ ws) = tells w && tell_all ws

-- EACH OF THEM IS REFUTED
abbrev pub Each : List Teller → Type 0
Each [] = Unit
Each (w ∷ ws) = (Unlearned w.device → ⊥) × Each ws

each : (ws : List Teller) → tell_all ws ≡ true → Each ws
each [] e = tt
each (w ∷ ws) e = let b = (and_is (tells w) (tell_all ws)).0 e in (refuted w b.0, each ws b.1)

-- by computation
told : tell_all tellers ≡ true
unfolding state_after event_of request_of step_of step_by judge_of verdict_of is_shut reached_of rules_of level_in level_of
    memory_read_of change_of memory_write_of bit_write_of build bit_at read_in property_read_of write_in property_write_of described_at description_of
    index_for entry_for asks read_pdu find data_of encoded head_bytes low_at four_at twelve_at seek index_of object_at rank nth_of covers place_of common range_of splice
    rule_in walk_rule rest_rule entries_rule bodies_rule entry_rule body_rule body_demands entry_demands entry key_of floor body_at body_end start_of reached six_bits first breach num_at bytes_of guarded
told = refl

pub tellers_refuted : Each tellers
tellers_refuted = each tellers told
