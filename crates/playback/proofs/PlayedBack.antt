-- Which events are played, and what playing leaves. Assumes nothing.
use Rattle.std.specs.Prelude.{Err}
use Rattle.octets.proofs.Kit.{ℕ, ◌+◌, ◌-◌, ◌*◌, ◌^◌, ◌≤◌, ◌<◌, ◌≡◌, refl, sym, ◌∙◌, ap, cond, List, [], ◌++◌, length, take, drop, take_at, drop_at, dec_lt, zero-add, arith, eq-eqb, ne_eqb}
use Rattle.octets.{specs.Splice.splice, proofs.Splices.splice_none}
use Rattle.sheet.{specs.Demand.breach, proofs.rules.{Demands.{told, unbroken}, First.or_else_some}}
use Rattle.device.specs.declared.Sessions.{Sessions}
use Rattle.events.specs.Events.{Event, run_by, run}
use Rattle.playback.specs.{Trace.{head, count, events_from, trace_of}, Rules.refusal_of, Playing.{at, line, log_of, due_of, room_demands, refusal_in, handled_of, played_of, Playing}}
use Rattle.playback.specs.{Refusal.number_of, Outcome.outcome_of, Event.{Due, Ran}, declared.refusal.Refusal.Refusal}
use Rattle.playback.proofs.{Walking.good_rows, Running.{events_append, length_events}, Refused.never_none}

none_left : (t : List ℕ) (from n : ℕ) → n ≡ 0 → take n (drop from (trace_of t)) ≡ events_from t from n
unfolding events_from
none_left t from n e = rw e

some_left : (t : List ℕ) (from n : ℕ) → from + n ≤ count t → take n (drop from (trace_of t)) ≡ events_from t from n
unfolding trace_of
some_left t from n h =
    let k : ℕ = count t - from - n in
    let e : count t ≡ from + (n + k) = omega arith in
    let f : events_from t 0 (count t) ≡ events_from t 0 from ++ events_from t from (n + k) =
    ap (λ (m : ℕ). events_from t 0 m) e ∙ events_append t 0 from (n + k) ∙ ap (λ (m : ℕ). events_from t 0 from ++ events_from t m (n + k)) (zero-add from) in
    ap (λ (es : List Event). take n (drop from es)) f
    ∙ ap (λ (es : List Event). take n es) (drop_at (events_from t 0 from) (events_from t from (n + k)) from (length_events t 0 from))
    ∙ ap (λ (es : List Event). take n es) (events_append t from n k)
    ∙ take_at (events_from t from n) (events_from t (from + n) k) n (length_events t from n)

-- n events that are not yet played
pub not_yet : (t : List ℕ) (from n : ℕ) → n ≤ count t - from → take n (drop from (trace_of t)) ≡ events_from t from n
not_yet t from n h = go (dec_lt (count t) from)
  where
    go : Dec (count t < from) → take n (drop from (trace_of t)) ≡ events_from t from n
    go (yes b) = none_left t from n (omega arith)
    go (no b) = some_left t from n (omega arith)

module _ (t : List ℕ) (from limit : ℕ) (log : List ℕ) where
  -- a refusal plays nothing
  none_handled : (refusal_in t from limit log ≡ 0 → ⊥) → handled_of t from limit log ≡ 0
  unfolding handled_of
  none_handled n = ap (λ b. cond b (due_of t from limit) 0) (ne_eqb (refusal_in t from limit log) 0 n)

  pub none_played : (refusal_in t from limit log ≡ 0 → ⊥) → played_of t from limit log ≡ []
  unfolding played_of
  none_played n = ap (λ (k : ℕ). take k (drop from (trace_of t))) (none_handled n)

  -- where nothing is refused, all that are due are played
  pub all_handled : refusal_in t from limit log ≡ 0 → handled_of t from limit log ≡ due_of t from limit
  unfolding handled_of
  all_handled e = ap (λ b. cond b (due_of t from limit) 0) (eq-eqb (refusal_in t from limit log) 0 e)

  pub all_played : refusal_in t from limit log ≡ 0 → played_of t from limit log ≡ events_from t from (due_of t from limit)
  unfolding played_of
  all_played e =
      ap (λ (k : ℕ). take k (drop from (trace_of t))) (all_handled e) ∙ not_yet t from (due_of t from limit) (omega arith)

  -- which refusal it is
  pub refused_trace : (r : Refusal) → number_of r ≡ refusal_of t → number_of r ≡ refusal_in t from limit log
  unfolding refusal_in
  refused_trace r e = rw (← e) (sym (or_else_some (number_of r) (breach (room_demands t from limit log)) (never_none r)))

  module _ (n : ℕ) (e : 0 ≡ refusal_of t) (d : n ≡ due_of t from limit) where
    pub refused_room : length log < line * n → 59 ≡ refusal_in t from limit log
    unfolding refusal_in
    refused_room b = rw (← e) (told 59 (room_demands t from limit log) ((λ _. refl), λ h. absurd (omega arith)))

    pub not_refused : line * n ≤ length log → 0 ≡ refusal_in t from limit log
    unfolding refusal_in
    not_refused b = rw (← e) (sym (unbroken (room_demands t from limit log) (omega arith, tt)))

    pub are_due : line * n ≤ length log → Due t from limit log n
    are_due b = record { ready = record { good = sym e; there = omega arith; room = b }; is = d }

    pub due_small : line * n < 2 ^ 64
    due_small = omega (arith, (good_rows t (sym e)).1.0)

  pub accepted : 0 ≡ refusal_of t → head ≤ length t
  accepted e = (good_rows t (sym e)).0

  module _ (q : Sessions) (s : List ℕ) where
    -- WHATEVER IS REFUSED LEAVES ALL AS IT WAS
    pub plays_refused : (r : Refusal) → number_of r ≡ refusal_in t from limit log → Playing q s t from limit log (outcome_of q (Err r)) s log
    unfolding run_by log_of
    plays_refused r e =
        let n : refusal_in t from limit log ≡ 0 → ⊥ = λ z. never_none r (e ∙ z) in
        let no = none_played n in
        record {
          refusal = e;
          handled = sym (none_handled n);
          state = sym (ap (run (at q s)) no);
          logged = sym (ap (λ (es : List Event). splice log 0 (log_of (at q s) es)) no ∙ splice_none log 0);
        }

    pub plays_all : (n : ℕ) (q' : Sessions) (s' log' : List ℕ) → 0 ≡ refusal_in t from limit log → Due t from limit log n → Ran q s t from n log q' s' log' →
        Playing q s t from limit log record { refusal = 0; handled = n; sessions = q' } s' log'
    plays_all n q' s' log' free d ran =
        let es : events_from t from n ≡ played_of t from limit log = ap (events_from t from) d.is ∙ sym (all_played (sym free)) in
        record {
          refusal = free;
          handled = d.is ∙ sym (all_handled (sym free));
          state = ran.state ∙ ap (run (at q s)) es;
          logged = ran.logged ∙ ap (λ (l : List Event). splice log 0 (log_of (at q s) l)) es;
        }

  pub due_few : (n : ℕ) → Due t from limit log n → n ≤ 512
  due_few n d = omega (arith, d.is, (good_rows t d.ready.good).1.0)
