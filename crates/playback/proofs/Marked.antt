-- The events of a trace one after the other, and their marks; which refusal is due. Assumes nothing.
use Rattle.std.specs.Prelude.{Err}
use Rattle.octets.proofs.Kit.{ℕ, ◌+◌, ◌-◌, ◌*◌, ◌≤◌, ◌<◌, ◌≡◌, refl, sym, ◌∙◌, ap, subst, Bool, cond, List, [], ◌∷◌, ◌++◌, append-nil, length, get_or, take, drop, drop_of_length-le, arith}
use Rattle.octets.proofs.Kit.{eq-eqb, ne_eqb}
use Rattle.octets.{specs.Splice.splice, proofs.Splices.{splice_front, splice_none}}
use Rattle.sheet.{specs.Demand.Tells, proofs.rules.{Demands.{told, met}, First.or_else_some}}
use Rattle.device.specs.{Events.State, declared.{Sessions.Sessions, Made.Made}}
use Rattle.events.specs.Events.{Event, run_by, run}
use Rattle.account.{specs.Marks.{both, MarkedRun, Markable, Marked}, proofs.Marking.{marked_none, marked_append, marked_one}}
use Rattle.playback.specs.{Trace.{event_at, events_from, trace_of}, Playing.{at, line, log_of, due_of, refusal_in}}
use Rattle.playback.specs.{Marking.{mark_demands, mark_refusal, mark_handled, mark_played, Marking}, Event.{Logged, Ready, Roomy, MarkedEvent, RanMarked, Due}, Refusal.number_of, Outcome.outcome_of, declared.refusal.Refusal.Refusal}
use Rattle.playback.proofs.{Running.{Going, goes_begin, goes_on, goes_end, events_append, events_one, length_events}}
use Rattle.playback.proofs.PlayedBack.{not_yet}
use Rattle.playback.proofs.Refused.{never_none}

-- ONE EVENT
module _ (q : Sessions) (s t : List ℕ) (i played : ℕ) (b m : List ℕ) (room : Roomy s 1 played b m) (r : Made) (s₁ l : List ℕ) (h : Logged q s t i r s₁ l) (same : length s₁ ≡ length s) where
  pub markable : Markable b s₁ r.changed m
  markable =
      record {
        long = ap length room.seen ∙ sym same;
        marks = room.marks ∙ ap (λ (k : ℕ). k + both) (sym same);
        first = omega (arith, h.named.first, same);
        second = omega (arith, h.named.second, same);
        outside = λ p o. h.named.outside p o ∙ sym (ap (λ (x : List ℕ). get_or x p 0) room.seen);
      }

  pub event_marked : (b₁ m₁ : List ℕ) → Marked q r.done.sessions (played + 1) s₁ b m b₁ m₁ → MarkedEvent q s t i played m r.done.sessions s₁ l b₁ m₁
  event_marked b₁ m₁ k =
      record {
        state = h.state;
        line = h.line;
        seen = k.seen;
        marks =
            marked_one (at q s) (at r.done.sessions s₁) (event_at t i) h.state played m b₁ m₁ same
            (subst (λ (x : List ℕ). Marked q r.done.sessions (played + 1) s₁ x m b₁ m₁) room.seen k);
      }

-- THE INVARIANT: what j events have made of state, log and marks
pub record Marched (q : Sessions) (s t : List ℕ) (from n : ℕ) (log : List ℕ) (played : ℕ) (m : List ℕ) (j : ℕ) (r : Sessions) (s' log' b' m' : List ℕ) : Type 0 where
  pub going : Going q s t from n log j r s' log'
  pub seen : b' ≡ s'
  pub marks : MarkedRun (at q s) (events_from t from j) played (length s) m m'

module _ (q : Sessions) (s t : List ℕ) (from n : ℕ) (log : List ℕ) (played : ℕ) (b m : List ℕ) (ready : Ready t from n log) (room : Roomy s n played b m) where
  pub march_begin : Marched q s t from n log played m 0 q s log b m
  unfolding events_from
  march_begin = record { going = goes_begin q s t from n log; seen = room.seen; marks = marked_none (at q s) played (length s) m }

  module _ (j : ℕ) (r : Sessions) (s₁ log₁ b₁ m₁ : List ℕ) (g : Marched q s t from n log played m j r s₁ log₁ b₁ m₁) where
    -- the next event has room
    pub roomy_next : j < n → Roomy s₁ 1 (played + j) b₁ m₁
    roomy_next h =
        record {
          seen = g.seen;
          marks = g.marks.same ∙ room.marks ∙ ap (λ (k : ℕ). k + both) (sym g.going.same);
          numbers = omega (arith, room.numbers);
        }

    pub seen_same : length b₁ ≡ length b
    seen_same = ap length g.seen ∙ g.going.same ∙ sym (ap length room.seen)

    pub march_on :
        (r' : Sessions) (s₂ l b₂ m₂ : List ℕ) → j < n → MarkedEvent r s₁ t (from + j) (played + j) m₁ r' s₂ l b₂ m₂ → length s₂ ≡ length s₁ →
        Marched q s t from n log played m (j + 1) r' s₂ (take (line * j) log₁ ++ (l ++ drop (line * j + line - line * j) (drop (line * j) log₁))) b₂ m₂
    march_on r' s₂ l b₂ m₂ h e u =
        let x : State = at q s in
        let es : List Event = events_from t from j in
        let many : length es ≡ j = length_events t from j in
        let one : MarkedRun (run x es) (event_at t (from + j) ∷ []) (played + length es) (length s) m₁ m₂ =
        subst (λ (k : ℕ). MarkedRun (run x es) (event_at t (from + j) ∷ []) (played + k) (length s) m₁ m₂) (sym many)
        (subst (λ (k : ℕ). MarkedRun (run x es) (event_at t (from + j) ∷ []) (played + j) k m₁ m₂) g.going.same
        (subst (λ (y : State). MarkedRun y (event_at t (from + j) ∷ []) (played + j) (length s₁) m₁ m₂) g.going.state e.marks)) in
        record {
          going = goes_on q s t from n log ready j r s₁ log₁ g.going r' s₂ l h e.state e.line u;
          seen = e.seen;
          marks =
              subst (λ (fs : List Event). MarkedRun x fs played (length s) m m₂)
              (sym (events_append t from j 1 ∙ ap (λ (fs : List Event). es ++ fs) (events_one t (from + j))))
              (marked_append x played (length s) m es (event_at t (from + j) ∷ []) g.marks one);
        }

    pub march_end : n ≤ j → RanMarked q s t from n log played m r s₁ log₁ b₁ m₁
    march_end h =
        let e : j ≡ n = omega (arith, g.going.within) in
        record {
          ran = goes_end q s t from n log ready j r s₁ log₁ g.going h;
          seen = g.seen;
          marks = subst (λ (k : ℕ). MarkedRun (at q s) (events_from t from k) played (length s) m m₁) e g.marks;
        }

-- WHICH REFUSAL IS DUE
module _ (s t : List ℕ) (from limit : ℕ) (log : List ℕ) (played : ℕ) (b m : List ℕ) where
  abbrev refusal : ℕ
  refusal = mark_refusal s t from limit log played b m

  behind : (refusal_in t from limit log ≡ 0 → ⊥) → refusal ≡ refusal_in t from limit log
  unfolding mark_refusal
  behind n = or_else_some (refusal_in t from limit log) _ n

  marks_refused : (n rule : ℕ) → refusal_in t from limit log ≡ 0 → n ≡ due_of t from limit → Tells rule (mark_demands (length s) n played (length b) (length m)) → rule ≡ refusal
  unfolding mark_refusal
  marks_refused n rule e d h =
      rw e (told rule (mark_demands (length s) (due_of t from limit) played (length b) (length m)) (subst (λ (k : ℕ). Tells rule (mark_demands (length s) k played (length b) (length m))) d h))

  -- a refusal plays nothing, and where there is none all that are due are played
  none_marked : (refusal ≡ 0 → ⊥) → (mark_handled s t from limit log played b m ≡ 0) × (mark_played s t from limit log played b m ≡ [])
  unfolding mark_handled mark_played
  none_marked n =
      let e = ap (λ (x : Bool). cond x (due_of t from limit) 0) (ne_eqb refusal 0 n) in
      (e, ap (λ (k : ℕ). take k (drop from (trace_of t))) e)

  all_marked : refusal ≡ 0 → (mark_handled s t from limit log played b m ≡ due_of t from limit) × (mark_played s t from limit log played b m ≡ events_from t from (due_of t from limit))
  unfolding mark_handled mark_played
  all_marked z =
      let e = ap (λ (x : Bool). cond x (due_of t from limit) 0) (eq-eqb refusal 0 z) in
      (e, ap (λ (k : ℕ). take k (drop from (trace_of t))) e ∙ not_yet t from (due_of t from limit) (omega arith))

  module _ (q : Sessions) where
    -- WHATEVER IS REFUSED LEAVES ALL AS IT WAS
    unmarked : (r : Refusal) → number_of r ≡ refusal → Marking q s t from limit log played b m (outcome_of q (Err r)) s log b m
    unfolding run_by log_of
    unmarked r e =
        let no = none_marked (λ z. never_none r (e ∙ z)) in
        record {
          refusal = e;
          handled = sym no.0;
          state = sym (ap (run (at q s)) no.1);
          logged = sym (ap (λ (es : List Event). splice log 0 (log_of (at q s) es)) no.1 ∙ splice_none log 0);
          marks = subst (λ (es : List Event). MarkedRun (at q s) es played (length s) m m) (sym no.1) (marked_none (at q s) played (length s) m);
          seen = λ z. absurd (never_none r z);
          unseen = λ z. refl;
          untouched = λ z. refl;
        }

    pub marking_refused : (r : Refusal) → number_of r ≡ refusal_in t from limit log → Marking q s t from limit log played b m (outcome_of q (Err r)) s log b m
    marking_refused r e = unmarked r (e ∙ sym (behind (λ z. never_none r (e ∙ z))))

    module _ (n : ℕ) (free : 0 ≡ refusal_in t from limit log) (d : Due t from limit log n) where
      pub marking_no_marks :
          (r : Refusal) → Tells (number_of r) (mark_demands (length s) n played (length b) (length m)) → Marking q s t from limit log played b m (outcome_of q (Err r)) s log b m
      marking_no_marks r w = unmarked r (marks_refused n (number_of r) (sym free) d.is w)

      pub marking_all :
          (q' : Sessions) (s' log' b' m' : List ℕ) → Tells 0 (mark_demands (length s) n played (length b) (length m)) → RanMarked q s t from n log played m q' s' log' b' m' →
          Marking q s t from limit log played b m record { refusal = 0; handled = n; sessions = q' } s' log' b' m'
      marking_all q' s' log' b' m' w ran =
          let none : refusal ≡ 0 = sym (marks_refused n 0 (sym free) d.is w) in
          let all = all_marked none in
          let es : events_from t from n ≡ mark_played s t from limit log played b m = ap (events_from t from) d.is ∙ sym all.1 in
          record {
            refusal = sym none;
            handled = d.is ∙ sym all.0;
            state = ran.ran.state ∙ ap (run (at q s)) es;
            logged = ran.ran.logged ∙ ap (λ (l : List Event). splice log 0 (log_of (at q s) l)) es;
            marks = subst (λ (l : List Event). MarkedRun (at q s) l played (length s) m m') es ran.marks;
            seen = λ y. ran.seen;
            unseen = λ y. absurd (y refl);
            untouched = λ y. absurd (y refl);
          }

-- where nothing is refused there is room
pub seen_fits : (k n played b m : ℕ) → Tells 0 (mark_demands k n played b m) → 0 + k ≤ b
seen_fits k n played b m w = omega (arith, (met (mark_demands k n played b m) tt (sym (told 0 (mark_demands k n played b m) w))).0)

pub roomy :
    (s : List ℕ) (n played : ℕ) (b m : List ℕ) (b₁ : List ℕ) → Tells 0 (mark_demands (length s) n played (length b) (length m)) → b₁ ≡ splice b 0 s → Roomy s n played b₁ m
roomy s n played b m b₁ w e =
    let k = met (mark_demands (length s) n played (length b) (length m)) tt (sym (told 0 (mark_demands (length s) n played (length b) (length m)) w)) in
    record {
      seen = e ∙ splice_front b s ∙ ap (λ (l : List ℕ). s ++ l) (drop_of_length-le b {i = length s} (omega (arith, k.0))) ∙ append-nil s;
      marks = k.1.0;
      numbers = k.1.1.0;
    }
