-- The events of a trace one after the other: what they leave, and their log. Assumes nothing.
use Rattle.octets.proofs.Kit.{ℕ, zero, suc, ◌+◌, ◌-◌, ◌*◌, ◌≤◌, ◌<◌, ◌≡◌, refl, sym, ◌∙◌, ap, ap₂, subst, Bool, true, List, [], ◌∷◌, ◌++◌, append_assoc, append-nil, length, take, drop}
use Rattle.octets.proofs.Kit.{length-append, length-take, length-drop, drop-drop, add-zero, zero-add, arith}
use Rattle.octets.{specs.Splice.splice, proofs.Splices.{splice_more, splice_none, length_splice}}
use Rattle.sheet.specs.Rules.{Accepted}
use Rattle.device.specs.{Events.State, declared.Sessions.Sessions}
use Rattle.events.{specs.Events.{Event, event_of, after, run_by, run}, proofs.promises.{Append.run_append, Stays.stays}}
use Rattle.playback.specs.{Trace.{count, event_at, events_from}, Rules.Playable, Playing.{at, line, line_of, log_of}, Event.{Ready, Ran}}
use Rattle.playback.proofs.{Walking.good_rows, Logging.length_line}

-- events one after the other
pub events_append : (t : List ℕ) (i m n : ℕ) → events_from t i (m + n) ≡ events_from t i m ++ events_from t (i + m) n
unfolding events_from
events_append t i zero n = rw (zero-add n, add-zero i)
events_append t i (suc m) n =
    let e : suc m + n ≡ suc (m + n) = omega arith in
    let f : i + 1 + m ≡ i + suc m = omega arith in
    ap (λ (k : ℕ). events_from t i k) e ∙ ap (λ (es : List Event). event_at t i ∷ es) (events_append t (i + 1) m n ∙ ap (λ (k : ℕ). events_from t (i + 1) m ++ events_from t k n) f)

pub events_one : (t : List ℕ) (i : ℕ) → events_from t i 1 ≡ event_at t i ∷ []
unfolding events_from
events_one t i = refl

pub length_events : (t : List ℕ) (i n : ℕ) → length (events_from t i n) ≡ n
unfolding events_from
length_events t i zero = refl
length_events t i (suc n) = omega (arith, length_events t (i + 1) n)

-- the log of two lists of events is one log after the other
pub log_append : (x : State) (es fs : List Event) → log_of x (es ++ fs) ≡ log_of x es ++ log_of (run x es) fs
unfolding log_of run_by
log_append x [] fs = refl
log_append x (e ∷ es) fs =
    ap (λ (l : List ℕ). line_of (event_of x e) ++ l) (log_append (after x e) es fs)
    ∙ sym (append_assoc (line_of (event_of x e)) (log_of (after x e) es) (log_of (run (after x e) es) fs))

pub length_log : (x : State) (es : List Event) → length (log_of x es) ≡ line * length es
unfolding log_of
length_log x [] = refl
length_log x (e ∷ es) =
    length-append (line_of (event_of x e)) (log_of (after x e) es) ∙ omega (arith, length_line x e, length_log (after x e) es)

-- THE INVARIANT: what j events from `from` on have made of the state that was, and their log
pub record Going (q : Sessions) (s t : List ℕ) (from n : ℕ) (log : List ℕ) (j : ℕ) (r : Sessions) (s' log' : List ℕ) : Type 0 where
  pub within : j ≤ n
  pub state : at r s' ≡ run (at q s) (events_from t from j)
  pub logged : log' ≡ splice log 0 (log_of (at q s) (events_from t from j))
  pub long : length log' ≡ length log
  pub same : length s' ≡ length s

-- an accepted sheet is accepted after any events
run_stays : (x : State) (es : List Event) → Accepted x.sheet → Accepted (run x es).sheet
unfolding run_by
run_stays x [] ok = ok
run_stays x (e ∷ es) ok = run_stays (after x e) es (stays x e ok)

pub known_goes : (q : Sessions) (s t : List ℕ) (from n : ℕ) (log : List ℕ) (j : ℕ) (r : Sessions) (s₁ log₁ : List ℕ) (k : Bool)
    → (k ≡ true → Accepted s) → Going q s t from n log j r s₁ log₁ → k ≡ true → Accepted s₁
known_goes q s t from n log j r s₁ log₁ k h g e =
    subst (λ (y : State). Accepted y.sheet) (sym g.state) (run_stays (at q s) (events_from t from j) (h e))

module _ (q : Sessions) (s t : List ℕ) (from n : ℕ) (log : List ℕ) where
  pub goes_begin : Going q s t from n log 0 q s log
  unfolding events_from run_by log_of
  goes_begin = record { within = omega arith; state = refl; logged = sym (splice_none log 0); long = refl; same = refl }

  module _ (ready : Ready t from n log) (j : ℕ) (r : Sessions) (s₁ log₁ : List ℕ) (g : Going q s t from n log j r s₁ log₁) where
    abbrev x : State
    x = at q s

    abbrev es : List Event
    es = events_from t from j

    many : length (log_of x es) ≡ line * j
    many = length_log x es ∙ ap (λ (k : ℕ). line * k) (length_events t from j)

    next : events_from t from (j + 1) ≡ es ++ (event_at t (from + j) ∷ [])
    next = events_append t from j 1 ∙ ap (λ (l : List Event). es ++ l) (events_one t (from + j))

    module _ (r' : Sessions) (s₂ l : List ℕ) (b : j < n) (went : at r' s₂ ≡ after (at r s₁) (event_at t (from + j)))
        (told : l ≡ line_of (event_of (at r s₁) (event_at t (from + j)))) (u : length s₂ ≡ length s₁) where
      st : at r' s₂ ≡ run x (events_from t from (j + 1))
      unfolding run_by
      st =
          went
          ∙ ap (λ (y : State). after y (event_at t (from + j))) g.state
          ∙ sym (ap (run (at q s)) next ∙ run_append (at q s) (events_from t from j) (event_at t (from + j) ∷ []))

      fits : 0 + length (log_of x (events_from t from (j + 1))) ≤ length log
      fits = omega (arith, length_log x (events_from t from (j + 1)), length_events t from (j + 1), ready.room)

      here : l ≡ log_of (run x es) (event_at t (from + j) ∷ [])
      unfolding log_of
      here = told ∙ ap (λ (y : State). line_of (event_of y (event_at t (from + j)))) g.state ∙ sym (append-nil _)

      size : length l ≡ line
      size = ap length told ∙ length_line (at r s₁) (event_at t (from + j))

      lg : take (line * j) log₁ ++ (l ++ drop (line * j + line - line * j) (drop (line * j) log₁)) ≡ splice log 0 (log_of x (events_from t from (j + 1)))
      unfolding splice
      lg =
          let a : line * j + (line * j + line - line * j) ≡ line * j + length l = omega (arith, size) in
          let b : line * j ≡ 0 + length (log_of x es) = omega (arith, many) in
          sym (append_assoc (take (line * j) log₁) l (drop (line * j + line - line * j) (drop (line * j) log₁)))
          ∙ ap (λ (y : List ℕ). take (line * j) log₁ ++ l ++ y) (drop-drop (line * j + line - line * j) (line * j) log₁ ∙ ap (λ (k : ℕ). drop k log₁) a)
          ∙ ap₂ (λ (k : ℕ) (y : List ℕ). splice y k l) b g.logged
          ∙ splice_more log 0 (log_of x es) l (omega arith)
          ∙ ap (λ (y : List ℕ). splice log 0 (log_of x es ++ y)) here
          ∙ ap (λ (y : List ℕ). splice log 0 y) (sym (ap (log_of x) next ∙ log_append x es (event_at t (from + j) ∷ [])))

      pub goes_on : Going q s t from n log (j + 1) r' s₂ (take (line * j) log₁ ++ (l ++ drop (line * j + line - line * j) (drop (line * j) log₁)))
      goes_on = record { within = omega arith; state = st; logged = lg; long = ap length lg ∙ length_splice log 0 (log_of x (events_from t from (j + 1))) fits; same = u ∙ g.same }

    pub goes_end : n ≤ j → Ran q s t from n log r s₁ log₁
    goes_end b = let e : j ≡ n = omega (arith, g.within) in subst (λ (k : ℕ). Ran q s t from k log r s₁ log₁) e record { state = g.state; logged = g.logged }

module _ (t : List ℕ) (from n : ℕ) (log : List ℕ) (ready : Ready t from n log) where
  pub few_events : n ≤ 512
  few_events = omega (arith, ready.there, (good_rows t ready.good).1.0)

  module _ (j : ℕ) (b : j < n) where
    pub small_place : from + j < 65536
    small_place = omega (arith, ready.there, (good_rows t ready.good).1.0)

    pub event_there : Playable t × (from + j < count t)
    event_there = (ready.good, omega (arith, ready.there))

    pub line_there : (log' : List ℕ) → length log' ≡ length log → line * j + line ≤ length log'
    line_there log' e = omega (arith, ready.room)

    pub line_long : (log' : List ℕ) → length log' ≡ length log → length (take (line * j + line - line * j) (drop (line * j) log')) ≡ line
    line_long log' e = simp (length-take, length-drop) (omega (arith, ready.room))
