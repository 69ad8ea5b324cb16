-- PROMISES of playing back. Each is of a call of `play`, of what it gives and leaves: `Playing`. Assumes nothing.
use Rattle.octets.proofs.Kit.{ℕ, suc, ◌+◌, ◌-◌, ◌*◌, ◌≤◌, ◌<◌, ◌≡◌, sym, ◌∙◌, ap, ap₂, List, ◌++◌, append_assoc, length, take, drop, length-append, length-drop, take_at, drop_at, drop-drop}
use Rattle.octets.proofs.Kit.{arith}
use Rattle.octets.{specs.Splice.splice, proofs.Splices.{splice_front, splice_none}}
use Rattle.sheet.{specs.Demand.breach, proofs.rules.{Demands.{met, unbroken}, First.{or_else_left, or_else_right}}}
use Rattle.device.specs.{Events.State, declared.Sessions.Sessions}
use Rattle.events.{specs.Events.{Event, event_of, after, run_by, run}, proofs.promises.Append.run_append}
use Rattle.playback.specs.{Trace.{event_at, events_from}, Rules.{refusal_of, Playable}, Playing.{at, line, line_of, log_of, due_of, room_demands, refusal_in, played_of, Playing}}
use Rattle.playback.specs.Outcome.{Outcome}
use Rattle.playback.proofs.{Logging.length_line, Running.{events_append, length_events, log_append, length_log}, PlayedBack.{none_played, all_handled, all_played}}

log_cons : (t : List ℕ) (y : State) (i k : ℕ) → log_of y (events_from t i (1 + k)) ≡ line_of (event_of y (event_at t i)) ++ log_of (after y (event_at t i)) (events_from t (i + 1) k)
unfolding log_of events_from
log_cons t y i k =
    let e : 1 + k ≡ suc k = omega arith in
    ap (λ (n : ℕ). log_of y (events_from t i n)) e

-- WHATEVER IS REFUSED LEAVES SESSIONS, SHEET AND LOG AS THEY WERE
pub refused_untouched :
    (q : Sessions) (s t : List ℕ) (from limit : ℕ) (log : List ℕ) (r : Outcome) (s' log' : List ℕ) →
    Playing q s t from limit log r s' log' → (r.refusal ≡ 0 → ⊥) → (at r.sessions s' ≡ at q s) × (log' ≡ log)
unfolding run_by log_of
refused_untouched q s t from limit log r s' log' p n =
    let no = none_played t from limit log (λ z. n (p.refusal ∙ z)) in (
      p.state ∙ ap (run (at q s)) no,
      p.logged ∙ ap (λ (es : List Event). splice log 0 (log_of (at q s) es)) no ∙ splice_none log 0,
    )

-- a trace that is not refused, and a log that has room
module _ (t : List ℕ) (from limit : ℕ) (log : List ℕ) (e : refusal_in t from limit log ≡ 0) where
  pub is_playable : Playable t
  unfolding refusal_in
  is_playable = or_else_left (refusal_of t) (breach (room_demands t from limit log)) e

  pub has_room : line * due_of t from limit ≤ length log
  unfolding refusal_in
  has_room = (met (room_demands t from limit log) tt (or_else_right (refusal_of t) (breach (room_demands t from limit log)) e)).0

pub no_refusal : (t : List ℕ) (from limit : ℕ) (log : List ℕ) → Playable t → line * due_of t from limit ≤ length log → refusal_in t from limit log ≡ 0
unfolding refusal_in
no_refusal t from limit log g h = rw g (unbroken (room_demands t from limit log) (h, tt))

module _ (q : Sessions) (s t : List ℕ) (from limit : ℕ) (log : List ℕ) (r : Outcome) (s' log' : List ℕ) (p : Playing q s t from limit log r s' log') (ok : r.refusal ≡ 0) where
  abbrev x : State
  x = at q s

  abbrev n : ℕ
  n = due_of t from limit

  none : refusal_in t from limit log ≡ 0
  none = sym p.refusal ∙ ok

  pub handles : r.handled ≡ n
  handles = p.handled ∙ all_handled t from limit log none

  pub leaves : at r.sessions s' ≡ run x (events_from t from n)
  leaves = p.state ∙ ap (run x) (all_played t from limit log none)

  pub logs : log' ≡ log_of x (events_from t from n) ++ drop (line * n) log
  logs =
      p.logged
      ∙ ap (λ (es : List Event). splice log 0 (log_of x es)) (all_played t from limit log none)
      ∙ splice_front log (log_of x (events_from t from n))
      ∙ ap (λ (k : ℕ). log_of x (events_from t from n) ++ drop k log) (length_log x (events_from t from n) ∙ ap (λ (k : ℕ). line * k) (length_events t from n))

  -- THE STATE IS THAT OF THE EVENTS ONE AFTER THE OTHER, AND SO IS EVERY LINE OF THE LOG: of the event j, what it gives after those before it
  pub played_is_run : (at r.sessions s' ≡ run x (events_from t from n))
      × ((j : ℕ) → j < n → take line (drop (line * j) log') ≡ line_of (event_of (run x (events_from t from j)) (event_at t (from + j))))
  played_is_run = (leaves, λ j b. line_is j b)
    where
      line_is : (j : ℕ) → j < n → take line (drop (line * j) log') ≡ line_of (event_of (run x (events_from t from j)) (event_at t (from + j)))
      line_is j b =
          let a : List ℕ = log_of x (events_from t from j) in
          let y : State = run x (events_from t from j) in
          let k : ℕ = n - j - 1 in
          let e : n ≡ j + (1 + k) = omega arith in
          let l : List ℕ = line_of (event_of y (event_at t (from + j))) in
          let rest : List ℕ = log_of (after y (event_at t (from + j))) (events_from t (from + j + 1) k) in
          let many : length a ≡ line * j = length_log x (events_from t from j) ∙ ap (λ (i : ℕ). line * i) (length_events t from j) in
          let f : log_of x (events_from t from n) ≡ a ++ (l ++ rest) =
          ap (λ (i : ℕ). log_of x (events_from t from i)) e ∙ ap (log_of x) (events_append t from j (1 + k)) ∙ log_append x (events_from t from j) (events_from t (from + j) (1 + k))
          ∙ ap (λ (z : List ℕ). a ++ z) (log_cons t y (from + j) k)
          in
          ap (λ (z : List ℕ). take line (drop (line * j) z)) (logs ∙ ap (λ (z : List ℕ). z ++ drop (line * n) log) f ∙ append_assoc a (l ++ rest) (drop (line * n) log))
          ∙ ap (λ (z : List ℕ). take line z) (drop_at a ((l ++ rest) ++ drop (line * n) log) (line * j) many)
          ∙ ap (λ (z : List ℕ). take line z) (append_assoc l rest (drop (line * n) log))
          ∙ take_at l (rest ++ drop (line * n) log) line (length_line y (event_at t (from + j)))

-- two pieces, of a and then b events
module _ (x y z : State) (t : List ℕ) (from a b : ℕ) (log log₁ log₂ : List ℕ) where
  abbrev first : List Event
  first = events_from t from a

  abbrev second : List Event
  second = events_from t (from + a) b

  abbrev both : List Event
  both = events_from t from (a + b)

  state_pieces : y ≡ run x first → z ≡ run y second → z ≡ run x both
  state_pieces e f =
      f ∙ ap (λ (w : State). run w second) e ∙ sym (ap (run x) (events_append t from a b) ∙ run_append x first second)

  module _ (e : y ≡ run x first) (e₁ : log₁ ≡ log_of x first ++ drop (line * a) log) where
    many : length (log_of x first) ≡ line * a
    many = length_log x first ∙ ap (λ (k : ℕ). line * k) (length_events t from a)

    free : drop (line * a) log₁ ≡ drop (line * a) log
    free = ap (λ (l : List ℕ). drop (line * a) l) e₁ ∙ drop_at (log_of x first) (drop (line * a) log) (line * a) many

    room_pieces : line * a ≤ length log → line * b ≤ length (drop (line * a) log₁) → line * (a + b) ≤ length log
    room_pieces h k = omega (arith, ap length free, length-drop (line * a) log)

    log_pieces : log₂ ≡ log_of y second ++ drop (line * b) (drop (line * a) log₁) → take (line * a) log₁ ++ log₂ ≡ splice log 0 (log_of x both)
    log_pieces e₂ =
        let all : log_of x both ≡ log_of x first ++ log_of y second =
        ap (log_of x) (events_append t from a b) ∙ log_append x first second ∙ ap (λ (w : State). log_of x first ++ log_of w second) (sym e) in
        let long : line * a + line * b ≡ length (log_of x both) =
        sym (length_log x both ∙ ap (λ (k : ℕ). line * k) (length_events t from (a + b)) ∙ omega arith) in
        ap₂ (λ (l r : List ℕ). l ++ r) (ap (λ (l : List ℕ). take (line * a) l) e₁ ∙ take_at (log_of x first) (drop (line * a) log) (line * a) many) e₂
        ∙ ap (λ (l : List ℕ). log_of x first ++ (log_of y second ++ l)) (ap (λ (l : List ℕ). drop (line * b) l) free ∙ drop-drop (line * b) (line * a) log ∙ ap (λ (k : ℕ). drop k log) long)
        ∙ sym (append_assoc (log_of x first) (log_of y second) (drop (length (log_of x both)) log))
        ∙ ap (λ (l : List ℕ). l ++ drop (length (log_of x both)) log) (sym all)
        ∙ sym (splice_front log (log_of x both))

-- PLAYING m EVENTS AND THEN n IS PLAYING m + n, whatever the pieces: for the state, the count and the log, whose second piece is what the first left free
module _ (q : Sessions) (s t : List ℕ) (from m n : ℕ) (log : List ℕ) (r₁ r₂ : Outcome) (s₁ log₁ s₂ log₂ : List ℕ) where
  abbrev a : ℕ
  a = r₁.handled

  abbrev b : ℕ
  b = r₂.handled

  module _ (p₁ : Playing q s t from m log r₁ s₁ log₁) (k₁ : r₁.refusal ≡ 0) (p₂ : Playing r₁.sessions s₁ t (from + a) n (drop (line * a) log₁) r₂ s₂ log₂) (k₂ : r₂.refusal ≡ 0) where
    ea : a ≡ due_of t from m
    ea = handles q s t from m log r₁ s₁ log₁ p₁ k₁

    eb : b ≡ due_of t (from + a) n
    eb = handles r₁.sessions s₁ t (from + a) n (drop (line * a) log₁) r₂ s₂ log₂ p₂ k₂

    st₁ : at r₁.sessions s₁ ≡ run (at q s) (events_from t from a)
    st₁ = leaves q s t from m log r₁ s₁ log₁ p₁ k₁ ∙ ap (λ (k : ℕ). run (at q s) (events_from t from k)) (sym ea)

    st₂ : at r₂.sessions s₂ ≡ run (at r₁.sessions s₁) (events_from t (from + a) b)
    st₂ = leaves r₁.sessions s₁ t (from + a) n (drop (line * a) log₁) r₂ s₂ log₂ p₂ k₂ ∙ ap (λ (k : ℕ). run (at r₁.sessions s₁) (events_from t (from + a) k)) (sym eb)

    lg₁ : log₁ ≡ log_of (at q s) (events_from t from a) ++ drop (line * a) log
    lg₁ = logs q s t from m log r₁ s₁ log₁ p₁ k₁ ∙ ap (λ (k : ℕ). log_of (at q s) (events_from t from k) ++ drop (line * k) log) (sym ea)

    lg₂ : log₂ ≡ log_of (at r₁.sessions s₁) (events_from t (from + a) b) ++ drop (line * b) (drop (line * a) log₁)
    lg₂ =
        logs r₁.sessions s₁ t (from + a) n (drop (line * a) log₁) r₂ s₂ log₂ p₂ k₂
        ∙ ap (λ (k : ℕ). log_of (at r₁.sessions s₁) (events_from t (from + a) k) ++ drop (line * k) (drop (line * a) log₁)) (sym eb)

    due : a + b ≡ due_of t from (m + n)
    due = omega (arith, ea, eb)

    room₁ : line * a ≤ length log
    room₁ = omega (arith, ea, has_room t from m log (sym p₁.refusal ∙ k₁))

    room₂ : line * b ≤ length (drop (line * a) log₁)
    room₂ = omega (arith, eb, has_room t (from + a) n (drop (line * a) log₁) (sym p₂.refusal ∙ k₂))

    no : refusal_in t from (m + n) log ≡ 0
    no =
        no_refusal t from (m + n) log (is_playable t from m log (sym p₁.refusal ∙ k₁))
        (omega (arith, due, room_pieces (at q s) (at r₁.sessions s₁) (at r₂.sessions s₂) t from a b log log₁ log₂ st₁ lg₁ room₁ room₂))

    es : events_from t from (a + b) ≡ played_of t from (m + n) log
    es = ap (λ (k : ℕ). events_from t from k) due ∙ sym (all_played t from (m + n) log no)

    pub stop_and_go_on : Playing q s t from (m + n) log record { refusal = 0; handled = a + b; sessions = r₂.sessions } s₂ (take (line * a) log₁ ++ log₂)
    stop_and_go_on =
        record {
          refusal = sym no;
          handled = due ∙ sym (all_handled t from (m + n) log no);
          state = state_pieces (at q s) (at r₁.sessions s₁) (at r₂.sessions s₂) t from a b log log₁ log₂ st₁ st₂ ∙ ap (run (at q s)) es;
          logged = log_pieces (at q s) (at r₁.sessions s₁) (at r₂.sessions s₂) t from a b log log₁ log₂ st₁ lg₁ lg₂ ∙ ap (λ (l : List Event). splice log 0 (log_of (at q s) l)) es;
        }

-- and what one call would play is refused in no piece
module _ (q : Sessions) (s t : List ℕ) (from m n : ℕ) (log : List ℕ) (ok : refusal_in t from (m + n) log ≡ 0) where
  first_goes : refusal_in t from m log ≡ 0
  first_goes = no_refusal t from m log (is_playable t from (m + n) log ok) (omega (arith, has_room t from (m + n) log ok))

  second_goes : (a : ℕ) (l : List ℕ) → a ≡ due_of t from m → length l ≡ length log → refusal_in t (from + a) n (drop (line * a) l) ≡ 0
  second_goes a l e k =
      no_refusal t (from + a) n (drop (line * a) l) (is_playable t from (m + n) log ok)
      (omega (arith, has_room t from (m + n) log ok, length-drop (line * a) l))

  pub pieces_go :
      (r₁ : Outcome) (s₁ log₁ : List ℕ) → Playing q s t from m log r₁ s₁ log₁ → (r₂ : Outcome) (s₂ log₂ : List ℕ) →
      Playing r₁.sessions s₁ t (from + r₁.handled) n (drop (line * r₁.handled) log₁) r₂ s₂ log₂ →
      (r₁.refusal ≡ 0) × (r₂.refusal ≡ 0)
  pieces_go r₁ s₁ log₁ p₁ r₂ s₂ log₂ p₂ =
      let k : r₁.refusal ≡ 0 = p₁.refusal ∙ first_goes in
      let d : ℕ = due_of t from m in
      let e : r₁.handled ≡ d = handles q s t from m log r₁ s₁ log₁ p₁ k in
      let l : length log₁ ≡ length log =
      ap length (logs q s t from m log r₁ s₁ log₁ p₁ k)
      ∙ length-append (log_of (at q s) (events_from t from d)) (drop (line * d) log)
      ∙ omega (arith, length_log (at q s) (events_from t from d), length_events t from d, length-drop (line * d) log, has_room t from m log first_goes)
      in
      (k, p₂.refusal ∙ second_goes r₁.handled log₁ e l)
