-- NOTHING IS LEARNED BY PLAYING A TRACE of a byte whose read level is below q, while no level is: on two sheets that hide q it gives the same result and the same lines of the log. Assumes nothing.
use Rattle.octets.proofs.Kit.{ℕ, ◌-◌, ◌*◌, ◌≤◌, min, ◌≡◌, refl, sym, ◌∙◌, ap, ap₂, subst, Bool, true, false, cond, List, [], ◌∷◌, ◌++◌, reverse, reverse-cons, reverse-reverse, eqb, length}
use Rattle.octets.proofs.Kit.{take, drop, replicate, length-take, length-drop, take_at, arith}
use Rattle.octets.{specs.Splice.splice, proofs.Splices.splice_front}
use Rattle.sheet.specs.{Demand.{◌≼◌, ◌⦂◌, breach}, First.or_else}
use Rattle.device.specs.{Events.{Effect, State}, declared.Sessions.Sessions}
use Rattle.events.specs.Events.{Event, event_of}
use Rattle.history.specs.{History.First, Keeps.state_after, Isolation.same, Rightful.ours, Secret.{Hide, NoneBelow, AllAlike, none, more, NothingToldAlong}}
use Rattle.history.proofs.promises.{InOrder.{first_state, after_is_run}, Unlearned.unlearned}
use Rattle.playback.specs.{Trace.{count, room, trace_of}, Rules.refusal_of, Playing.{at, line, line_of, log_of, due_of, refusal_in, handled_of, played_of, Plays}}
use Rattle.playback.specs.Outcome.{Outcome}
use Rattle.playback.proofs.{Running.{length_events, log_append, length_log}, promises.PlayKeeps.{all_history, play_keeps}}

-- the same events in both
abbrev all_same : (h : List Event) → AllAlike h h
all_same [] = none
all_same (e ∷ h) = more (same e) (all_same h)

-- a line says outcome and answer alone
line_told : (r r' : Effect) → r'.outcome ≡ r.outcome → r'.answer ≡ r.answer → line_of r' ≡ line_of r
unfolding line_of
line_told r r' o a =
    ap₂ (λ (n : ℕ) (l : List ℕ). n ∷ length l ∷ (l ++ replicate (room - length l) 0)) o a

-- one event more is one line more
log_more :
    (f : First) (e : Event) (h : List Event) →
    log_of (first_state f) (reverse (e ∷ h)) ≡ log_of (first_state f) (reverse h) ++ (line_of (event_of (state_after ours f h) e) ++ [])
unfolding log_of
log_more f e h =
    ap (log_of (first_state f)) (reverse-cons e h)
    ∙ log_append (first_state f) (reverse h) (e ∷ [])
    ∙ ap (λ (x : State). log_of (first_state f) (reverse h) ++ (line_of (event_of x e) ++ [])) (sym (after_is_run f h))

-- WHERE NOTHING IS TOLD by any event, what is left and the log
module _ (q : ℕ) (f f' : First) (s : f'.sessions ≡ f.sessions) (u : Hide q f.sheet f'.sheet) where
  left :
      (h : List Event) → NothingToldAlong ours q f f' (all_same h) →
      ((state_after ours f' h).sessions ≡ (state_after ours f h).sessions) × Hide q (state_after ours f h).sheet (state_after ours f' h).sheet
  unfolding state_after
  left [] t = (s, u)
  left (e ∷ h) t = (t.0.sessions, t.0.sheet)

  log_told :
      (h : List Event) → NothingToldAlong ours q f f' (all_same h) → log_of (first_state f') (reverse h) ≡ log_of (first_state f) (reverse h)
  unfolding log_of
  log_told [] t = refl
  log_told (e ∷ h) t =
      log_more f' e h
      ∙ ap₂ (λ (a b : List ℕ). a ++ (b ++ [])) (log_told h t.1) (line_told (event_of (state_after ours f h) e) (event_of (state_after ours f' h) e) t.0.outcome t.0.answer)
      ∙ sym (log_more f e h)

-- no more are handled than are there
capped : (b : Bool) (l n : ℕ) → min (cond b (min l n) 0) n ≡ cond b (min l n) 0
capped true l n = omega arith
capped false l n = omega arith

many_played : (t : List ℕ) (from limit : ℕ) (log : List ℕ) → length (played_of t from limit log) ≡ handled_of t from limit log
unfolding played_of handled_of trace_of
many_played t from limit log =
    let k : ℕ = handled_of t from limit log in
    length-take k (drop from (trace_of t))
    ∙ ap (λ (n : ℕ). min k n) (length-drop from (trace_of t) ∙ ap (λ (n : ℕ). n - from) (length_events t 0 (count t)))
    ∙ capped (eqb (refusal_in t from limit log) 0) limit (count t - from)

-- of a log its length alone bears on what is played
module _ (t : List ℕ) (from limit : ℕ) (log log' : List ℕ) (long : length log' ≡ length log) where
  refusal_by_length : refusal_in t from limit log' ≡ refusal_in t from limit log
  unfolding refusal_in
  refusal_by_length =
      ap (λ (n : ℕ). or_else (refusal_of t) (breach ((59 ⦂ line * due_of t from limit ≼ n) ∷ []))) long

  handled_by_length : handled_of t from limit log' ≡ handled_of t from limit log
  unfolding handled_of
  handled_by_length = ap (λ (n : ℕ). cond (eqb n 0) (due_of t from limit) 0) refusal_by_length

  played_by_length : played_of t from limit log' ≡ played_of t from limit log
  unfolding played_of
  played_by_length = ap (λ (n : ℕ). take n (drop from (trace_of t))) handled_by_length

-- THE SAME TRACE, PLACE AND LIMIT, from the same sessions, into logs of one length, on two sheets that hide q; by the history no open connection has a level below q before any event that is played
module _ (q : ℕ) (few : q ≤ 3) (u : Sessions) (s s' : List ℕ) (hide : Hide q s s') (t : List ℕ) (from limit : ℕ) (log log' : List ℕ) (long : length log' ≡ length log)
    (blind : NoneBelow q record { sheet = s; sessions = u } (reverse (played_of t from limit log)))
    (r r' : Outcome) (s₁ s₁' log₁ log₁' : List ℕ) (p : Plays u s t from limit log r s₁ log₁) (p' : Plays u s' t from limit log' r' s₁' log₁') where
  abbrev f : First
  f = record { sheet = s; sessions = u }

  abbrev f' : First
  f' = record { sheet = s'; sessions = u }

  abbrev es : List Event
  es = played_of t from limit log

  nothing_told : NothingToldAlong ours q f f' (all_same (reverse es))
  nothing_told =
      unlearned q few f f' record { octets = p.sheet_bytes; accepted = hide.accepted } record { octets = p'.sheet_bytes; accepted = hide.accepted' } refl hide
      (reverse es) (reverse es) (all_same (reverse es)) (all_history t p.trace_bytes from limit log) blind

  state : at r.sessions s₁ ≡ state_after ours f (reverse es)
  state = (play_keeps u s t from limit log r s₁ log₁ p hide.accepted).0

  state' : at r'.sessions s₁' ≡ state_after ours f' (reverse es)
  state' =
      (play_keeps u s' t from limit log' r' s₁' log₁' p' hide.accepted').0
      ∙ ap (λ (l : List Event). state_after ours f' (reverse l)) (played_by_length t from limit log log' long)

  stays : (r'.sessions ≡ r.sessions) × Hide q s₁ s₁'
  stays =
      subst (λ (x : State). (r'.sessions ≡ x.sessions) × Hide q x.sheet s₁') (sym state)
      (subst (λ (x : State). (x.sessions ≡ (state_after ours f (reverse es)).sessions) × Hide q (state_after ours f (reverse es)).sheet x.sheet) (sym state')
      (left q f f' refl hide (reverse es) nothing_told))

  -- the lines
  abbrev lines : List ℕ
  lines = log_of (at u s) es

  same_lines : log_of (at u s') es ≡ lines
  same_lines =
      ap (log_of (at u s')) (sym (reverse-reverse es))
      ∙ log_told q f f' refl hide (reverse es) nothing_told
      ∙ ap (log_of (at u s)) (reverse-reverse es)

  logged' : log₁' ≡ splice log' 0 lines
  logged' =
      p'.did.logged
      ∙ ap (λ (l : List Event). splice log' 0 (log_of (at u s') l)) (played_by_length t from limit log log' long)
      ∙ ap (λ (l : List ℕ). splice log' 0 l) same_lines

  as_long : length lines ≡ line * r.handled
  as_long =
      length_log (at u s) es ∙ ap (λ (n : ℕ). line * n) (many_played t from limit log ∙ sym p.did.handled)

  front : take (line * r.handled) log₁ ≡ lines
  front =
      ap (λ (l : List ℕ). take (line * r.handled) l) (p.did.logged ∙ splice_front log lines)
      ∙ take_at lines (drop (length lines) log) (line * r.handled) as_long

  -- NOTHING IS LEARNED: the same refusal, as many events handled, the same sessions, sheets that still hide q, and in the second log the lines of the first, with all behind them as it was
  pub play_unlearned :
      (r'.refusal ≡ r.refusal) × (r'.handled ≡ r.handled) × (r'.sessions ≡ r.sessions) × Hide q s₁ s₁'
      × (log₁' ≡ take (line * r.handled) log₁ ++ drop (line * r.handled) log')
  play_unlearned = (
    p'.did.refusal ∙ refusal_by_length t from limit log log' long ∙ sym p.did.refusal,
    p'.did.handled ∙ handled_by_length t from limit log log' long ∙ sym p.did.handled,
    stays.0,
    stays.1,
    logged' ∙ splice_front log' lines ∙ ap₂ (λ (l : List ℕ) (n : ℕ). l ++ drop n log') (sym front) as_long,
  )

  -- so logs that were the same are the same after it
  pub play_same_log : log' ≡ log → log₁' ≡ log₁
  play_same_log e = logged' ∙ ap (λ (l : List ℕ). splice l 0 lines) e ∙ sym p.did.logged
