-- What one event leaves of the session of a connection. Assumes nothing.
use Rattle.octets.proofs.Kit.{ℕ, ◌<◌, ◌≡◌, refl, sym, ap, subst, ◌∙◌, Bool, true, false, List, length, ℕ_discrete, dec_lt, arith, eq-eqb, ne_eqb}
use Rattle.octets.proofs.{Truths.never, Tests.both}
use Rattle.judge.specs.{Session.connected, Judge.judge_of, declared.{Session.Session, Turn.{Turn, TheVariants.{Stays, Level, Closes}}}}
use Rattle.device.specs.{Carry.turn_of, Step.{Step, step_by, step_of}, Sessions.{newly_open, closed, session_of, session_for, turned_of, with_session}, Events.{State, request_of}}
use Rattle.device.{specs.declared.Sessions.Sessions, proofs.{leaves.Connections.{fresh_closed, with_unknown, with_own, with_other, turned_other}, promises.Demand1.restart_only}}
use Rattle.events.specs.Events.{Event, connect, disconnect, button, request, restore, event_of, after}
use Rattle.history.specs.{Wish.{restart, wish_in, asks}, History.wished, Isolation.is_of}

module _ (x : State) where
  abbrev step : (mode d g : ℕ) (a out : List ℕ) → Step
  step mode d g a out = step_of (length out) x.sheet (session_for x.sessions mode d) mode g a

  -- WHAT IS NOT OF c AND NO RESTART leaves the session of c
  pub other_session :
      (c : ℕ) (e : Event) → is_of c e ≡ false → (wished e ≡ restart → ⊥) → session_of (after x e).sessions c ≡ session_of x.sessions c
  unfolding after event_of request_of asks
  other_session c (connect d) n r = with_other x.sessions d c newly_open (λ q. never (sym n ∙ eq-eqb d c (sym q)))
  other_session c (disconnect d) n r = with_other x.sessions d c closed (λ q. never (sym n ∙ eq-eqb d c (sym q)))
  other_session c (button on) n r = refl
  other_session c (restore d k st) n r = refl
  other_session c (request mode d g a out) n r = go (step mode d g a out).restarts refl
    where
      go :
          (t : Bool) → (step mode d g a out).restarts ≡ t →
          session_of (turned_of x.sessions mode d t (step mode d g a out).session) c ≡ session_of x.sessions c
      go true e = absurd (r (ap wish_in (restart_only (length out) x.sheet (session_for x.sessions mode d) mode g a e).1))
      go false e =
          turned_other x.sessions mode d c (step mode d g a out).session
          (λ m q. never (sym n ∙ both _ _ (eq-eqb mode 3 m) (eq-eqb d c (sym q))))

-- a decision opens no session
turn_opened : (q : Session) (t : Turn) → (turn_of q t).opened ≡ true → q.opened ≡ true
turn_opened q Stays e = e
turn_opened q (Level l) e = e
turn_opened q Closes e = never e

step_opened : (room : ℕ) (s : List ℕ) (q : Session) (mode g : ℕ) (a : List ℕ) → (step_of room s q mode g a).session.opened ≡ true → q.opened ≡ true
unfolding step_of step_by
step_opened room s q mode g a e = turn_opened q (judge_of room s q mode g a).turn e

module _ (x : State) (c : ℕ) where
  abbrev Open : Session → Type 0
  Open q = q.opened ≡ true

  -- one put in the place of d's: c's is open then, if it was before or if it is the one
  put_opened : (d : ℕ) (r : Session) → (d ≡ c → Open r → Open (session_of x.sessions c)) → Open (session_of (with_session x.sessions d r) c) → Open (session_of x.sessions c)
  put_opened d r own o = go (ℕ_discrete d c) (dec_lt d 2)
    where
      go : Dec (d ≡ c) → Dec (d < 2) → Open (session_of x.sessions c)
      go (no n) u = subst Open (with_other x.sessions d c r (λ q. n (sym q))) o
      go (yes e) (yes l) =
          own e (subst Open (ap (λ (i : ℕ). session_of (with_session x.sessions d r) i) (sym e) ∙ with_own x.sessions d r l) o)
      go (yes e) (no m) = subst (λ (p : Sessions). Open (session_of p c)) (with_unknown x.sessions d r (omega arith)) o

  turned_opened :
      (mode d : ℕ) (r : Session) → (mode ≡ connected → Open r → Open (session_of x.sessions d)) → (t : Bool) →
      Open (session_of (turned_of x.sessions mode d t r) c) → Open (session_of x.sessions c)
  turned_opened mode d r own true o = never (ap (λ (q : Session). q.opened) (sym (fresh_closed c)) ∙ o)
  turned_opened mode d r own false o = go (ℕ_discrete mode connected)
    where
      go : Dec (mode ≡ connected) → Open (session_of x.sessions c)
      go (no m) = let t = ne_eqb mode connected m in rw t at o
      go (yes m) =
          let t = eq-eqb mode connected m in
          put_opened d r (λ q z. subst (λ (i : ℕ). Open (session_of x.sessions i)) q (own m z)) (rw t at o)

  -- ONLY A CONNECT OPENS A SESSION
  pub opened_before : (e : Event) → (e ≡ connect c → ⊥) → Open (session_of (after x e).sessions c) → Open (session_of x.sessions c)
  unfolding after event_of request_of
  opened_before (connect d) n o = put_opened d newly_open (λ q z. absurd (n (ap connect q))) o
  opened_before (disconnect d) n o = put_opened d closed (λ q z. never z) o
  opened_before (button on) n o = o
  opened_before (restore d k st) n o = o
  opened_before (request mode d g a out) n o =
      turned_opened mode d (step x mode d g a out).session
      (λ m z.
      let e : session_for x.sessions mode d ≡ session_of x.sessions d = simp (eq-eqb mode connected m) in
      subst Open e (step_opened (length out) x.sheet (session_for x.sessions mode d) mode g a z))
      (step x mode d g a out).restarts o
