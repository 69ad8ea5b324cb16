-- How a host sees a restart: a session that was open before a request and is closed after it was closed by one, on whichever connection that came.
use Rattle.octets.proofs.Kit.{ℕ, ◌≤◌, ◌<◌, ◌≡◌, refl, sym, ap, ◌∙◌, Bool, true, false, List, dec_lt, ℕ_discrete, arith, eq-eqb}
use Rattle.std.proofs.Common.{Ok}
use Rattle.octets.proofs.Truths.{never}
use Rattle.pdu.specs.{Read.read_pdu, declared.Pdu.TheVariants.Restart}
use Rattle.judge.specs.{Session.connected, declared.{Session.Session, Turn.{Turn, TheVariants.{Stays, Level, Closes}}}, Judge.judge_of}
use Rattle.device.specs.{Carry.{turn_of, closes}, Step.{Step, step_by, step_of}, Sessions.{session_of, session_for, turned_of}, Events.request_of, declared.Sessions.Sessions}
use Rattle.device.proofs.{leaves.Connections.{unknown_closed, turned_own, turned_other}, promises.Demand1.restart_only}

-- a turn that doesn't close leaves a session open
left_open : (q : Session) (t : Turn) → closes t ≡ false → (turn_of q t).opened ≡ q.opened
left_open q Stays e = refl
left_open q (Level l) e = refl
left_open q Closes e = never (sym e)

module _ (room : ℕ) (s : List ℕ) (q : Sessions) (mode c group : ℕ) (a : List ℕ) where
  abbrev met : Session
  met = session_for q mode c

  abbrev step : Step
  step = step_of room s met mode group a

  own_open : step.restarts ≡ false → step.session.opened ≡ met.opened
  unfolding step_of step_by
  own_open e = left_open met (judge_of room s met mode group a).turn e

  -- so a request that is no restart leaves both connections open or closed as found
  kept_open : step.restarts ≡ false → (d : ℕ) → (session_of (turned_of q mode c false step.session) d).opened ≡ (session_of q d).opened
  kept_open e d = go (ℕ_discrete mode connected) (ℕ_discrete d c) (dec_lt c 2)
    where
      go : Dec (mode ≡ connected) → Dec (d ≡ c) → Dec (c < 2) → (session_of (turned_of q mode c false step.session) d).opened ≡ (session_of q d).opened
      go (yes m) (yes i) (yes l) =
          let own : met.opened ≡ (session_of q c).opened = simp (eq-eqb mode connected m) in
          rw i (ap (λ (r : Session). r.opened) (turned_own q mode c step.session m l) ∙ own_open e ∙ own)
      go (yes m) (yes i) (no l) =
          let none : (p : Sessions) → (session_of p c).opened ≡ false = λ p. ap (λ (r : Session). r.opened) (unknown_closed p c (omega arith)) in
          rw i (none (turned_of q mode c false step.session) ∙ sym (none q))
      go (yes m) (no n) k = ap (λ (r : Session). r.opened) (turned_other q mode c d step.session (λ z. n))
      go (no m) i k = ap (λ (r : Session). r.opened) (turned_other q mode c d step.session (λ z. absurd (m z)))

  -- A SESSION THAT WAS OPEN AND IS CLOSED WAS CLOSED BY A RESTART, CARRIED OUT
  pub dropped :
      (d : ℕ) → (session_of q d).opened ≡ true → (session_of (request_of room s q mode c group a).sessions d).opened ≡ false →
      ((request_of room s q mode c group a).outcome ≤ 1) × (read_pdu a ≡ Ok Restart)
  unfolding request_of
  dropped d was is = go step.restarts refl is
    where
      go : (b : Bool) → step.restarts ≡ b → (session_of (turned_of q mode c b step.session) d).opened ≡ false → (step.outcome ≤ 1) × (read_pdu a ≡ Ok Restart)
      go true e i = restart_only room s met mode group a e
      go false e i = never (sym i ∙ kept_open e d ∙ was)

  -- AND EVERY OTHER REQUEST LEAVES BOTH AS THEY WERE, open or closed
  pub not_dropped :
      (d : ℕ) → (read_pdu a ≡ Ok Restart → ⊥) → (session_of (request_of room s q mode c group a).sessions d).opened ≡ (session_of q d).opened
  unfolding request_of
  not_dropped d other = go step.restarts refl
    where
      go : (b : Bool) → step.restarts ≡ b → (session_of (turned_of q mode c b step.session) d).opened ≡ (session_of q d).opened
      go true e = absurd (other (restart_only room s met mode group a e).1)
      go false e = kept_open e d
