-- Two states that only the session of one connection tells apart stay so, whatever comes: behind isolation.
use Rattle.octets.proofs.Kit.{ℕ, ◌<◌, ◌≡◌, refl, sym, ap, ◌∙◌, ap₂, Bool, true, false, cond, ◌&&◌, ◌||◌, not, List, [], ◌∷◌, eqb, length, dec_lt, ℕ_discrete, arith, eqb-true, eq-eqb, ne_eqb}
use Rattle.octets.proofs.Truths.{never}
use Rattle.pdu.specs.declared.Pdu.TheVariants.{Restart}
use Rattle.judge.specs.{Session.connected, declared.Session.Session}
use Rattle.device.specs.{Step.{Step, step_of}, Sessions.{session_of, with_session, session_for, turned_of}, Events.{Effect, State, request_of, button_outcome, button_sheet}}
use Rattle.device.{specs.declared.Sessions.Sessions, proofs.{leaves.Connections.{unknown_closed, with_own, with_other, turned_other}, promises.Demand1.restart_only}}
use Rattle.versions.specs.Restoring.{restore_outcome, restore_sheet}
use Rattle.events.specs.Events.{Event, connect, disconnect, button, request, event_of, restore}
use Rattle.history.specs.{History.First, Keeps.state_after, Rightful.ours, Isolation.{is_of, may_be_of, Alike, same, as_long, Harmless, Beside, begin, shared, one_more, other_more}}
use Rattle.history.proofs.heard.{Hearing.asks_is, Meets.meets}

-- one session of each, put in the same place
with_alike :
    (q p : Sessions) (c : ℕ) (r : Session) (d : ℕ) → session_of q d ≡ session_of p d →
    session_of (with_session q c r) d ≡ session_of (with_session p c r) d
with_alike q p c r d e = go (ℕ_discrete d c) (dec_lt d 2)
  where
    go : Dec (d ≡ c) → Dec (d < 2) → session_of (with_session q c r) d ≡ session_of (with_session p c r) d
    go (no n) l = with_other q c d r n ∙ e ∙ sym (with_other p c d r n)
    go (yes n) (yes l) = rw n (with_own q c r (omega arith) ∙ sym (with_own p c r (omega arith)))
    go (yes n) (no l) = unknown_closed (with_session q c r) d (omega arith) ∙ sym (unknown_closed (with_session p c r) d (omega arith))

module _ (o : ℕ) where
  -- TWO STATES THAT ONLY THE SESSION OF o TELLS APART
  pub record Near (x y : State) : Type 0 where
    pub sheet : x.sheet ≡ y.sheet
    pub sessions : (d : ℕ) → (d ≡ o → ⊥) → session_of x.sessions d ≡ session_of y.sessions d

  near_sym : {x y : State} → Near x y → Near y x
  near_sym n = record { sheet = sym n.sheet; sessions = λ d m. sym (n.sessions d m) }

  abbrev pub afterwards : Effect → State
  afterwards r = record { sessions = r.sessions; sheet = r.sheet }

  -- two effects that it alone tells apart
  pub record Equal (r t : Effect) : Type 0 where
    pub outcome : r.outcome ≡ t.outcome
    pub answer : r.answer ≡ t.answer
    pub left : Near (afterwards r) (afterwards t)

  module _ {x y : State} (n : Near x y) where
    -- the session that a request meets, if it is not of o, and what becomes of the sessions by the same step
    module _ (mode c : ℕ) where
      pub met_alike : (eqb mode 3 && eqb c o) ≡ false → session_for x.sessions mode c ≡ session_for y.sessions mode c
      met_alike e = go (ℕ_discrete mode connected)
        where
          go : Dec (mode ≡ connected) → session_for x.sessions mode c ≡ session_for y.sessions mode c
          go (yes m) =
              meets x.sessions mode c m
              ∙ n.sessions c (λ z. never (sym e ∙ rw (eq-eqb mode 3 m, eq-eqb c o z)))
              ∙ sym (meets y.sessions mode c m)
          go (no m) = rw (ne_eqb mode 3 m)

      turned_alike :
          (t : Bool) (r : Session) (d : ℕ) → (d ≡ o → ⊥) →
          session_of (turned_of x.sessions mode c t r) d ≡ session_of (turned_of y.sessions mode c t r) d
      turned_alike true r d m = refl
      turned_alike false r d m = go (eqb mode 3)
        where
          go : (u : Bool) →
              session_of (cond u (with_session x.sessions c r) x.sessions) d ≡ session_of (cond u (with_session y.sessions c r) y.sessions) d
          go true = with_alike x.sessions y.sessions c r d (n.sessions d m)
          go false = n.sessions d m

      requested :
          (g : ℕ) (a out out' : List ℕ) → (eqb mode 3 && eqb c o) ≡ false → length out ≡ length out' →
          Equal (event_of x (request mode c g a out)) (event_of y (request mode c g a out'))
      unfolding event_of request_of
      requested g a out out' e k =
          record {
            outcome = ap (λ (r : Step). r.outcome) E;
            answer = ap (λ (r : Step). r.answer) E;
            left =
                record {
                  sheet = ap (λ (r : Step). r.sheet) E;
                  sessions = λ d m.
                      turned_alike R.restarts R.session d m
                      ∙ ap (λ (r : Step). session_of (turned_of y.sessions mode c r.restarts r.session) d) E;
                };
          }
        where
          R : Step
          R = step_of (length out) x.sheet (session_for x.sessions mode c) mode g a

          E : step_of (length out) x.sheet (session_for x.sessions mode c) mode g a ≡ step_of (length out') y.sheet (session_for y.sessions mode c) mode g a
          E = rw (k, n.sheet, met_alike e)

    -- a session opened or closed, whoever's it is
    named :
        (c : ℕ) (r : Session) (k : ℕ) →
        Equal (record { outcome = k; answer = []; sessions = with_session x.sessions c r; sheet = x.sheet })
        (record { outcome = k; answer = []; sessions = with_session y.sessions c r; sheet = y.sheet })
    named c r k =
        record {
          outcome = refl;
          answer = refl;
          left =
              record {
                sheet = n.sheet;
                sessions = λ d m. with_alike x.sessions y.sessions c r d (n.sessions d m);
              };
        }

    -- WHAT IS NOT OF o IS ANSWERED ALIKE
    equal_same : (e : Event) → is_of o e ≡ false → Equal (event_of x e) (event_of y e)
    unfolding event_of
    equal_same (connect c) e = named c _ _
    equal_same (disconnect c) e = named c _ _
    equal_same (button on) e =
        record {
          outcome = ap button_outcome n.sheet;
          answer = refl;
          left = record { sheet = ap (λ (s : List ℕ). button_sheet s on) n.sheet; sessions = n.sessions };
        }
    equal_same (request mode c g a out) e = requested mode c g a out out e refl
    equal_same (restore c k st) e =
        let s = n.sessions c (λ z. never (sym e ∙ eq-eqb c o z)) in
        record {
          outcome = ap₂ (λ (q : Session) (s : List ℕ). restore_outcome q s st k) s n.sheet;
          answer = refl;
          left =
              record {
                sheet = ap₂ (λ (q : Session) (s : List ℕ). restore_sheet q s st k) s n.sheet;
                sessions = n.sessions;
              };
        }

    pub equal : (e e' : Event) → is_of o e ≡ false → Alike e e' → Equal (event_of x e) (event_of y e')
    equal _ _ i (same e) = equal_same e i
    equal _ _ i (as_long k) = requested _ _ _ _ _ _ i k

  -- WHAT IS OF o, and harmless, leaves all but the session of o
  module _ (f : First) (h : List Event) {y : State} (n : Near (state_after ours f h) y) where
    abbrev X : State
    X = state_after ours f h

    own_named : (c : ℕ) (r : Session) → eqb c o ≡ true → Near (record { sessions = with_session X.sessions c r; sheet = X.sheet }) y
    own_named c r i =
        record {
          sheet = n.sheet;
          sessions = λ d m. with_other X.sessions c d r (λ z. m (z ∙ eqb-true c o i)) ∙ n.sessions d m;
        }

    own_requested :
        (mode c g : ℕ) (a out : List ℕ) → (not (eqb mode 3) || eqb c o) ≡ true → Harmless ours f h (request mode c g a out) →
        Near (afterwards (event_of X (request mode c g a out))) y
    unfolding event_of request_of
    own_requested mode c g a out i m =
        record {
          sheet = m.0 ∙ n.sheet;
          sessions = λ d k.
              ap (λ (t : Bool). session_of (turned_of X.sessions mode c t R.session) d) (runs R.restarts refl)
              ∙ turned_other X.sessions mode c d R.session (λ u z. k (z ∙ eqb-true c o (rw (eq-eqb mode 3 u) at i)))
              ∙ n.sessions d k;
        }
      where
        R : Step
        R = step_of (length out) X.sheet (session_for X.sessions mode c) mode g a

        runs : (t : Bool) → R.restarts ≡ t → t ≡ false
        runs true e =
            let r = restart_only (length out) X.sheet (session_for X.sessions mode c) mode g a e in
            absurd (m.1 (asks_is a Restart r.1) r.0)
        runs false e = refl

    own : (e : Event) → may_be_of o e ≡ true → Harmless ours f h e → Near (state_after ours f (e ∷ h)) y
    unfolding state_after event_of
    own (connect c) i m = own_named c _ i
    own (disconnect c) i m = own_named c _ i
    own (button on) i m = never i
    own (restore c k st) i m = record { sheet = m ∙ n.sheet; sessions = n.sessions }
    own (request mode c g a out) i m = own_requested mode c g a out i m

  -- SO TWO RUNS SIDE BY SIDE LEAVE SUCH STATES
  pub near : (f : First) (h h' : List Event) → Beside ours f o h h' → Near (state_after ours f h) (state_after ours f h')
  unfolding state_after
  near f _ _ begin = record { sheet = refl; sessions = λ d m. refl }
  near f _ _ (shared i a b) = (equal (near f _ _ b) _ _ i a).left
  near f _ _ (one_more {h} {h'} {e} i m b) = own f h (near f h h' b) e i m
  near f _ _ (other_more {h} {h'} {e} i m b) = near_sym (own f h' (near_sym (near f h h' b)) e i m)
