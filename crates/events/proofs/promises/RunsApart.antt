-- Runs of events without a disputed request are the same under both rules. Assumes nothing.
use Rattle.octets.proofs.Kit.{ℕ, refl, ap, ap₂, Bool, cond, List, [], ◌∷◌, eqb, length, arith}
use Rattle.sheet.specs.Agree.{AgreeInside}
use Rattle.judge.specs.{Session.connected, declared.Session.Session}
use Rattle.device.specs.{declared.Sessions.Sessions, Sessions.{fresh_of, with_session, session_of, session_for}, Events.{State, connect_of, disconnect_of, request_of}}
use Rattle.device.{specs.Apart.{RulesByte, SameButRules, SameEffect, Together}, proofs.{apart.{StepBut.{press_outcome_lem, press_but}, Unseen.unseen}, promises.RulesApart.{seen, rules_apart}}}
use Rattle.versions.specs.Restoring.{restore_sheet}
use Rattle.events.specs.{Events.{Event, connect, disconnect, button, request, restore, event_of, after, run_by, run}, Apart.{Settled, AllSettled}}
use Rattle.events.proofs.{promises.Stays.stays, RestoreBut.{BothBut, restore_outcome_lem, restore_but}}

-- they agree on what the rules read, the number of the rules apart
agree : {s s' : List ℕ} → SameButRules s s' → AgreeInside s s'
agree b = unseen (seen b) tt

both : {s s' : List ℕ} → SameButRules s s' → BothBut RulesByte s s'
both b = record { accepted = b.accepted; accepted' = b.accepted'; others = b.others }

-- what a restore on them leaves
apart_restored : {s s' : List ℕ} → SameButRules s s' → (q : Session) (st : List ℕ) (n : ℕ) → SameButRules (restore_sheet q s st n) (restore_sheet q s' st n)
apart_restored b q st n =
    let k = restore_but (agree b) (both b) q st n in
    record { accepted = k.accepted; accepted' = k.accepted'; others = k.others }

-- AN EVENT THAT IS NO DISPUTED REQUEST
pub event_apart : (x x' : State) (e : Event) → Together x x' → Settled e → SameEffect (event_of x e) (event_of x' e)
unfolding event_of request_of
event_apart x x' (connect c) t u =
    record { outcome = refl; answer = refl; sessions = ap (λ (q : Sessions). connect_of q c) t.sessions; sheet = t.sheet }
event_apart x x' (disconnect c) t u =
    record { outcome = refl; answer = refl; sessions = ap (λ (q : Sessions). disconnect_of q c) t.sessions; sheet = t.sheet }
event_apart x x' (button on) t u =
    let b = t.sheet in
    record {
      outcome = press_outcome_lem b.others b.accepted b.accepted' on;
      answer = refl;
      sessions = t.sessions;
      sheet =
          record {
            accepted = unfold after in stays x (button on) b.accepted;
            accepted' = unfold after in stays x' (button on) b.accepted';
            others = press_but b.others b.accepted b.accepted' on (λ j l e. omega arith);
          };
    }
event_apart x x' (request mode c group a out) t u =
    let k = rules_apart (length out) (session_for x.sessions mode c) mode group a t.sheet (u mode c group a out refl) in
    rw t.sessions
    record {
      outcome = k.outcome;
      answer = k.answer;
      sessions = ap₂ (λ (b : Bool) (q : Session). cond b fresh_of (cond (eqb mode connected) (with_session x.sessions c q) x.sessions)) k.restarts k.session;
      sheet = k.sheet;
    }
event_apart x x' (restore c n st) t u =
    let b = t.sheet in
    let q : Session = session_of x.sessions c in
    rw t.sessions
    record {
      outcome = restore_outcome_lem (agree b) (both b) q st n;
      answer = refl;
      sessions = refl;
      sheet = apart_restored b q st n;
    }

-- THE STATES AFTER A RUN
pub runs_apart : (x x' : State) (es : List Event) → Together x x' → AllSettled es → Together (run x es) (run x' es)
unfolding run_by after
runs_apart x x' [] t c = t
runs_apart x x' (e ∷ es) t c =
    let k = event_apart x x' e t c.0 in
    runs_apart (after x e) (after x' e) es (record { sessions = k.sessions; sheet = k.sheet }) c.1

-- AND EVERY EVENT'S OUTCOME AND ANSWER, whatever went before
pub steps_apart :
    (x x' : State) (es : List Event) (e : Event) → Together x x' → AllSettled es → Settled e → SameEffect (event_of (run x es) e) (event_of (run x' es) e)
steps_apart x x' es e t c d = event_apart (run x es) (run x' es) e (runs_apart x x' es t c) d
