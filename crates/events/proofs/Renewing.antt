-- An event on a sheet in the release before, and on the accepted one that is it with 2 in byte 0: the same outcome and answer, and so it goes on. Assumes nothing.
use Rattle.octets.proofs.Kit.{ℕ, ◌≤◌, ◌≡◌, refl, sym, ap, ap₂, ◌∙◌, Bool, true, false, cond, List, [], ◌∷◌, ◌++◌, eqb, length, get_or, arith, eqb-true}
use Rattle.octets.specs.Bytes.{bytes_of}
use Rattle.sheet.{specs.{Kind.{regions, properties, groups}, Entries.{base, start_of}, Agree.AgreeInside, Rules.{refusal_of, refusal_before}}, proofs.rules.Good.good}
use Rattle.sheet.proofs.{places.BodyPlaces.{start_first, start_up}, alike.{Buts.part_but, Sames.{count_same, start_same}}, promises.Verdicts.refused_none}
use Rattle.sheet.specs.Head as head
use Rattle.judge.specs.{Session.connected, declared.Session.Session}
use Rattle.device.specs.{declared.Sessions.Sessions, Sessions.{fresh_of, with_session, session_of, session_for}}
use Rattle.device.specs.Events.{State, Effect, connect_of, disconnect_of, button_outcome, button_sheet, request_of}
use Rattle.device.proofs.apart.Renewing.{Fronted, Renews, splice_fronted, fronted, again, let_be, inside_both, request_same, request_renews, press_renews}
use Rattle.versions.specs.{Store.version_in, Settings.{front, many, entries_long, bodies_long, settings_of, restored, SameEntries, LowCounts}}
use Rattle.versions.{specs.Restoring.{restore_by, left_by, restore_outcome, restore_sheet}, proofs.promises.Dues.allowed}
use Rattle.versions.proofs.promises.Restores as re
use Rattle.events.specs.{Events.{Event, connect, disconnect, button, request, restore, leaves, run_by, event_of, after, run}, Before.{event_before, run_before}}
use Rattle.events.proofs.RestoreBut.{long_same, base_same, restored_alike}

-- a restore
module _ {s s' : List ℕ} (r : Renews s s') (q : Session) (st : List ℕ) (n : ℕ) where
  pub restore_same : restore_by (refusal_before s) q s st n ≡ restore_outcome q s' st n
  unfolding restore_outcome
  restore_same =
      ap (λ (m : ℕ). restore_by m q s st n) (let_be r ∙ sym (refused_none s' r.accepted))
      ∙ restored_alike (inside_both r) q st n (refusal_of s')

  left : SameEntries s' (version_in st n) → Fronted (get_or s 0 0) (restored s' (version_in st n)) (restored s (version_in st n))
  unfolding restored
  left same =
      rw (long_same (inside_both r), base_same (inside_both r), start_same (inside_both r) properties (omega arith))
      (splice_fronted (splice_fronted (fronted r) _ _ (re.fits₁ r.accepted same)) _ _ (re.fits₂ r.accepted same))

  given : SameEntries s' (version_in st n) → LowCounts s' (version_in st n) → Renews (restored s (version_in st n)) (restored s' (version_in st n))
  given same low = again r (re.restored_agrees r.accepted same low) (left same)

  pub restore_renews : Renews (left_by (restore_by (refusal_before s) q s st n) s st n) (restore_sheet q s' st n)
  unfolding restore_sheet
  restore_renews = rw restore_same (go (eqb (restore_outcome q s' st n) 1) refl)
    where
      go : (t : Bool) → eqb (restore_outcome q s' st n) 1 ≡ t → Renews (cond t (restored s (version_in st n)) s) (cond t (restored s' (version_in st n)) s')
      go true e = let k = allowed q s' st n (eqb-true _ 1 e) in given k.same k.low
      go false e = r

-- what a save takes
pub settings_same : {s s' : List ℕ} → Renews s s' → settings_of s ≡ settings_of s'
unfolding settings_of
settings_same {s} {s'} r =
    rw (count_same a properties, base_same a, start_same a properties (omega arith), start_same a groups (omega arith))
    (ap₂ (λ (x y : List ℕ). bytes_of front (many s') ++ (x ++ y))
    (part_but r.others (base s' properties) (entries_long s') (λ j l e. omega arith))
    (part_but r.others (start_of s' properties) (bodies_long s') (λ j l e. omega (arith, after_head))))
  where
    a : AgreeInside s' s
    a = inside_both r

    after_head : head.size ≤ start_of s' properties
    after_head = omega (arith, start_first s', start_up (good s' r.accepted) regions (omega arith))

-- two devices with the same sessions, the one with a sheet that renews the other's
pub record Succeeds (x x' : State) : Type 0 where
  pub sessions : x'.sessions ≡ x.sessions
  pub sheet : Renews x.sheet x'.sheet

-- and what an event gives on both
pub record EffectsAlike (r r' : Effect) : Type 0 where
  pub outcome : r'.outcome ≡ r.outcome
  pub answer : r'.answer ≡ r.answer
  pub next : Succeeds (leaves r) (leaves r')

pub event_alike : (x x' : State) (e : Event) → Succeeds x x' → EffectsAlike (event_before x e) (event_of x' e)
unfolding event_before event_of request_of button_outcome button_sheet
event_alike x x' (connect c) t =
    record { outcome = refl; answer = refl; next = record { sessions = ap (λ (q : Sessions). connect_of q c) t.sessions; sheet = t.sheet } }
event_alike x x' (disconnect c) t =
    record { outcome = refl; answer = refl; next = record { sessions = ap (λ (q : Sessions). disconnect_of q c) t.sessions; sheet = t.sheet } }
event_alike x x' (button on) t =
    let r = t.sheet in
    rw (let_be r, r.accepted)
    record { outcome = refl; answer = refl; next = record { sessions = t.sessions; sheet = press_renews r on } }
event_alike x x' (request mode c group a out) t =
    let r = t.sheet in
    let k = request_same r (length out) (session_for x.sessions mode c) mode group a in
    rw t.sessions
    record {
      outcome = sym k.outcome;
      answer = sym k.answer;
      next =
          record {
            sessions =
                ap₂ (λ (b : Bool) (q : Session). cond b fresh_of (cond (eqb mode connected) (with_session x.sessions c q) x.sessions))
                (sym k.restarts) (sym k.session);
            sheet = request_renews r (length out) (session_for x.sessions mode c) mode group a;
          };
    }
event_alike x x' (restore c n st) t =
    let r = t.sheet in
    let q : Session = session_of x.sessions c in
    rw t.sessions
    record {
      outcome = sym (restore_same r q st n);
      answer = refl;
      next = record { sessions = refl; sheet = restore_renews r q st n };
    }

pub run_alike : (x x' : State) (es : List Event) → Succeeds x x' → Succeeds (run_before x es) (run x' es)
unfolding run_by after
run_alike x x' [] t = t
run_alike x x' (e ∷ es) t = run_alike (leaves (event_before x e)) (after x' e) es (event_alike x x' e t).next
