-- NOTHING IS LEARNED of a byte whose read level is below q, while no level is: over runs, of ours, of any device that does what is due, of the calls; and by a laptop without a key.
use Rattle.octets.proofs.Kit.{ℕ, ◌+◌, ◌<◌, ◌≤◌, ◌≡◌, refl, sym, ap, ap₂, subst, ◌∙◌, Bool, true, List, [], ◌∷◌, length, arith}
use Rattle.sheet.{specs.{Agree.Agree, But.But}, proofs.{rules.Good.good, promises.Agrees.both_or_neither}}
use Rattle.sheet.specs.Head as head
use Rattle.judge.specs.declared.Session.{Session}
use Rattle.device.specs.{declared.Sessions.Sessions, Sessions.{session_of, session_for, turned_of}, Events.{State, Effect, connect_of, disconnect_of, request_of}}
use Rattle.device.proofs.apart.StepBut.{press_outcome_lem, press_but}
use Rattle.events.{specs.Events.{Event, connect, disconnect, button, request, restore, event_of, after}, proofs.{promises.Stays.agrees, RestoreBut.{BothBut, restore_outcome_lem, restore_but}}}
use Rattle.history.specs.{History.{First, opened, level}, Keeps.{Device, state_after, Begins, BringsOctets, AllOctets}, Keyless.{Locked, NotOffered, Closed}}
use Rattle.history.specs.{Isolation.{Alike, same, as_long}, Rightful.{Rightful, ours}, Calls.{Call, Follows}}
use Rattle.history.specs.Secret.{Secret, Hide, NoneBelow, AllAlike, none, more, NothingTold, NothingToldAlong, Unlearned}
use Rattle.history.proofs.{promises.{Calls.call_is, Keep.keeps, Keyless.{all_shut, locked}}, heard.Meets.meets}
use Rattle.history.proofs.promises.{NothingShown.{secret_after, secret_same, hidden_agree, nothing_shown}, OneDevice.one_device}

-- the sheets after an event still hide q
still_hidden :
    {q : ℕ} {s s' t t' : List ℕ} → Hide q s s' → Agree s t → Agree s' t' → But (Secret s q) t t' → Hide q t t'
still_hidden {q} b a a' o =
    record {
      accepted = (both_or_neither a).0 b.accepted;
      accepted' = (both_or_neither a').0 b.accepted';
      others = record { long = o.long; others = λ p n. o.others p (λ x. n (secret_same a q p x)) };
    }

-- ONE EVENT on two states, no open session of which has a level below q
module _ (q : ℕ) (few : q ≤ 3) (x x' : State) (t : x'.sessions ≡ x.sessions) (b : Hide q x.sheet x'.sheet)
    (weak : (c : ℕ) → (session_of x.sessions c).opened ≡ true → q ≤ (session_of x.sessions c).level) where
  hides : (e e' : Event) → But (Secret x.sheet q) (event_of x e).sheet (event_of x' e').sheet → Hide q (event_of x e).sheet (event_of x' e').sheet
  hides e e' o =
      still_hidden b (unfold after in agrees x e b.accepted) (unfold after in agrees x' e' b.accepted') o

  requested :
      (mode c g : ℕ) (a out out' : List ℕ) → length out ≡ length out' →
      NothingTold q (event_of x (request mode c g a out)) (event_of x' (request mode c g a out'))
  unfolding event_of request_of
  requested mode c g a out out' e =
      let k = nothing_shown b few (length out) (session_for x.sessions mode c) mode g a
      (λ m o. let z = meets x.sessions mode c m in subst (λ (u : Session). q ≤ u.level) (sym z) (weak c (ap (λ (u : Session). u.opened) (sym z) ∙ o))) in
      record {
        outcome = rw (t, ← e) k.outcome;
        answer = rw (t, ← e) k.answer;
        sessions = rw (t, ← e) (ap₂ (λ (r : Bool) (u : Session). turned_of x.sessions mode c r u) k.restarts k.session);
        sheet = hides (request mode c g a out) (request mode c g a out') (rw (t, ← e) k.sheet);
      }

  told_same : (e : Event) → NothingTold q (event_of x e) (event_of x' e)
  unfolding event_of
  told_same (connect c) =
      record { outcome = refl; answer = refl; sessions = ap (λ (u : Sessions). connect_of u c) t; sheet = b }
  told_same (disconnect c) =
      record { outcome = refl; answer = refl; sessions = ap (λ (u : Sessions). disconnect_of u c) t; sheet = b }
  told_same (button on) =
      record {
        outcome = press_outcome_lem b.others b.accepted b.accepted' on;
        answer = refl;
        sessions = t;
        sheet =
            hides (button on) (button on)
            (press_but b.others b.accepted b.accepted' on
            (λ j l y. omega (arith, secret_after (good x.sheet b.accepted) q ((head.flags).at + j) y)));
      }
  told_same (request mode c g a out) = requested mode c g a out out refl
  told_same (restore c n st) =
      let v : BothBut (Secret x.sheet q) x.sheet x'.sheet = record { accepted = b.accepted; accepted' = b.accepted'; others = b.others } in
      let k : Session = session_of x.sessions c in
      record {
        outcome = rw t (restore_outcome_lem (hidden_agree b) v k st n);
        answer = refl;
        sessions = t;
        sheet = hides (restore c n st) (restore c n st) (rw t (restore_but (hidden_agree b) v k st n).others);
      }

  pub told : (e e' : Event) → Alike e e' → NothingTold q (event_of x e) (event_of x' e')
  told _ _ (same e) = told_same e
  told _ _ (as_long k) = requested _ _ _ _ _ _ k

-- the other run brings bytes too
alike_octets : (e e' : Event) → Alike e e' → BringsOctets e → BringsOctets e'
alike_octets _ _ (same e) o = o
alike_octets _ _ (as_long k) o = o

all_alike_octets : (h h' : List Event) → AllAlike h h' → AllOctets h → AllOctets h'
all_alike_octets _ _ none o = tt
all_alike_octets _ _ (more a r) o = (alike_octets _ _ a o.0, all_alike_octets _ _ r o.1)

-- RUNS
module _ (q : ℕ) (few : q ≤ 3) (f f' : First) (b : Begins f) (s : f'.sessions ≡ f.sessions) (u : Hide q f.sheet f'.sheet) where
  -- the levels that the history has are those of the sessions
  weak_now :
      (h : List Event) → AllOctets h → ((c : ℕ) → opened f h c ≡ true → q ≤ level f h c) →
      (c : ℕ) → (session_of (state_after ours f h).sessions c).opened ≡ true → q ≤ (session_of (state_after ours f h).sessions c).level
  weak_now h o w c e =
      let z = keeps f h b o in
      subst (λ (n : ℕ). q ≤ n) (sym (z.rights c)) (w c (sym (z.session c) ∙ e))

  -- the states
  beside :
      (h h' : List Event) → AllAlike h h' → AllOctets h → NoneBelow q f h →
      ((state_after ours f' h').sessions ≡ (state_after ours f h).sessions) × Hide q (state_after ours f h).sheet (state_after ours f' h').sheet
  unfolding state_after
  beside _ _ none o n = (s, u)
  beside _ _ (more {e} {e'} {h} {h'} a r) o n =
      let i = beside h h' r o.1 n.1 in
      let z = told q few (state_after ours f h) (state_after ours f' h') i.0 i.1 (weak_now h o.1 n.0) e e' a in
      (z.sessions, z.sheet)

  -- one event more
  next_told :
      (h h' : List Event) → AllAlike h h' → AllOctets h → NoneBelow q f h → ((c : ℕ) → opened f h c ≡ true → q ≤ level f h c) →
      (e e' : Event) → Alike e e' → NothingTold q (event_of (state_after ours f h) e) (event_of (state_after ours f' h') e')
  next_told h h' r o n w e e' a =
      let i = beside h h' r o n in
      told q few (state_after ours f h) (state_after ours f' h') i.0 i.1 (weak_now h o w) e e' a

  along : (h h' : List Event) (r : AllAlike h h') → AllOctets h → NoneBelow q f h → NothingToldAlong ours q f f' r
  along _ _ none o n = tt
  along _ _ (more {e} {e'} {h} {h'} a r) o n = (next_told h h' r o.1 n.1 n.0 e e' a, along h h' r o.1 n.1)

  -- NO LEVEL BELOW q IN THE OTHER RUN EITHER
  pub none_below_both : Begins f' → (h h' : List Event) → AllAlike h h' → AllOctets h → NoneBelow q f h → NoneBelow q f' h'
  none_below_both b' _ _ none o n = tt
  none_below_both b' _ _ (more {h = h} {h' = h'} a r) o n = (now, none_below_both b' h h' r o.1 n.1)
    where
      now : (c : ℕ) → opened f' h' c ≡ true → q ≤ level f' h' c
      now c e =
          let k = keeps f h b o.1 in
          let k' = keeps f' h' b' (all_alike_octets h h' r o.1) in
          let z = ap (λ (w : Sessions). session_of w c) (beside h h' r o.1 n.1).0 in
          let m : level f h c ≡ level f' h' c = sym (k.rights c) ∙ sym (ap (λ (w : Session). w.level) z) ∙ k'.rights c in
          let v : opened f h c ≡ opened f' h' c = sym (k.session c) ∙ sym (ap (λ (w : Session). w.opened) z) ∙ k'.session c in
          subst (λ (i : ℕ). q ≤ i) m (n.0 c (v ∙ e))

-- NOTHING IS LEARNED
pub unlearned : Unlearned ours
unlearned q few f f' b b' s u h h' r o n = along q few f f' b s u h h' r o n

-- OF ANY DEVICE THAT DOES WHAT IS DUE
module _ (step : Device) (rightful : (f : First) (h : List Event) → Rightful (step f h)) (q : ℕ) (f f' : First) (b : Begins f) (b' : Begins f') where
  as_ours : (h h' : List Event) (r : AllAlike h h') → AllOctets h → NothingToldAlong ours q f f' r → NothingToldAlong step q f f' r
  as_ours _ _ none o t = tt
  as_ours _ _ (more {e} {e'} {h} {h'} a r) o t =
      let z = one_device step rightful f b h o.1 e o.0 in
      let z' = one_device step rightful f' b' h' (all_alike_octets h h' r o.1) e' (alike_octets e e' a o.0) in
      (rw (z, z') t.0, as_ours h h' r o.1 t.1)

pub unlearned_any : (step : Device) → ((f : First) (h : List Event) → Rightful (step f h)) → Unlearned step
unlearned_any step rightful q few f f' b b' s u h h' r o n =
    as_ours step rightful q f f' b b' h h' r o (unlearned q few f f' b b' s u h h' r o n)

-- OF THE CALLS: what they leave, and what the next ones give
module _ (q : ℕ) (few : q ≤ 3) {f f' : First} (b : Begins f) (s : f'.sessions ≡ f.sessions) (u : Hide q f.sheet f'.sheet)
    {h h' : List Event} (r : AllAlike h h') {x x' : State} (k : Follows f h x) (k' : Follows f' h' x') (n : NoneBelow q f h) where
  pub unlearned_calls : (x'.sessions ≡ x.sessions) × Hide q x.sheet x'.sheet
  unlearned_calls = rw (k.state, k'.state) (beside q few f f' b s u h h' r k.octets n)

  pub unlearned_next :
      {e e' : Event} {p p' : Effect} → Alike e e' → ((c : ℕ) → opened f h c ≡ true → q ≤ level f h c) → Call x e p → Call x' e' p' → NothingTold q p p'
  unlearned_next {e} {e'} a w d d' =
      rw ((call_is d).0, (call_is d').0, k.state, k'.state) (next_told q few f f' b s u h h' r k.octets n w e e' a)

-- A LAPTOP WITHOUT A KEY of a level up to l: no open connection has a level below l + 1
module _ (l : ℕ) (low : l < 3) (f : First) (closed : Closed f) where
  pub keyless_blind : (h : List Event) → Locked f l 0 h → Locked f l 1 h → NoneBelow (l + 1) f h
  keyless_blind [] p q = tt
  keyless_blind (e ∷ h) p q =
      (λ c o. omega (arith, (all_shut l low f closed h p.1 q.1 c).rights o), keyless_blind h p.1 q.1)

  -- so where no key of the first sheet is offered
  pub unoffered_blind : (h : List Event) → NotOffered f l h → NoneBelow (l + 1) f h
  unoffered_blind h o = let k = locked l low f closed h o in keyless_blind h (k 0) (k 1)
