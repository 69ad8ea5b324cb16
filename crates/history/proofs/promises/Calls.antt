-- THE CALLS: whatever calls a host makes, demand 3 and what goes with it hold of what the last one left, and of what the next one gives. All that is asked of them is that
-- they follow a history; `calls_after` says it of runs of `Call`, host's `mixed_follows` of any mixture.
use Rattle.octets.proofs.Kit.{ℕ, ◌<◌, ◌≤◌, ◌≡◌, refl, sym, ap, ap₂, subst, ◌∙◌, true, false, List, [], ◌∷◌, ◌++◌, reverse}
use Rattle.std.proofs.Common.{Ok}
use Rattle.sheet.specs.{Head.rules_of, declared.Memory.Memory}
use Rattle.pdu.specs.{Read.read_pdu, declared.Pdu.TheVariants.PropertyValueRead}
use Rattle.device.{specs.{Sessions.session_of, Events.{Effect, State}, MemoryDue.reading, Due.ButtonDue, Apart.{SameEffect, Together}}, proofs.promises.Called.{call_due, call_only}}
use Rattle.device.proofs.promises.Dues.{connect_due, connect_only, disconnect_due, disconnect_only, button_due, button_only, request_due}
use Rattle.events.{specs.{Events.{Event, button, request, restore, event_of, run}, Due.RestoreDue, Apart.{Settled, AllSettled}}, proofs.promises.Dues.{restore_due, restore_only}}
use Rattle.events.proofs.promises.RunsApart.{event_apart}
use Rattle.history.specs.{History.{First, permitted}, Keeps.{state_after, CarriedOut, BringsOctets, AllOctets, Begins, Kept}, Keyless.{Locked, Closed, Protected}}
use Rattle.history.specs.{Shown.{Shows, MemoryShows}, Isolation.{is_of, Alike, Beside}, Rightful.ours}
use Rattle.history.specs.Calls.{Call, connects, disconnects, presses, requests, Calls, begin, next, restores, Follows, EventDue}
use Rattle.history.proofs.promises.{InOrder.{first_state, run_on}, Isolated.isolated, Keep.keeps, Keyless.{shut_device, keyless_device}, MemoryShown.ours_memory_shown}
use Rattle.history.proofs.promises.{RulesStay.rules_stay, Shown.ours_shown}

-- A CALL GIVES WHAT ITS EVENT GIVES, and it brought bytes
pub call_is : {x : State} {e : Event} {r : Effect} → Call x e r → (r ≡ event_of x e) × BringsOctets e
unfolding event_of
call_is (connects c) = (refl, tt)
call_is (disconnects c) = (refl, tt)
call_is {x} (presses on r s' p) =
    (ap₂ (λ (n : ℕ) (s : List ℕ). record { outcome = n; answer = []; sessions = x.sessions; sheet = s }) p.outcome p.sheet, tt)
call_is {x} (requests mode c g a out r s' o' k) = (
  sym
      (call_only x.sessions mode c g a x.sheet out r s' o' k (event_of x (request mode c g a out))
      (request_due x mode c g a out k.sheet_bytes k.apdu_bytes)),
  k.apdu_bytes,
)
call_is {x} (restores c n st r s' small p) =
    (ap₂ (λ (n : ℕ) (s : List ℕ). record { outcome = n; answer = []; sessions = x.sessions; sheet = s }) p.outcome p.after, small)

-- DEMAND 2: WHAT A CALL DOES IS WHAT IS DUE for its event
pub calls_due : {x : State} {e : Event} {r : Effect} → Call x e r → EventDue e x r
unfolding event_of
calls_due {x} (connects c) = connect_due x c
calls_due {x} (disconnects c) = disconnect_due x c
calls_due {x} (presses on r s' p) = let d : Call x (button on) _ = presses on r s' p in subst (ButtonDue on x) (sym (call_is d).0) (button_due x on)
calls_due {x} (requests mode c g a out r s' o' k) = call_due x.sessions mode c g a x.sheet out r s' o' k
calls_due {x} (restores c n st r s' small p) =
    let d : Call x (restore c n st) _ = restores c n st r s' small p in subst (RestoreDue c n st x) (sym (call_is d).0) (restore_due x c n st)

-- AND NOTHING ELSE IS
pub calls_only : {x : State} {e : Event} {r : Effect} → Call x e r → (y : Effect) → EventDue e x y → y ≡ r
unfolding event_of
calls_only {x} (connects c) y d = connect_only x c y d
calls_only {x} (disconnects c) y d = disconnect_only x c y d
calls_only {x} (presses on r s' p) y d = let k : Call x (button on) _ = presses on r s' p in button_only x on y d ∙ sym (call_is k).0
calls_only {x} (requests mode c g a out r s' o' k) y d = call_only x.sessions mode c g a x.sheet out r s' o' k y d
calls_only {x} (restores c n st r s' small p) y d =
    let k : Call x (restore c n st) _ = restores c n st r s' small p in restore_only x c n st y d ∙ sym (call_is k).0

-- ONE CALL MORE, and a run of events more
pub call_follows :
    {f : First} {h : List Event} {x : State} {e : Event} {r : Effect} → Follows f h x → Call x e r → Follows f (e ∷ h) record { sessions = r.sessions; sheet = r.sheet }
unfolding state_after
call_follows {e = e} k c =
    let z = call_is c in
    record {
      state = ap (λ (t : Effect). record { sessions = t.sessions; sheet = t.sheet }) (z.0 ∙ ap (λ (y : State). event_of y e) k.state);
      octets = (z.1, k.octets);
    }

octets_append : (es h : List Event) → AllOctets es → AllOctets h → AllOctets (es ++ h)
octets_append [] h o p = p
octets_append (e ∷ es) h o p = (o.0, octets_append es h o.1 p)

pub run_follows :
    {f : First} {h : List Event} {x y : State} (es : List Event) → Follows f h x → AllOctets (reverse es) → y ≡ run x es → Follows f (reverse es ++ h) y
run_follows {f} {h} es k o e =
    record {
      state = e ∙ ap (λ (z : State). run z es) k.state ∙ run_on f es h;
      octets = octets_append (reverse es) h o k.octets;
    }

-- THE STATE AFTER CALLS is that after their events
pub calls_after : {f : First} {h : List Event} {x : State} → Calls f h x → Follows f h x
unfolding state_after
calls_after begin = record { state = refl; octets = tt }
calls_after (next k c) = call_follows (calls_after k) c

module _ {f : First} (b : Begins f) {h : List Event} {x : State} (k : Follows f h x) where
  -- DEMAND 3
  pub calls_keep : Kept ours f h × (x ≡ state_after ours f h)
  calls_keep = (keeps f h b k.octets, k.state)

  -- THE RULES
  pub rules_calls : rules_of x.sheet ≡ rules_of f.sheet
  rules_calls = rw k.state (rules_stay ours keeps f h b k.octets)

  -- NOBODY WITHOUT THE KEY
  module _ (l : ℕ) (low : l < 3) where
    pub shut_calls :
        (c : ℕ) → (session_of f.sessions c).opened ≡ false → Locked f l c h → (session_of x.sessions c).opened ≡ true → l < (session_of x.sessions c).level
    shut_calls c closed locked = rw k.state (shut_device l low ours keeps f b h k.octets c closed locked)

    pub keyless_calls : Closed f → Locked f l 0 h → Locked f l 1 h → Protected f l x
    keyless_calls closed p q = rw k.state (keyless_device l low ours keeps f b h k.octets closed p q)

  -- THE NEXT CALL
  module _ {e : Event} {r : Effect} (d : Call x e r) where
    gives : r ≡ event_of (state_after ours f h) e
    gives = (call_is d).0 ∙ ap (λ (y : State). event_of y e) k.state

    -- a write is carried out exactly if it is permitted
    pub calls_permit : (CarriedOut e r.outcome → permitted f h e ≡ true) × (permitted f h e ≡ true → CarriedOut e r.outcome)
    calls_permit =
        let z = calls_keep.0 in
        rw gives (z.only_permitted e (call_is d).1, z.all_permitted e (call_is d).1)

  module _ {mode c g : ℕ} {a out : List ℕ} {r : Effect} (d : Call x (request mode c g a out) r) (ok : r.outcome ≡ 0) where
    -- WHAT A READ SHOWS
    pub shown_calls : (object id n s : ℕ) → read_pdu a ≡ Ok (PropertyValueRead object id n s) → 1 ≤ s → Shows f h object id n s r
    shown_calls object id n s reads low =
        rw (gives d) (ours_shown f h b k.octets mode c g a out (call_is d).1 object id n s reads low (rw (gives d) at ok))

    pub memory_calls : (m : Memory) (n y : ℕ) → read_pdu a ≡ Ok (reading m n y) → MemoryShows f h mode c m n y r
    memory_calls m n y reads =
        rw (gives d) (ours_memory_shown f h b k.octets mode c g a out (call_is d).1 m n y reads (rw (gives d) at ok))

-- TWO TOOLS AT ONCE: after two histories
module _ (f : First) (t o : ℕ) (n : t ≡ o → ⊥) {h h' : List Event} (b : Beside ours f o h h') {x x' : State} (k : Follows f h x) (k' : Follows f h' x') where
  -- what they leave
  pub isolated_calls : (x.sheet ≡ x'.sheet) × (session_of x.sessions t ≡ session_of x'.sessions t)
  isolated_calls =
      let s = isolated f t o n h h' b in rw (k.state, k'.state) (s.sheet, s.session)

  -- and what the next calls give
  pub isolated_next :
      {e e' : Event} {r r' : Effect} → is_of o e ≡ false → Alike e e' → Call x e r → Call x' e' r' → (r.outcome ≡ r'.outcome) × (r.answer ≡ r'.answer)
  isolated_next {e} {e'} u a d d' =
      let s = isolated f t o n h h' b in
      rw ((call_is d).0, (call_is d').0, k.state, k'.state) (s.outcome e e' u a, s.answer e e' u a)

-- SHEETS THAT DIFFER IN THE NUMBER OF THE RULES ALONE: one call that is not disputed
pub apart_call : {x x' : State} {e : Event} {r r' : Effect} → Together x x' → Settled e → Call x e r → Call x' e r' → SameEffect r r'
apart_call {x} {x'} {e} t s d d' = rw ((call_is d).0, (call_is d').0) (event_apart x x' e t s)

-- and runs of such calls
pub apart_calls :
    {f f' : First} {h : List Event} {x x' : State} → Together (first_state f) (first_state f') → AllSettled h → Calls f h x → Calls f' h x' → Together x x'
apart_calls t c begin begin = t
apart_calls t c (next k d) (next k' d') =
    let z = apart_call (apart_calls t c.1 k k') c.0 d d' in record { sessions = z.sessions; sheet = z.sheet }
