-- WHATEVER CALLS A HOST MIXES, what they leave is what their history says: so demand 3, and what goes with it, holds of any of them in any order. Assumes nothing.
use Rattle.octets.proofs.Kit.{ℕ, ◌≤◌, ◌<◌, ◌≡◌, refl, sym, ap, ap₂, subst, ◌∙◌, Bool, true, false, cond, List, [], ◌∷◌, ◌++◌, reverse, append_assoc, length, drop, ltb, arith, ltb-false}
use Rattle.octets.specs.Octets.{Octets}
use Rattle.sheet.{specs.Rules.Accepted, proofs.promises.Converting.convert_other}
use Rattle.device.specs.{Events.State, Sessions.session_of}
use Rattle.versions.specs.{Saving.SavedAs, Sequence.{Change, changed, changed_all, AllSpare}, declared.saving.Saved.Saved}
use Rattle.events.specs.Events.{Event, run}
use Rattle.history.specs.{History.{First, opened, level}, Keeps.{state_after, Begins, AllOctets, Kept}, Keyless.{NotOffered, Closed, Protected}, Isolation.Beside, Rightful.ours}
use Rattle.history.{specs.{Secret.{Hide, NoneBelow, AllAlike}, Calls.Follows, Restored.BroughtBack}, proofs.promises.{Keep.keeps, Keyless.locked}}
use Rattle.history.proofs.promises.{Calls.{call_follows, run_follows, calls_keep, keyless_calls, isolated_calls}, Unlearned.unlearned_calls, RestoredLater.restored_over_history}
use Rattle.account.{specs.Account.Traced, proofs.promises.Accounts.accounts_calls}
use Rattle.link.specs.{Serving.{longest, apdu_of, serve_of, ServedFrame}, Net.{Net, net_of, state_of, first_net, heard_in, events_of, frame, net_by}, declared.{Link.Link, Served.Served}}
use Rattle.link.{specs.declared.Arrived.{Arrived, TheVariants.{Request, Connect, Disconnect, Nothing}}, proofs.promises.{Kept.octets_apdu, Tied.served_is}}
use Rattle.playback.specs.{Trace.{count, events_from, trace_of}, Playing.played_of, Marking.{mark_handled, mark_played}}
use Rattle.playback.proofs.promises.PlayKeeps.{all_take, all_drop, all_reverse, all_from, all_history}
use Rattle.host.specs.{Bus.gave_served, Calls.Restores}
use Rattle.host.specs.Steps.{served_events, Step, calls, converts, plays, marks, serves, Steps, begin, next, House, Turn, steps, saving, removing, Turns, start, go_on}
use Rattle.host.specs.declared.Answered.{Answered}

-- a frame is one event or none, and brings bytes
one_way : (r : Arrived) (a : List ℕ) → reverse (events_of r a) ≡ events_of r a
one_way (Request mode c group) a = refl
one_way (Connect c) a = refl
one_way (Disconnect c) a = refl
one_way (Nothing n c) a = refl

heard_octets : (r : Arrived) (a : List ℕ) → Octets a → AllOctets (events_of r a)
heard_octets (Request mode c group) a o = (o, tt)
heard_octets (Connect c) a o = (tt, tt)
heard_octets (Disconnect c) a o = (tt, tt)
heard_octets (Nothing n c) a o = tt

by_run : (x : Net) (b : List ℕ) → state_of (net_by x (frame b)) ≡ run (state_of x) (events_of (heard_in x b) (apdu_of b))
unfolding net_by
by_run x b = refl

-- A FRAME SERVED
module _ (x : Net) (sequence : ℕ) (b o : List ℕ) (r : Answered) (k' : Link) (s' o' : List ℕ) (call : ServedFrame x.link sequence b x.sheet o (gave_served r k') s' o') where
  -- no room: all as found
  no_room_lem : ltb (length o) longest ≡ true → net_of k' s' ≡ x
  unfolding serve_of
  no_room_lem e =
      let d = call.did in
      ap₂ net_of (ap (λ (q : Served). q.link) d.result) d.sheet
      ∙ rw e refl

  serve_follows : {f : First} {h : List Event} → Follows f h (state_of x) → Follows f (served_events x b (length o) ++ h) (state_of (net_of k' s'))
  serve_follows {f} {h} k = go (ltb (length o) longest) refl
    where
      es : List Event
      es = events_of (heard_in x b) (apdu_of b)

      go : (t : Bool) → ltb (length o) longest ≡ t → Follows f (cond t [] (events_of (heard_in x b) (apdu_of b)) ++ h) (state_of (net_of k' s'))
      go true e = subst (λ (y : Net). Follows f h (state_of y)) (sym (no_room_lem e)) k
      go false e =
          let w = one_way (heard_in x b) (apdu_of b) in
          subst (λ (l : List Event). Follows f (l ++ h) (state_of (net_of k' s'))) w
          (run_follows (events_of (heard_in x b) (apdu_of b)) k (subst AllOctets (sym w) (heard_octets (heard_in x b) (apdu_of b) (octets_apdu b call.frame_bytes)))
          (ap state_of (served_is x.link sequence b x.sheet o (gave_served r k') s' o' call (ltb-false (length o) longest e)) ∙ by_run x b))

-- and so do the events of a trace that are played with marks
marked_octets : (s t : List ℕ) (from limit : ℕ) (log : List ℕ) (played : ℕ) (v m : List ℕ) → Octets t → AllOctets (reverse (mark_played s t from limit log played v m))
unfolding mark_played trace_of
marked_octets s t from limit log played v m o =
    all_reverse (mark_played s t from limit log played v m)
    (all_take (mark_handled s t from limit log played v m) (drop from (events_from t 0 (count t))) (all_drop from (events_from t 0 (count t)) (all_from t o (count t) 0)))

-- ONE CALL MORE
pub step_follows : {f : First} {h : List Event} {x : Net} {es : List Event} {y : Net} → Begins f → Follows f h (state_of x) → Step x es y → Follows f (es ++ h) (state_of y)
step_follows b k (calls c) = call_follows k c
step_follows {f} {h} {x = x} b k (converts r s' c) =
    let ok : Accepted x.sheet = subst (λ (z : State). Accepted z.sheet) (sym k.state) (keeps f h b k.octets).accepted in
    let same = (convert_other c (λ z. omega (arith, ok, z))).1 in
    record { state = ap (λ (s : List ℕ). record { sessions = x.link.sessions; sheet = s }) same ∙ k.state; octets = k.octets }
step_follows b k (plays t from limit log r q' s' log' p) =
    run_follows (played_of t from limit log) k (all_history t p.trace_bytes from limit log) p.did.state
step_follows {x = x} b k (marks t from limit log played v m r q' s' log' v' m' p) =
    run_follows (mark_played x.sheet t from limit log played v m) k (marked_octets x.sheet t from limit log played v m p.trace_bytes) p.did.state
step_follows {x = x} b k (serves sequence v o r k' s' o' p) = serve_follows x sequence v o r k' s' o' p k

-- ALL OF THEM: WHAT THEY LEAVE IS WHAT THEIR HISTORY LEFT. With it every promise of history/proofs/promises/Calls.antt and Unlearned.antt holds of them
pub mixed_follows : {x y : Net} {h : List Event} → Begins (first_net x) → Steps x h y → Follows (first_net x) h (state_of y)
unfolding state_after
mixed_follows b begin = record { state = refl; octets = tt }
mixed_follows b (next k c) = step_follows b (mixed_follows b k) c

-- runs one after the other
steps_on : {x y z : Net} {h g : List Event} → Steps x h y → Steps y g z → Steps x (g ++ h) z
steps_on k begin = k
steps_on {x} {z = z} {h} k (next {h = g} {es = es} l c) = subst (λ (t : List Event). Steps x t z) (sym (append_assoc es g h)) (next (steps_on k l) c)

module _ {x y : Net} {h : List Event} (b : Begins (first_net x)) (k : Steps x h y) where
  -- DEMAND 3
  pub mixed_keep : Kept ours (first_net x) h × (state_of y ≡ state_after ours (first_net x) h)
  mixed_keep = calls_keep b (mixed_follows b k)

  -- NOBODY WITHOUT THE KEY
  pub mixed_keyless : (l : ℕ) → l < 3 → Closed (first_net x) → NotOffered (first_net x) l h → Protected (first_net x) l (state_of y)
  mixed_keyless l low closed n =
      let q = locked l low (first_net x) closed h n in keyless_calls b (mixed_follows b k) l low closed (q 0) (q 1)

  -- WHO CHANGED WHAT, of every byte and of every level, and by what right
  pub mixed_accounts : Traced (first_net x) h (state_of y)
  mixed_accounts = accounts_calls b (mixed_follows b k)

  -- SAVED, MIXED ON AND RESTORED: a save after these calls, any calls after it, any changes of the store that spare the version, and a restore for a connection open at level 0
  pub mixed_restored :
      {st : List ℕ} {r : Saved} {st' : List ℕ} → Octets st → SavedAs y.sheet st r st' → r.outcome ≡ 0 →
      {g : List Event} {z : Net} → Steps y g z → (cs : List Change) → AllSpare r.number cs →
      (c : ℕ) → opened (first_net x) (g ++ h) c ≡ true → level (first_net x) (g ++ h) c ≡ 0 →
      (n : ℕ) (s' : List ℕ) → Restores z.link.sessions c z.sheet (changed_all cs st') r.number n s' → BroughtBack (first_net x) h (g ++ h) n s'
  mixed_restored {st} {r} {st'} small saved ok {g} {z} l cs spared c live zero n s' p =
      restored_over_history b (mixed_follows b k) st small (sym saved.outcome ∙ ok) cs (rw saved.number at spared) g (mixed_follows b (steps_on k l))
      (rw saved.store at p.store_bytes) c live zero n s'
      (rw (saved.store, saved.number) at p.did)

-- TWO TOOLS AT ONCE: two mixtures that differ in what the other tool may have sent alone leave the same sheet, and the same session of the first
pub mixed_isolated :
    {x y y' : Net} {h h' : List Event} (t o : ℕ) → (t ≡ o → ⊥) → Begins (first_net x) → Beside ours (first_net x) o h h' → Steps x h y → Steps x h' y' →
    (y.sheet ≡ y'.sheet) × (session_of y.link.sessions t ≡ session_of y'.link.sessions t)
mixed_isolated {x} t o n b s k k' = isolated_calls (first_net x) t o n s (mixed_follows b k) (mixed_follows b k')

-- NOTHING IS LEARNED below level q: mixtures with the same events, from sheets that hide it
pub mixed_unlearned :
    (q : ℕ) → q ≤ 3 → {x x' y y' : Net} {h h' : List Event} → Begins (first_net x) → Begins (first_net x') → x'.link.sessions ≡ x.link.sessions →
    Hide q x.sheet x'.sheet → AllAlike h h' → NoneBelow q (first_net x) h → Steps x h y → Steps x' h' y' →
    (y'.link.sessions ≡ y.link.sessions) × Hide q y.sheet y'.sheet
mixed_unlearned q few b b' s u r n k k' = unlearned_calls q few b s u r (mixed_follows b k) (mixed_follows b' k') n

-- WITH A STORE: what the calls leave of link and sheet is what their steps leave, and of the store what their changes leave
changed_on : (cs ds : List Change) (s : List ℕ) → changed_all (cs ++ ds) s ≡ changed_all ds (changed_all cs s)
unfolding changed_all
changed_on [] ds s = refl
changed_on (c ∷ cs) ds s = changed_on cs ds (changed c s)

turn_steps : {x : Net} {h es : List Event} {cs : List Change} {v u : House} → Steps x h v.net → Turn v es cs u → Steps x (es ++ h) u.net
turn_steps k (steps c) = next k c
turn_steps k (saving r st' p) = k
turn_steps k (removing n r st' p) = k

turn_store : {es : List Event} {cs : List Change} {v u : House} → Turn v es cs u → u.store ≡ changed_all cs v.store
unfolding changed_all changed
turn_store (steps c) = refl
turn_store (saving r st' p) = p.store
turn_store (removing n r st' p) = p.store

pub turns_are : {w v : House} {h : List Event} {cs : List Change} → Turns w h cs v → Steps w.net h v.net × (v.store ≡ changed_all cs w.store)
unfolding changed_all
turns_are start = (begin, refl)
turns_are {w} (go_on {cs = cs} {ds = ds} k c) =
    let p = turns_are k in
    (turn_steps p.0 c, turn_store c ∙ ap (changed_all ds) p.1 ∙ sym (changed_on cs ds w.store))

-- SAVED, MIXED ON AND RESTORED, all by calls: any, then a save, any but a removal of its version, a restore of it
pub turns_restored :
    {w v u : House} {h g : List Event} {cs ds : List Change} {r : Saved} {st' : List ℕ} → Begins (first_net w.net) → Turns w h cs v →
    Octets v.store → SavedAs v.net.sheet v.store r st' → r.outcome ≡ 0 →
    Turns record { net = v.net; store = st' } g ds u → AllSpare r.number ds →
    (c : ℕ) → opened (first_net w.net) (g ++ h) c ≡ true → level (first_net w.net) (g ++ h) c ≡ 0 →
    (n : ℕ) (s' : List ℕ) → Restores u.net.link.sessions c u.net.sheet u.store r.number n s' → BroughtBack (first_net w.net) h (g ++ h) n s'
turns_restored {u = u} {ds = ds} {r = r} b k small saved ok l spared c live zero n s' p =
    let m = turns_are l in
    mixed_restored b (turns_are k).0 small saved ok m.0 ds spared c live zero n s'
    (subst (λ (st : List ℕ). Restores u.net.link.sessions c u.net.sheet st r.number n s') m.1 p)
