-- A LIFE WITH POWER CUTS IS THE HISTORY THAT IT IS TOLD AS: what it leaves is what that history leaves, and the medium has the sheet after as much of it as was kept. Assumes nothing.
use Rattle.octets.proofs.Kit.{ℕ, ◌≤◌, ◌≡◌, refl, sym, ap, ap₂, subst, ◌∙◌, Bool, true, false, cond, List, ◌∷◌, ◌++◌, append_assoc, arith, length}
use Rattle.sheet.{specs.Rules.Accepted, proofs.rules.Good.good}
use Rattle.slots.{specs.{Slot.longest, Medium.{sheet, Medium, choice, Broken}, Lives.Ready}, proofs.promises.{Numbered.ready_starts, Lives.{save_ready, cut_safe}}}
use Rattle.slots.specs.Lives as slot
use Rattle.device.specs.{Sessions.fresh_of, Events.State, declared.Sessions.Sessions}
use Rattle.events.specs.Events.{Event, event_of}
use Rattle.history.{specs.{History.First, Keeps.{state_after, Begins, AllOctets}, Rightful.ours, Calls.Follows}, proofs.promises.Keep.keeps}
use Rattle.link.specs.Net.{Net, state_of}
use Rattle.host.{specs.Steps.Steps, proofs.promises.Mixed.step_follows}
use Rattle.host.specs.Steps as calls
use Rattle.lives.specs.Life.{Running, Happening, Stored, there, stored, Starts, starts, Goes, saves, waits, loses, Ran, begin, next, apart, tell, telling, told, kept, first_of, Begun}

-- an accepted sheet fits a slot
accepted_short : (s : List ℕ) → Accepted s → length s ≤ longest
accepted_short s a = omega (arith, (good s a).framed.1)

-- the sheet that a ready medium is started with
pub started_with : (s : List ℕ) (m : Medium) → Ready s m → (n : ℕ) (u : List ℕ) → choice m ≡ sheet n u → u ≡ s
started_with s m r n u e = go (ready_starts s m r)
  where
    go : slot.Starts s m → u ≡ s
    go (slot.starts k f) = cc

-- calls after a history
pub steps_follow : {f : First} {h : List Event} {x : Net} {es : List Event} {y : Net} → Begins f → Follows f h (state_of x) → Steps x es y → Follows f (es ++ h) (state_of y)
steps_follow b k calls.begin = k
steps_follow {f} {h} {y = y} b k (calls.next {h = g} {es = es} l c) =
    subst (λ (t : List Event). Follows f t (state_of y)) (sym (append_assoc es g h)) (step_follows b (steps_follow b k l) c)

module _ (f : First) where
  abbrev pub At : List Event → State
  At es = state_after ours f es

  -- a cut, and then a start
  restarted : (ks : List Event) (q : Sessions) (s : List ℕ) → q ≡ fresh_of → s ≡ (At ks).sheet → record { sessions = q; sheet = s } ≡ At (apart ks)
  unfolding state_after event_of
  restarted ks q s d e = ap₂ (λ (p : Sessions) (z : List ℕ). record { sessions = p; sheet = z }) d e

  pub same_sheet : (ks : List Event) → (At ks).sheet ≡ (At (apart ks)).sheet
  unfolding state_after event_of
  same_sheet ks = refl

  -- AFTER A LIFE that is the history es, of which the medium has ks
  pub record After (es ks : List Event) (y : Running) : Type 0 where
    pub follows : Follows f es (state_of y.net)
    pub octets : AllOctets ks
    pub ready : Ready (At ks).sheet y.medium

  -- a start on a ready medium
  starting : (ks : List Event) (m : Medium) {y : Running} → AllOctets ks → Ready (At ks).sheet m → Starts m y → After (apart ks) (apart ks) y
  starting ks m o r (starts k n u d e) =
      record {
        follows = record { state = restarted ks k.sessions u d (started_with (At ks).sheet m r n u e); octets = (tt, (tt, o)) };
        octets = (tt, (tt, o));
        ready = subst (λ (z : List ℕ). Ready z m) (same_sheet ks) r;
      }

  module _ (b : Begins f) {es ks : List Event} {y : Running} (a : After es ks y) where
    -- a save of the sheet u after the history gs, done or cut
    module _ (gs : List Event) (u : State) (k : Follows f gs u) where
      is : u.sheet ≡ (At gs).sheet
      is = ap (λ (z : State). z.sheet) k.state

      fits : length u.sheet ≤ longest
      fits = accepted_short u.sheet (subst Accepted (sym is) (keeps f gs b k.octets).accepted)

      store : {m : Medium} → Stored u.sheet y.medium m → Ready (At gs).sheet m
      store (there n c) =
          subst (λ (z : List ℕ). Ready z y.medium) (sym (started_with (At ks).sheet y.medium a.ready n u.sheet c) ∙ is) a.ready
      store {m} (stored d) = subst (λ (z : List ℕ). Ready z m) is (save_ready (At ks).sheet u.sheet y.medium fits a.ready d)

      break : (set : Bool) {m : Medium} {z : Running} → Broken set u.sheet y.medium m → Starts m z → After (apart (cond set gs ks)) (apart (cond set gs ks)) z
      break set {m} {z} d s = by set (cut_safe (At ks).sheet u.sheet y.medium fits set a.ready d)
        where
          by : (t : Bool) → Ready (cond t u.sheet (At ks).sheet) m → After (apart (cond t gs ks)) (apart (cond t gs ks)) z
          by true r = starting gs m k.octets (subst (λ (v : List ℕ). Ready v m) is r) s
          by false r = starting ks m a.octets r s

  -- ONE THING MORE
  goes : (b : Begins f) (h : List Happening) {y z : Running} {i : Happening} → After (told h) (kept h) y → Goes y i z → After (told (i ∷ h)) (kept (i ∷ h)) z
  unfolding telling tell
  goes b h a (saves {es = es} {y = v} s d) =
      let k = steps_follow b a.follows s in
      record { follows = k; octets = k.octets; ready = store b a (es ++ told h) (state_of v) k d }
  goes b h a (waits s) = record { follows = steps_follow b a.follows s; octets = a.octets; ready = a.ready }
  goes b h a (loses {es = es} {y = v} {set = set} s d t) = break b a (es ++ told h) (state_of v) (steps_follow b a.follows s) set d t

-- ALL OF IT
pub lived : {x y : Running} {h : List Happening} → Begun x → Ran x h y → After (first_of x) (told h) (kept h) y
unfolding telling state_after
lived b begin = record { follows = record { state = refl; octets = tt }; octets = tt; ready = b.ready }
lived {x} b (next {h = h} k g) = goes (first_of x) b.begins h (lived b k) g
