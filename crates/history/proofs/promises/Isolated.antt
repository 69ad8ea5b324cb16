-- ISOLATION: what one tool sees of our device does not depend on what the other sends, as long as that changes nothing. From any sheet and any sessions.
use Rattle.octets.proofs.Kit.{ℕ, ◌≡◌, List}
use Rattle.events.specs.Events.{Event}
use Rattle.history.specs.{History.First, Keeps.{Device, Begins, AllOctets}, Rightful.{Rightful, ours}}
use Rattle.history.specs.Isolation.{Beside, begin, shared, one_more, other_more, Seen, Isolated, SameFor, Along, AllHarmless, without}
use Rattle.history.proofs.{promises.OneDevice.{one_state, one_device}, apart.{Near.{near, equal}, Besides.{beside_ours, beside_without}}}

-- ISOLATION
pub isolated : Isolated ours
isolated f t o n h h' b =
    let s = near o f h h' b in
    record {
      sheet = s.sheet;
      session = s.sessions t n;
      outcome = λ e e' i a. (equal o s e e' i a).outcome;
      answer = λ e e' i a. (equal o s e e' i a).answer;
    }

-- AND ALL THE WAY, of any device that isolates
module _ (step : Device) (isolates : Isolated step) (f : First) (t o : ℕ) (n : t ≡ o → ⊥) where
  same_for : {h h' : List Event} → Beside step f o h h' → SameFor step f t h h'
  same_for b = let s = isolates f t o n _ _ b in (s.sheet, s.session)

  pub along : {h h' : List Event} (b : Beside step f o h h') → Along step f t o b
  along begin = tt
  along (shared {h} {h'} {e} {e'} i a b) =
      let s = isolates f t o n h h' b in (s.outcome e e' i a, s.answer e e' i a, same_for (shared i a b), along b)
  along (one_more i m b) = (same_for (one_more i m b), along b)
  along (other_more i m b) = (same_for (other_more i m b), along b)

-- and so of ours
pub isolated_along : (f : First) (t o : ℕ) → (t ≡ o → ⊥) → {h h' : List Event} (b : Beside ours f o h h') → Along ours f t o b
isolated_along = along ours isolated

-- AND, from an accepted sheet, of any device that does what is due
module _ (step : Device) (rightful : (f : First) (h : List Event) → Rightful (step f h)) (f : First) (b : Begins f) where
  module _ (t o : ℕ) (n : t ≡ o → ⊥) where
    same_any : {h h' : List Event} → AllOctets h → AllOctets h' → Beside step f o h h' → SameFor step f t h h'
    same_any {h} {h'} k k' r =
        rw (one_state step rightful f b h k, one_state step rightful f b h' k') (same_for ours isolated f t o n (beside_ours step rightful f b k k' r))

    pub isolated_any : {h h' : List Event} → AllOctets h → AllOctets h' → (r : Beside step f o h h') → Along step f t o r
    isolated_any k k' begin = tt
    isolated_any k k' (shared {h} {h'} {e} {e'} i a r) =
        let s = isolated f t o n h h' (beside_ours step rightful f b k.1 k'.1 r) in
        let x = one_device step rightful f b h k.1 e k.0 in
        let y = one_device step rightful f b h' k'.1 e' k'.0 in
        (rw (x, y) (s.outcome e e' i a), rw (x, y) (s.answer e e' i a), same_any k k' (shared i a r), isolated_any k.1 k'.1 r)
    isolated_any k k' (one_more i m r) = (same_any k k' (one_more i m r), isolated_any k.1 k' r)
    isolated_any k k' (other_more i m r) = (same_any k k' (other_more i m r), isolated_any k k'.1 r)

-- OF ONE RUN: all that o sends might be left out, and nobody else would see it
pub left_out :
    (step : Device) → Isolated step → (f : First) (t o : ℕ) → (t ≡ o → ⊥) → (h : List Event) → AllHarmless step f o h →
    Seen step f t o h (without o h)
left_out step i f t o n h m = i f t o n h (without o h) (beside_without step f o h m)
