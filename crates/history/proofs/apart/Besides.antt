-- Runs side by side: of any device that does what is due as of ours, and a run beside itself without what one tool sends.
use Rattle.octets.proofs.Kit.{ℕ, ◌≡◌, refl, Bool, true, false, cond, List, [], ◌∷◌, eqb}
use Rattle.octets.proofs.Truths.{never, and_is}
use Rattle.events.specs.Events.{Event, connect, disconnect, button, request, restore}
use Rattle.history.specs.{History.First, Keeps.{Device, Begins, BringsOctets, AllOctets}, Rightful.{Rightful, ours}}
use Rattle.history.specs.Isolation.{is_of, may_be_of, same, Harmless, Beside, begin, shared, one_more, other_more, AllHarmless, without}
use Rattle.history.proofs.promises.OneDevice.{one_state, one_device}

-- a run that is harmless by any device that does what is due is so by ours
module _ (step : Device) (rightful : (f : First) (h : List Event) → Rightful (step f h)) (f : First) (b : Begins f) where
  harmless_ours : (h : List Event) → AllOctets h → (e : Event) → BringsOctets e → Harmless step f h e → Harmless ours f h e
  harmless_ours h k (connect c) z m = tt
  harmless_ours h k (disconnect c) z m = tt
  harmless_ours h k (button on) z m = tt
  harmless_ours h k (request mode c g a out) z m =
      rw (one_device step rightful f b h k (request mode c g a out) z, one_state step rightful f b h k) at m
  harmless_ours h k (restore c n st) z m =
      rw (one_device step rightful f b h k (restore c n st) z, one_state step rightful f b h k) at m

  pub beside_ours : {o : ℕ} {h h' : List Event} → AllOctets h → AllOctets h' → Beside step f o h h' → Beside ours f o h h'
  beside_ours k k' begin = begin
  beside_ours k k' (shared i a r) = shared i a (beside_ours k.1 k'.1 r)
  beside_ours k k' (one_more {h} {h'} {e} i m r) = one_more i (harmless_ours h k.1 e k.0 m) (beside_ours k.1 k' r)
  beside_ours k k' (other_more {h} {h'} {e} i m r) = other_more i (harmless_ours h' k'.1 e k'.0 m) (beside_ours k k'.1 r)

-- what o sends it may have sent
may_be : (o : ℕ) (e : Event) → is_of o e ≡ true → may_be_of o e ≡ true
may_be o (connect c) i = i
may_be o (disconnect c) i = i
may_be o (button on) i = never i
may_be o (restore c k st) i = i
may_be o (request mode c g a out) i = let b = (and_is (eqb mode 3) (eqb c o)).0 i in rw b.0 b.1

-- what o sends, left out
pub beside_without : (step : Device) (f : First) (o : ℕ) (h : List Event) → AllHarmless step f o h → Beside step f o h (without o h)
unfolding without
beside_without step f o [] m = begin
beside_without step f o (e ∷ h) m = go (is_of o e) refl (beside_without step f o h m.1)
  where
    go : (t : Bool) → is_of o e ≡ t → Beside step f o h (without o h) → Beside step f o (e ∷ h) (cond t (without o h) (e ∷ without o h))
    go true i b = one_more (may_be o e i) (m.0 i) b
    go false i b = shared i (same e) b
