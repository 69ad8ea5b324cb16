-- The last event after which something was another: it is one of the history, or there is none and it never was other than at first. Assumes nothing.
use Rattle.octets.proofs.Kit.{ℕ, zero, suc, ◌≤◌, ◌≡◌, refl, sym, ap, subst, ◌∙◌, ◌⊎◌, inl, inr, Bool, true, false, cond, List, [], ◌∷◌, drop, eqb, arith, eq-eqb, eqb-true, eqb-false}
use Rattle.octets.proofs.Truths.{never, decided}
use Rattle.device.specs.Events.{State}
use Rattle.events.specs.Events.{Event, button}
use Rattle.history.specs.{History.First, Keeps.{Device, state_after, AllOctets}}
use Rattle.account.specs.Account.{Origin, at, last_other, Last}
use Rattle.account.specs.Account as account

-- an origin taken apart
abbrev pub is_at : Origin → Bool
is_at account.never = false
is_at (at h e) = true

abbrev pub before_it : Origin → List Event
before_it account.never = []
before_it (at h e) = h

abbrev pub event_in : Origin → Event
event_in account.never = button false
event_in (at h e) = e

-- events before one of bytes are of bytes
pub all_dropped : (n : ℕ) (h : List Event) → AllOctets h → AllOctets (drop n h)
all_dropped zero h k = k
all_dropped (suc n) [] k = tt
all_dropped (suc n) (e ∷ h) k = all_dropped n h k.1

module _ (step : Device) (f : First) (look : State → ℕ) where
  abbrev After : List Event → ℕ
  After h = look (state_after step f h)

  -- a value that has been so since an earlier event, and one event more that leaves it
  longer :
      (d : Event) (h : List Event) (v m : ℕ) → After (d ∷ h) ≡ After h → ((n : ℕ) → n ≤ m → After (drop n h) ≡ v) →
      (n : ℕ) → n ≤ suc m → After (drop n (d ∷ h)) ≡ v
  longer d h v m t r zero k = t ∙ r 0 (omega arith)
  longer d h v m t r (suc n) k = r n (omega (arith, k))

  alone : (h : List Event) (n : ℕ) → n ≤ 0 → After (drop n h) ≡ After h
  alone h zero k = refl
  alone h (suc n) k = absurd (omega (arith, k))

  pub is_last :
      (h before : List Event) (e : Event) → last_other step f look h ≡ at before e → Last step f look h before e
  unfolding last_other
  is_last [] before e o = never (ap is_at o)
  is_last (d ∷ h) before e o = go (decided (eqb (After (d ∷ h)) (After h))) (is_last h before e)
    where
      go : (eqb (After (d ∷ h)) (After h) ≡ true) ⊎ (eqb (After (d ∷ h)) (After h) ≡ false) →
          (last_other step f look h ≡ at before e → Last step f look h before e) → Last step f look (d ∷ h) before e
      go (inl t) r =
          let l = r (sym (ap (λ (u : Bool). cond u (last_other step f look h) (at h d)) t) ∙ o) in
          record { later = suc l.later; within = l.within; another = l.another; since = longer d h _ l.later (eqb-true _ _ t) l.since }
      go (inr n) r =
          let w = sym (ap (λ (u : Bool). cond u (last_other step f look h) (at h d)) n) ∙ o in
          subst (λ (u : Event). Last step f look (d ∷ h) before u) (ap event_in w)
          (subst (λ (u : List Event). Last step f look (d ∷ h) u d) (ap before_it w)
          record { later = 0; within = refl; another = eqb-false _ _ n; since = alone (d ∷ h) })

  pub as_at_first : (h : List Event) → last_other step f look h ≡ account.never → (n : ℕ) → After (drop n h) ≡ After []
  unfolding last_other
  as_at_first [] o zero = refl
  as_at_first [] o (suc n) = refl
  as_at_first (d ∷ h) o n = go (decided (eqb (After (d ∷ h)) (After h))) (as_at_first h) n
    where
      go : (eqb (After (d ∷ h)) (After h) ≡ true) ⊎ (eqb (After (d ∷ h)) (After h) ≡ false) →
          (last_other step f look h ≡ account.never → (m : ℕ) → After (drop m h) ≡ After []) → (m : ℕ) → After (drop m (d ∷ h)) ≡ After []
      go (inl t) r zero = eqb-true _ _ t ∙ r (sym (ap (λ (u : Bool). cond u (last_other step f look h) (at h d)) t) ∙ o) 0
      go (inl t) r (suc m) = r (sym (ap (λ (u : Bool). cond u (last_other step f look h) (at h d)) t) ∙ o) m
      go (inr x) r m = never (sym (ap is_at o) ∙ ap (λ (u : Bool). is_at (cond u (last_other step f look h) (at h d))) x)

  -- what is the same after every history has none
  pub none_such : ((h : List Event) → AllOctets h → After h ≡ After []) → (h : List Event) → AllOctets h → last_other step f look h ≡ account.never
  unfolding last_other
  none_such same [] k = refl
  none_such same (e ∷ h) k =
      ap (λ (u : Bool). cond u (last_other step f look h) (at h e)) (eq-eqb _ _ (same (e ∷ h) k ∙ sym (same h k.1))) ∙ none_such same h k.1

  -- there is one, or none
  pub either : (o : Origin) → (o ≡ account.never) ⊎ (o ≡ at (before_it o) (event_in o))
  either account.never = inl refl
  either (at h e) = inr refl
