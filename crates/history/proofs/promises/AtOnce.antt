-- A permitted write takes effect at once: it follows from what every location holds one event later.
use Rattle.octets.proofs.Kit.{ℕ, ◌≡◌, ap, ◌∙◌, Bool, true, cond, List, ◌∷◌, get_or}
use Rattle.events.specs.Events.{Event}
use Rattle.history.specs.{Location.{Location, Place}, Span.{names, gives}, History.{First, content, permitted}, Keeps.{Device, state_after}}
use Rattle.history.proofs.steps.Requests.{Spans, contents_new}

module _ (step : Device) (f : First) (h : List Event) (e : Event) where
  -- AT ONCE
  pub at_once_lem :
      ((x : Location) (p : ℕ) → Place f.sheet x p → get_or (state_after step f (e ∷ h)).sheet p 0 ≡ content f (e ∷ h) x) →
      permitted f h e ≡ true → (x : Location) (p : ℕ) → Place f.sheet x p → names (Spans f h e) x ≡ true →
      get_or (step f h (state_after step f h) e).sheet p 0 ≡ gives (Spans f h e) x
  unfolding state_after
  at_once_lem later ok x p q t =
      later x p q
      ∙ contents_new f h e ok x
      ∙ ap (λ (u : Bool). cond u (gives (Spans f h e) x) (content f h x)) t
