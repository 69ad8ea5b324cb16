-- A history has the newest event first and a run the oldest: the state after the one is that after the other, reversed.
use Rattle.octets.proofs.Kit.{◌≡◌, refl, sym, ap, ◌∙◌, List, [], ◌∷◌, ◌++◌, reverse, reverse-cons, reverse-reverse, append_assoc}
use Rattle.device.specs.Events.{State}
use Rattle.events.{specs.Events.{Event, after, run_by, run}, proofs.promises.Append.run_append}
use Rattle.history.specs.{History.First, Keeps.state_after, Rightful.ours}

module _ (f : First) where
  abbrev pub first_state : State
  first_state = record { sessions = f.sessions; sheet = f.sheet }

  -- AFTER A HISTORY IS AFTER THE RUN OF ITS EVENTS
  pub after_is_run : (h : List Event) → state_after ours f h ≡ run first_state (reverse h)
  unfolding state_after run_by after
  after_is_run [] = refl
  after_is_run (e ∷ h) =
      ap (λ (x : State). after x e) (after_is_run h)
      ∙ sym (run_append first_state (reverse h) (e ∷ []))
      ∙ sym (ap (run first_state) (reverse-cons e h))

  -- and the other way round
  pub run_is_after : (es : List Event) → run first_state es ≡ state_after ours f (reverse es)
  run_is_after es = ap (run first_state) (sym (reverse-reverse es)) ∙ sym (after_is_run (reverse es))

  -- A RUN THAT GOES ON from a history is the longer history
  pub run_on : (es h : List Event) → run (state_after ours f h) es ≡ state_after ours f (reverse es ++ h)
  unfolding run_by state_after after
  run_on [] h = refl
  run_on (e ∷ es) h =
      run_on es (e ∷ h)
      ∙ ap (state_after ours f) (sym (ap (λ (l : List Event). l ++ h) (reverse-cons e es) ∙ append_assoc (reverse es) (e ∷ []) h))
