-- DEMAND 3, for any device whose requests are answered as they are due.
use Rattle.octets.proofs.Kit.{ℕ, ◌<◌, ◌≡◌, refl, sym, ap, subst, ◌∙◌, Bool, true, false, List, [], ◌∷◌, dec_lt, ℕ_discrete, arith}
use Rattle.octets.proofs.Truths.{never}
use Rattle.judge.specs.declared.Session.{Session}
use Rattle.judge.specs.Session as judge
use Rattle.device.{specs.{Octets.Octets, Sessions.session_of, Events.{Effect, State}, Due.RequestDue}, proofs.leaves.Connections.unknown_closed}
use Rattle.device.proofs.promises.Dues.{connect_due, disconnect_due, button_due, button_only, request_due}
use Rattle.events.{specs.Events.{Event, connect, disconnect, button, request, event_of, restore}, proofs.promises.Dues.restore_due}
use Rattle.history.specs.{History.{First, permitted}, Keeps.{Device, state_after, CarriedOut, Kept, Begins, BringsOctets, AllOctets, Keeps}, Rightful.{Rightful, ours}}
use Rattle.history.proofs.{promises.Said.{said, no_connection}, steps.{Invariant.{Inv, begin, connected, disconnected, button_pressed, now, now_accepted}, Requests.Done, Steps.due}}
use Rattle.history.proofs.{steps.RestoreSteps.{restore_inv, restore_only, restore_all_lem}, promises.AtOnce.at_once_lem}

module _ (step : Device) (rightful : (f : First) (h : List Event) → Rightful (step f h)) (f : First) (b : Begins f) where
  -- one event more
  module _ (h : List Event) (inv : Inv f h (state_after step f h)) where
    abbrev X : State
    X = state_after step f h

    module _ (mode c g : ℕ) (a out : List ℕ) (octets : Octets a) where
      abbrev R : Effect
      R = step f h X (request mode c g a out)

      is_due : RequestDue mode c g a out X R
      is_due = (rightful f h).answers X mode c g a out inv.means.octets octets

      -- of the step that is due
      requested : Done f h mode c g a out is_due.step
      requested = due f b h X inv mode c g a out octets is_due.due

      -- every session is what the history says
      module _ (d : ℕ) where
        abbrev So : Type 0
        So = session_of R.sessions d ≡ said f (request mode c g a out ∷ h) d

        others : is_due.step.restarts ≡ false → (mode ≡ judge.connected → d ≡ c → ⊥) → So
        others t n = is_due.others t d n ∙ inv.session d ∙ requested.turned.others t d n

        by_turn : (t : Bool) → is_due.step.restarts ≡ t → Dec (mode ≡ judge.connected) → Dec (d ≡ c) → Dec (c < 2) → So
        by_turn true t m e l = is_due.restarted t d ∙ requested.turned.closes t d
        by_turn false t (yes m) (yes e) (yes l) = rw e (is_due.own t m l ∙ requested.turned.own t m)
        by_turn false t (yes m) (yes e) (no l) =
            rw e (unknown_closed R.sessions c (omega arith) ∙ sym (no_connection f _ c (omega arith)))
        by_turn false t (yes m) (no e) l = others t (λ z. e)
        by_turn false t (no m) e l = others t (λ z. absurd (m z))

        session : So
        session = by_turn is_due.step.restarts refl (ℕ_discrete mode judge.connected) (ℕ_discrete d c) (dec_lt c 2)

    after : (e : Event) → BringsOctets e → Inv f (e ∷ h) (state_after step f (e ∷ h))
    unfolding state_after event_of
    after (connect c) o = connected inv c (step f h X (connect c)) ((rightful f h).connects X c)
    after (disconnect c) o = disconnected inv c (step f h X (disconnect c)) ((rightful f h).disconnects X c)
    after (button on) o = rw (button_only X on (step f h X (button on)) ((rightful f h).presses X on)) (button_pressed inv b on)
    after (request mode c g a out) o =
        record { session = session mode c g a out o; means = rw (is_due mode c g a out o).sheet (requested mode c g a out o).means }
    after (restore c n st) o =
        let d = (rightful f h).restores X c n st in
        let i = restore_inv f b h X inv c n st o d.step in
        record { session = rw d.sessions i.session; means = i.means }

    only : (e : Event) → BringsOctets e → CarriedOut e (step f h X e).outcome → permitted f h e ≡ true
    only (connect c) o z = absurd z.writing
    only (disconnect c) o z = absurd z.writing
    only (button on) o z = absurd z.writing
    only (restore c n st) o z = restore_only f b h X inv c n st o ((rightful f h).restores X c n st).step z
    only (request mode c g a out) o z = (requested mode c g a out o).only (subst (CarriedOut _) (is_due mode c g a out o).outcome z)

    all : (e : Event) → BringsOctets e → permitted f h e ≡ true → CarriedOut e (step f h X e).outcome
    unfolding permitted
    all (connect c) o p = never p
    all (disconnect c) o p = never p
    all (button on) o p = never p
    all (restore c n st) o p = restore_all_lem f b h X inv c n st o ((rightful f h).restores X c n st).step p
    all (request mode c g a out) o p = subst (CarriedOut _) (sym (is_due mode c g a out o).outcome) ((requested mode c g a out o).all p)

  -- THE INVARIANT AFTER EVERY HISTORY
  pub holds_after : (h : List Event) → AllOctets h → Inv f h (state_after step f h)
  unfolding state_after
  holds_after [] k = begin f b
  holds_after (e ∷ h) k = after h (holds_after h k.1) e k.0

  kept_after : (h : List Event) → Inv f h (state_after step f h) → Kept step f h
  kept_after h inv =
      record {
        accepted = now_accepted inv b;
        octets = inv.means.octets;
        same = inv.means.agree.long;
        session = λ c. ap (λ (q : Session). q.opened) (inv.session c);
        rights = λ c. ap (λ (q : Session). q.level) (inv.session c);
        holds = inv.means.holds;
        only_permitted = only h inv;
        all_permitted = all h inv;
        at_once = λ e o. at_once_lem step f h e (after h inv e o).means.holds;
        still = inv.means.still;
        address = inv.means.address;
        flags = omega (arith, (now inv b).zeros.0, inv.means.programming, inv.means.verify);
        group = inv.means.group;
      }

-- DEMAND 3
pub keeps_any : (step : Device) → ((f : First) (h : List Event) → Rightful (step f h)) → Keeps step
keeps_any step rightful f h b k = kept_after step rightful f b h (holds_after step rightful f b h k)

-- our device is one
pub ours_rightful : Rightful event_of
unfolding event_of
ours_rightful =
    record {
      connects = connect_due;
      disconnects = disconnect_due;
      presses = button_due;
      answers = request_due;
      restores = restore_due;
    }

-- AND SO OUR DEVICE KEEPS WHAT IT WAS GIVEN
pub keeps : Keeps ours
keeps = keeps_any ours (λ f h. ours_rightful)

-- and the invariant holds of it
pub ours_after : (f : First) → Begins f → (h : List Event) → AllOctets h → Inv f h (state_after ours f h)
ours_after = holds_after ours (λ f h. ours_rightful)
