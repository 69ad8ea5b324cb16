-- ONE DEVICE: from an accepted sheet any device that does what is due gives what ours gives, event by event.
use Rattle.octets.proofs.Kit.{◌≡◌, ap, ◌∙◌, List}
use Rattle.device.{specs.{Octets.Octets, Events.State}, proofs.promises.Dues.{connect_only, disconnect_only, button_only, request_only}}
use Rattle.events.{specs.Events.{Event, connect, disconnect, button, request, event_of, restore}, proofs.promises.Dues.restore_only}
use Rattle.history.specs.{History.First, Keeps.{Device, state_after, BringsOctets, AllOctets, Begins}, Rightful.{Rightful, ours}}
use Rattle.history.proofs.promises.{Keep.{keeps, keeps_any}, Pinned.pinned}

module _ (step : Device) (rightful : (f : First) (h : List Event) → Rightful (step f h)) (f : First) (b : Begins f) (h : List Event) (o : AllOctets h) where
  abbrev X : State
  X = state_after step f h

  is_ours : (e : Event) → BringsOctets e → step f h X e ≡ event_of X e
  unfolding event_of
  is_ours (connect c) z = connect_only X c _ ((rightful f h).connects X c)
  is_ours (disconnect c) z = disconnect_only X c _ ((rightful f h).disconnects X c)
  is_ours (restore c n st) z = restore_only X c n st _ ((rightful f h).restores X c n st)
  is_ours (button on) z = button_only X on _ ((rightful f h).presses X on)
  is_ours (request mode c g a out) z =
      let k : Octets X.sheet = (keeps_any step rightful f h b o).octets in
      request_only X mode c g a out k z _ ((rightful f h).answers X mode c g a out k z)

  -- THE STATE
  pub one_state : state_after step f h ≡ state_after ours f h
  one_state = pinned step ours (keeps_any step rightful) keeps f h b o

  -- OUTCOME, ANSWER, SESSIONS AND SHEET of every event
  pub one_device : (e : Event) → BringsOctets e → step f h (state_after step f h) e ≡ event_of (state_after ours f h) e
  one_device e z = is_ours e z ∙ ap (λ (x : State). event_of x e) one_state
