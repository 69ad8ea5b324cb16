-- RUNS OF CALLS: what a host sees call by call, by the contracts of the calls alone.
use Rattle.std.specs.Prelude.{ℕ, ◌≡◌, Bool, List, [], ◌∷◌}
use Rattle.device.specs.Events.{Effect, State, named_outcome, connect_of, disconnect_of, Pressed, Called}
use Rattle.events.specs.Events.{Event, connect, disconnect, button, request, restore}
use Rattle.device.specs.Octets.{Octets}
use Rattle.device.specs.Sessions.{session_of}
use Rattle.device.specs.Demand2.{effect_seen}
use Rattle.device.specs.Due.{ConnectDue, DisconnectDue, ButtonDue, RequestDue}
use Rattle.events.specs.Due.{RestoreDue}
use Rattle.versions.specs.Restoring.{RestoredAs}
use Rattle.device.specs.declared.Done.{Done}
use Rattle.history.specs.History.{First}
use Rattle.history.specs.Keeps.{state_after, AllOctets}
use Rattle.history.specs.Rightful.{ours}

-- A CALL that met state x, was the event e and gave r: a constructor for each call of include/kelindap.h that reaches sheet or sessions, a request without the parts that it names, and for
-- `kelindap_restore`. That the contract of the call, as it stands in the source, entails it is proved in host/proofs/Contracts.antt (`connect_is` ..)
pub data Call (x : State) : Event → Effect → Type 0 where
  connects :
      (c : ℕ) →
      Call x (connect c) record { outcome = named_outcome c; answer = []; sessions = connect_of x.sessions c; sheet = x.sheet }
  disconnects :
      (c : ℕ) →
      Call x (disconnect c) record { outcome = named_outcome c; answer = []; sessions = disconnect_of x.sessions c; sheet = x.sheet }
  presses :
      (on : Bool) (r : ℕ) (s' : List ℕ) → Pressed x.sheet on r s' →
      Call x (button on) record { outcome = r; answer = []; sessions = x.sessions; sheet = s' }
  requests :
      (mode c g : ℕ) (a out : List ℕ) (r : Done) (s' o' : List ℕ) → Called x.sessions mode c g a x.sheet out r s' o' →
      Call x (request mode c g a out) (effect_seen r s' o')
  restores :
      (c n : ℕ) (st : List ℕ) (r : ℕ) (s' : List ℕ) → Octets st → RestoredAs (session_of x.sessions c) x.sheet st n r s' →
      Call x (restore c n st) record { outcome = r; answer = []; sessions = x.sessions; sheet = s' }

-- calls one after the other, each on what the one before left, the newest first
pub data Calls (f : First) : List Event → State → Type 0 where
  begin : Calls f [] record { sessions = f.sessions; sheet = f.sheet }
  next :
      {h : List Event} {x : State} {e : Event} {r : Effect} → Calls f h x → Call x e r →
      Calls f (e ∷ h) record { sessions = r.sessions; sheet = r.sheet }

-- A STATE THAT A HISTORY LEFT, and it brought bytes: what calls leave is one (`calls_after`), whatever these are
pub record Follows (f : First) (h : List Event) (x : State) : Type 0 where
  pub state : x ≡ state_after ours f h
  pub octets : AllOctets h

-- WHAT IS DUE for an event, by its kind
abbrev pub EventDue : Event → State → Effect → Type 0
EventDue (connect c) = ConnectDue c
EventDue (disconnect c) = DisconnectDue c
EventDue (button on) = ButtonDue on
EventDue (request mode c g a out) = RequestDue mode c g a out
EventDue (restore c n st) = RestoreDue c n st
