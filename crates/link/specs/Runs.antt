-- RUNS OF CALLS over link and sheet: what a host sees call by call, by the contracts of the calls alone.
use Rattle.std.specs.Prelude.{ℕ, ◌≤◌, Bool, List, [], ◌∷◌, length}
use Rattle.octets.specs.Octets.{Octets}
use Rattle.device.specs.Sessions.{session_of}
use Rattle.device.specs.Events.{disconnect_of, Pressed}
use Rattle.versions.specs.Restoring.{RestoredAs}
use Rattle.link.specs.Serving.{longest, with_sessions, ServedFrame}
use Rattle.link.specs.Net.{Net, Item, frame, press, time_out, give_back}
use Rattle.link.specs.declared.Served.{Served}

-- a call that met x and left another: each constructor is the contract of a call of include/kelindap_link.h, kelindap.h and kelindap_store.h
pub data Goes (x : Net) : Item → Net → Type 0 where
  serves :
      (sequence : ℕ) (b o : List ℕ) (r : Served) (s' o' : List ℕ) → ServedFrame x.link sequence b x.sheet o r s' o' → longest ≤ length o →
      Goes x (frame b) record { link = r.link; sheet = s' }
  presses : (on : Bool) (r : ℕ) (s' : List ℕ) → Pressed x.sheet on r s' → Goes x (press on) record { link = x.link; sheet = s' }
  times_out : (c : ℕ) → Goes x (time_out c) record { link = with_sessions x.link (disconnect_of x.link.sessions c); sheet = x.sheet }
  gives_back :
      (c n : ℕ) (st : List ℕ) (r : ℕ) (s' : List ℕ) → Octets st → RestoredAs (session_of x.link.sessions c) x.sheet st n r s' →
      Goes x (give_back c n st) record { link = x.link; sheet = s' }

-- calls one after the other, each on what the one before left, the newest first
pub data Ran (x : Net) : List Item → Net → Type 0 where
  begin : Ran x [] x
  next : {h : List Item} {y z : Net} {i : Item} → Ran x h y → Goes y i z → Ran x (i ∷ h) z
