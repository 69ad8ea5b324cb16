-- Whose session is whose, at the C boundary: connection 0 has the first of the two in memory, connection 1 the second. Assumes nothing.
use Rattle.octets.proofs.Kit.{◌≡◌, refl, true, false}
use Rattle.device.specs.{declared.Sessions.Sessions, Sessions.session_of, Events.{connect_of, disconnect_of}}

module _ (q : Sessions) where
  -- THE SESSION OF EACH CONNECTION
  pub whose : (session_of q 0 ≡ q.first) × (session_of q 1 ≡ q.second)
  whose = (refl, refl)

  -- WHAT A CONNECT AND A DISCONNECT LEAVE
  pub connected_first : connect_of q 0 ≡ record { first = record { opened = true; level = 3 }; second = q.second }
  connected_first = refl

  pub disconnected_second : disconnect_of q 1 ≡ record { first = q.first; second = record { opened = false; level = 3 } }
  disconnected_second = refl
