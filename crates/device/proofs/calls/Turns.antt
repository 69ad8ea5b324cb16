-- What becomes of the sessions, as the code's returns ask.
use Rattle.octets.proofs.Kit.{ℕ, ◌≡◌, sym, false}
use Rattle.device.specs.{Sessions.{session_for, turned_of}, declared.{Sessions.Sessions}}
use Rattle.device.proofs.leaves.Connections.{own_stays}

module _ (q : Sessions) (mode c : ℕ) where
  pub all_stay : q ≡ turned_of q mode c false (session_for q mode c)
  all_stay = sym (own_stays q mode c)
