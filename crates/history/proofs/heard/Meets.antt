-- What a request meets: connected, the session of its connection; in any other mode none is looked at.
use Rattle.octets.proofs.Kit.{ℕ, ◌≡◌, ◌⊎◌, inl, inr, true, false, List, eqb, eqb-true, eq-eqb}
use Rattle.octets.proofs.Truths.{decided}
use Rattle.judge.specs.{Session.connected, declared.Session.Session}
use Rattle.device.specs.{Sessions.{session_of, session_for}, declared.Sessions.Sessions}
use Rattle.history.specs.{Wish.Wish, Permit.{heard, level_for}}

-- connected, the session of its connection
pub meets : (q : Sessions) (mode c : ℕ) → mode ≡ connected → session_for q mode c ≡ session_of q c
meets q mode c e = rw (eq-eqb mode 3 e)

-- whether it is open, and its level, is asked in connected mode alone
module _ (mode : ℕ) (q r : Session) (same : mode ≡ connected → q ≡ r) where
  pub heard_met :
      (rules : ℕ) (a out : List ℕ) (w : Wish) → heard rules q.opened mode a out w ≡ heard rules r.opened mode a out w
  unfolding heard
  heard_met rules a out w = go (decided (eqb mode 3))
    where
      go : (eqb mode 3 ≡ true) ⊎ (eqb mode 3 ≡ false) → heard rules q.opened mode a out w ≡ heard rules r.opened mode a out w
      go (inl e) = rw (same (eqb-true mode 3 e))
      go (inr e) = rw e

  pub level_met : level_for mode q.level ≡ level_for mode r.level
  unfolding level_for
  level_met = go (decided (eqb mode 3))
    where
      go : (eqb mode 3 ≡ true) ⊎ (eqb mode 3 ≡ false) → level_for mode q.level ≡ level_for mode r.level
      go (inl e) = rw (same (eqb-true mode 3 e))
      go (inr e) = rw e
