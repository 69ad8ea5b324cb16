-- Laws of the two sessions: what is put in their place, and when they are the same.
use Rattle.octets.proofs.Kit.{ℕ, zero, suc, ◌≤◌, ◌<◌, ◌≡◌, refl, ap, ap₂, false, ℕ_discrete, arith, eq-eqb, ne_eqb}
use Rattle.octets.proofs.Walks.{by_eq}
use Rattle.judge.specs.{Session.connected, declared.Session.Session}
use Rattle.device.specs.{Sessions.{closed, fresh_of, session_of, with_session, session_for, turned_of}, declared.Sessions.Sessions}

-- a connection that there is, and any other number
pub unknown_closed : (q : Sessions) (c : ℕ) → 2 ≤ c → session_of q c ≡ closed
unknown_closed q c h = simp (ne_eqb c 0 (omega arith), ne_eqb c 1 (omega arith))

pub fresh_closed : (c : ℕ) → session_of fresh_of c ≡ closed
fresh_closed c = by_eq (λ (r : Session). r ≡ closed) c 0 _ _ (λ e. refl) (λ n. by_eq (λ (r : Session). r ≡ closed) c 1 _ _ (λ e. refl) (λ m. refl))

-- THE SAME FOR BOTH CONNECTIONS IS THE SAME
pub same_sessions : (q p : Sessions) → ((c : ℕ) → c < 2 → session_of q c ≡ session_of p c) → q ≡ p
same_sessions q p e =
    ap₂ (λ (a b : Session). record { first = a; second = b }) (e 0 (omega arith)) (e 1 (omega arith))

module _ (q : Sessions) where
  pub with_unknown : (c : ℕ) (r : Session) → 2 ≤ c → with_session q c r ≡ q
  with_unknown c r h = simp (ne_eqb c 0 (omega arith), ne_eqb c 1 (omega arith))

  -- ANOTHER SESSION FOR A CONNECTION: there it is, and nowhere else
  pub with_own : (c : ℕ) (r : Session) → c < 2 → session_of (with_session q c r) c ≡ r
  with_own zero r h = refl
  with_own (suc zero) r h = refl
  with_own (suc (suc c)) r h = absurd (omega arith)

  pub with_other : (c d : ℕ) (r : Session) → (d ≡ c → ⊥) → session_of (with_session q c r) d ≡ session_of q d
  with_other zero d r n = simp (ne_eqb d 0 n)
  with_other (suc zero) d r n = simp (ne_eqb d 1 n)
  with_other (suc (suc c)) d r n = ap (λ (p : Sessions). session_of p d) (with_unknown (suc (suc c)) r (omega arith))

  -- what is there already
  pub with_same : (c : ℕ) → with_session q c (session_of q c) ≡ q
  with_same zero = refl
  with_same (suc zero) = refl
  with_same (suc (suc c)) = with_unknown (suc (suc c)) _ (omega arith)

  -- A REQUEST THAT IS NO RESTART leaves its connection the session r, and every other as found
  module _ (mode c : ℕ) where
    pub turned_own : (r : Session) → mode ≡ connected → c < 2 → session_of (turned_of q mode c false r) c ≡ r
    turned_own r m h = simp (eq-eqb mode connected m) (with_own c r h)

    pub turned_other :
        (d : ℕ) (r : Session) → (mode ≡ connected → d ≡ c → ⊥) → session_of (turned_of q mode c false r) d ≡ session_of q d
    turned_other d r n =
        by_eq (λ (p : Sessions). session_of p d ≡ session_of q d) mode connected _ _ (λ m. with_other c d r (n m)) (λ m. refl)

    -- IF IT LEAVES ITS SESSION IT LEAVES BOTH
    pub own_stays : turned_of q mode c false (session_for q mode c) ≡ q
    own_stays = go (ℕ_discrete mode connected)
      where
        go : Dec (mode ≡ connected) → turned_of q mode c false (session_for q mode c) ≡ q
        go (yes e) = simp (eq-eqb mode connected e) (with_same c)
        go (no n) = simp (ne_eqb mode connected n)
