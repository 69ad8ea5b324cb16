-- The level that a request acts at.
use Rattle.octets.proofs.Kit.{ℕ, ◌≤◌, ◌≡◌, eq-eqb, ne_eqb, lt-ltb, le-ltb}
use Rattle.octets.proofs.Walks.{by_eq, by_lt}
use Rattle.judge.specs.Session.{level_of, level_in}
use Rattle.device.specs.Asked.{Asked, Acts, by_session, by_limit, unconnected}

-- it acts at a level
pub acts : (x : Asked) → Acts x (level_in x.session x.mode)
unfolding level_in level_of
acts x =
    by_eq (Acts x) x.mode 3 _ _
    (λ m. by_lt (Acts x) 3 x.session.level _ _ (λ h. by_limit m h) (λ h. by_session m h))
    (λ m. unconnected m)

-- and at no other
pub acts_is : (x : Asked) {l : ℕ} → Acts x l → level_in x.session x.mode ≡ l
unfolding level_in level_of
acts_is x (by_session m h) = simp (eq-eqb x.mode 3 m, le-ltb 3 x.session.level h)
acts_is x (by_limit m h) = simp (eq-eqb x.mode 3 m, lt-ltb 3 x.session.level h)
acts_is x (unconnected m) = simp (ne_eqb x.mode 3 m)

pub acts_at_lem : (x : Asked) {l : ℕ} (m : ℕ) → Acts x l → l ≤ m → level_in x.session x.mode ≤ m
acts_at_lem x m a h = rw (acts_is x a) h
