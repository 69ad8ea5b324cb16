-- DEMAND 1 of a call: what it gives back, and what it leaves in the slices lent to it.
use Rattle.std.specs.Prelude.{ℕ, ◌≤◌, ◌≡◌, ◌⊎◌, List, length, get_or, take}
use Rattle.device.specs.Replies.{Denial}
use Rattle.device.specs.declared.Sessions.{Sessions}
use Rattle.device.specs.declared.Done.{Done}

-- the outcomes of a request
abbrev pub OneOf : ℕ → Type 0
OneOf n = (n ≤ 12) ⊎ (n ≡ 14)

-- sessions q, request a, sheet s and answer buffer o were found; r came back, s' and o' are what sheet and buffer then hold
pub record Leaves (q : Sessions) (a s o : List ℕ) (r : Done) (s' o' : List ℕ) : Type 0 where
  -- the outcome is one of the list
  pub outcome : OneOf r.outcome
  -- 2 to 12 and 14: sheet and sessions as found
  pub kept : 2 ≤ r.outcome → (s' ≡ s) × (r.sessions ≡ q)
  -- 1 to 10, 12 and 14: nothing is answered, the whole buffer as found
  pub silent : 1 ≤ r.outcome → (r.outcome ≡ 11 → ⊥) → (r.count ≡ 0) × (o' ≡ o)
  -- 11: in front of the buffer stands exactly the negative answer of the service
  pub denial : r.outcome ≡ 11 → Denial a (take r.count o')
  -- at most 16 bytes are filled; from the count on the buffer is as found, and so is its length
  pub most : r.count ≤ 16
  pub rest : (i : ℕ) → r.count ≤ i → get_or o' i 0 ≡ get_or o i 0
  pub long : length o' ≡ length o
