-- DEMAND 1 of serving a frame: what a call gives back, and what it leaves in what was lent to it.
use Rattle.std.specs.Prelude.{ℕ, ◌≤◌, ◌≡◌, ◌⊎◌, List, length, get_or}
use Rattle.device.specs.Demand1.{OneOf}
use Rattle.link.specs.Serving.{longest}
use Rattle.link.specs.declared.Link.{Link}
use Rattle.link.specs.declared.Served.{Served}

-- why there is no event: 40 to 45 as frames have them, 60 to 65
abbrev pub Why : ℕ → Type 0
Why n = ((40 ≤ n) × (n ≤ 45)) ⊎ ((60 ≤ n) × (n ≤ 65))

-- link k, sheet s and buffer o were found; r came back, s' and o' are what sheet and buffer then hold
pub record ServeLeaves (k : Link) (s o : List ℕ) (r : Served) (s' o' : List ℕ) : Type 0 where
  -- an event, or a number of the list
  pub number : (r.number ≡ 0) ⊎ Why r.number
  -- no event: no outcome, no answer, and all as found
  pub none : (r.number ≡ 0 → ⊥) → (r.outcome ≡ 0) × (r.count ≡ 0) × (r.link ≡ k) × (s' ≡ s) × (o' ≡ o)
  -- an event: its outcome is one of the list; from 2 on sheet and link are as found
  pub outcome : OneOf r.outcome
  pub kept : 2 ≤ r.outcome → (s' ≡ s) × (r.link ≡ k)
  -- 1 to 10, 12 and 14: nothing is answered, the whole buffer as found
  pub silent : 1 ≤ r.outcome → (r.outcome ≡ 11 → ⊥) → (r.count ≡ 0) × (o' ≡ o)
  -- at most 25 bytes are filled; from the count on the buffer is as found, and so is its length
  pub most : r.count ≤ longest
  pub rest : (i : ℕ) → r.count ≤ i → get_or o' i 0 ≡ get_or o i 0
  pub long : length o' ≡ length o
