-- What it is that two calls give the same.
use Rattle.std.specs.Prelude.{ℕ, ◌≡◌, List, take}
use Rattle.device.specs.declared.Done.{Done}

-- results r and r', sheets s and s' and answer buffers o and o' afterwards
pub record Same (r r' : Done) (s s' o o' : List ℕ) : Type 0 where
  pub outcome : r.outcome ≡ r'.outcome
  pub count : r.count ≡ r'.count
  pub answer : take r.count o ≡ take r'.count o'
  pub buffer : o ≡ o'
  pub sessions : r.sessions ≡ r'.sessions
  pub sheet : s ≡ s'
