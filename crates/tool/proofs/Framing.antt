-- What the calls on frames ask. Assumes nothing.
use Rattle.octets.proofs.Kit.{ℕ, ◌≤◌, List, length}
use Rattle.cemi.specs.{Write.{write_count, Wrote}, declared.{Fields.Fields, WriteRefusal.WriteRefusal}}
use Rattle.cemi.proofs.promises.Filled.{count_few}
use Rattle.std.specs.Prelude.{Result}

-- at most 280 bytes are written
pub few_framed : (f : Fields) (i a o e : List ℕ) (w : Result ℕ WriteRefusal) → Wrote f i a o w e → write_count w ≤ 280
few_framed f i a o e w h = rw h.result (count_few f (length i) (length a) (length o))
