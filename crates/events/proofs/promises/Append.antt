-- A run over two lists of events is one run after the other. Assumes nothing.
use Rattle.octets.proofs.Kit.{◌≡◌, refl, List, [], ◌∷◌, ◌++◌}
use Rattle.device.specs.Events.{State}
use Rattle.events.specs.Events.{Event, after, run_by, run}

-- ONE RUN AFTER THE OTHER
pub run_append : (x : State) (es fs : List Event) → run x (es ++ fs) ≡ run (run x es) fs
unfolding run_by
run_append x [] fs = refl
run_append x (e ∷ es) fs = run_append (after x e) es fs
