-- A range of memory is a run of locations.
use Rattle.octets.proofs.Kit.{ℕ, ◌+◌, ◌<◌, ◌≡◌, List, length, get_or}
use Rattle.sheet.specs.{Places.Ranged, declared.Memory.Memory}
use Rattle.history.specs.Location.{memory, Place, of_memory}
use Rattle.history.proofs.stored.Stored.{Run}

module _ {s : List ℕ} {m : Memory} {y n o l : ℕ} (r : Ranged s m y n o l) where
  pub memory_place : (j : ℕ) → j < n → Place s (memory m (y + j)) (o + j)
  memory_place j h = of_memory (r.each j h)

  -- A RUN OF MEMORY
  pub memory_run :
      (give : ℕ → ℕ) (ds : List ℕ) → length ds ≡ n → ((j : ℕ) → j < n → give j ≡ get_or ds j 0) →
      Run s (record { from = memory m y; long = n; give = give }) o ds
  memory_run give ds size bytes = record { size = size; places = memory_place; bytes = bytes }
