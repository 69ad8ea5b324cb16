-- A key is a run of locations.
use Rattle.octets.proofs.Kit.{ℕ, ◌+◌, ◌<◌, refl, List, get_or, arith}
use Rattle.octets.{specs.Bytes.bytes_of, proofs.Numbers.length_bytes}
use Rattle.sheet.specs.Head as head
use Rattle.history.specs.Location.{key, Place, of_key}
use Rattle.history.proofs.stored.Stored.{Run}

pub key_place : (s : List ℕ) (l j : ℕ) → l < 3 → j < 4 → Place s (key l j) ((head.key l).at + j)
key_place s l j h k = of_key h k refl

-- A RUN OF A KEY
pub key_run :
    (s : List ℕ) (l number : ℕ) → l < 3 →
    Run s (record { from = key l 0; long = (head.key l).width; give = λ j. get_or (bytes_of 4 number) j 0 }) (head.key l).at (bytes_of 4 number)
key_run s l number low =
    record {
      size = length_bytes 4 number;
      places = λ j h. of_key {l = l} {j = 0 + j} {p = (head.key l).at + j} low (omega arith) (omega arith);
      bytes = λ j h. refl;
    }
