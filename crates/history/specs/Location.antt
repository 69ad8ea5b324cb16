-- The bytes that are protected, and where each stands in a sheet.
use Rattle.std.specs.Prelude.{ℕ, ◌+◌, ◌*◌, ◌<◌, ◌≡◌, List}
use Rattle.sheet.specs.Kind.{properties}
use Rattle.sheet.specs.Layout.{◌of◌}
use Rattle.sheet.specs.Head as head
use Rattle.sheet.specs.Property as property
use Rattle.sheet.specs.Entries.{place, entry, body_at}
use Rattle.sheet.specs.Places.{Stands, PropertyWith}
use Rattle.sheet.specs.declared.Memory.{Memory}

-- a byte of a memory by its address; byte j of the body of a property, or of its count, by object and id; byte j of the key of a level
pub data Location : Type 0 where
  memory : Memory → ℕ → Location
  body : ℕ → ℕ → ℕ → Location
  counter : ℕ → ℕ → ℕ → Location
  key : ℕ → ℕ → Location

-- WHERE A LOCATION STANDS
pub data Place (s : List ℕ) : Location → ℕ → Type 0 where
  of_memory : {m : Memory} {y p levels : ℕ} → Stands s m y p levels → Place s (memory m y) p
  of_body :
      {object id j p : ℕ} (i : ℕ) → PropertyWith s object id i →
      j < property.element of entry s properties i * property.maximum of entry s properties i →
      p ≡ body_at s properties i + j → Place s (body object id j) p
  of_counter :
      {object id j p : ℕ} (i : ℕ) → PropertyWith s object id i → j < (property.count).width →
      p ≡ place s properties i + (property.count).at + j → Place s (counter object id j) p
  of_key : {l j p : ℕ} → l < 3 → j < (head.key l).width → p ≡ (head.key l).at + j → Place s (key l j) p
