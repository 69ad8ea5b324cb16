-- Properties as records: the index of one within its object.
use Rattle.std.specs.Prelude.{ℕ, zero, suc, ◌+◌, Bool, cond, ◌&&◌, List, eqb, get_or}
use Rattle.parts.specs.declared.Property.{Property}
use Rattle.parts.specs.Records.{no_property}

-- how many of the first i properties have that object
unfoldable pub rank_in : List Property → ℕ → ℕ → ℕ
rank_in ps object zero = 0
rank_in ps object (suc i) = rank_in ps object i + cond (eqb (get_or ps i no_property).object object) 1 0

-- property i has that object, and that index within it
abbrev pub is_nth : List Property → ℕ → ℕ → ℕ → Bool
is_nth ps object index i = eqb (get_or ps i no_property).object object && eqb (rank_in ps object i) index
