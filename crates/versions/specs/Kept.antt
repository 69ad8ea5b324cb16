-- THE K-TH VERSION THAT A STORE KEEPS, the first being 0: its number, and how long what was saved is.
use Rattle.std.specs.Prelude.{ℕ, zero, suc, cond, Option, None, Some, List, [], ◌∷◌, length}
use Rattle.versions.specs.Store.{Version, kept}
use Rattle.versions.specs.Rules.{is_store}
use Rattle.versions.specs.declared.listing.Listed.{Listed}

-- number 0, which no version has
abbrev pub none : Listed
none = record { number = 0; long = 0 }

-- what C gets of a version, or of none
abbrev pub listed_flat : Option Listed → Listed
listed_flat (Some v) = v
listed_flat None = none

-- of these versions; none behind the last
unfoldable pub told : List Version → ℕ → Listed
told [] k = none
told (v ∷ vs) zero = record { number = v.number; long = length v.body }
told (v ∷ vs) (suc k) = told vs k

-- of a store; none of one that is not good
unfoldable pub kept_of : List ℕ → ℕ → Listed
kept_of s k = cond (is_store s) (told (kept s) k) none
