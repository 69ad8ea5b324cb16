-- The newer of two slots by number, as C gets it.
use Rattle.std.specs.Prelude.{ℕ, Option, None, Some}
use Rattle.slots.specs.declared.choosing.Which.{Which}
use Rattle.slots.specs.declared.choosing.Which.TheVariants.{First, Second}

-- 2 where there is none
abbrev pub which_flat : Option Which → ℕ
which_flat (Some First) = 0
which_flat (Some Second) = 1
which_flat None = 2
