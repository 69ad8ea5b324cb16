-- The kinds of entries by their numbers.
use Rattle.std.specs.Prelude.{ℕ}
use Rattle.plain_check.specs.declared.Kind.{Kind}
use Rattle.plain_check.specs.declared.Kind.TheVariants.{Regions, Properties, Groups, Users}

abbrev pub number_of : Kind → ℕ
number_of Regions = 0
number_of Properties = 1
number_of Groups = 2
number_of Users = 3
