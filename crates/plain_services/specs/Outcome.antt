-- The outcomes by their numbers.
use Rattle.std.specs.Prelude.{ℕ}
use Rattle.plain_services.specs.Refusal.{number_of as refusal_number}
use Rattle.plain_services.specs.declared.Outcome.{Outcome}
use Rattle.plain_services.specs.declared.Outcome.TheVariants.{Answered, Done, Refused}

abbrev pub number_of : Outcome → ℕ
number_of Answered = 0
number_of Done = 1
number_of (Refused r) = refusal_number r
