-- Events, and lists of them, with no request that the rules are at odds about.
use Rattle.std.specs.Prelude.{ℕ, ◌≡◌, List, [], ◌∷◌}
use Rattle.device.specs.Apart.{Undisputed}
use Rattle.events.specs.Events.{Event, request}

-- an event, and a list of them, with no disputed request
abbrev pub Settled : Event → Type 0
Settled e = (mode c group : ℕ) (a out : List ℕ) → e ≡ request mode c group a out → Undisputed mode a

abbrev pub AllSettled : List Event → Type 0
AllSettled [] = Unit {0}
AllSettled (e ∷ es) = Settled e × AllSettled es
