-- What a test says, put in other words.
use Rattle.octets.proofs.Kit.{Bool}
use Rattle.plain_check.specs.Says.{Says}

pub says_map : {P Q : Type 0} {r : Bool} → (P → Q) → (Q → P) → Says P r → Says Q r
says_map f g h = record { yes = λ e. f (h.yes e); no = λ e q. h.no e (g q) }
