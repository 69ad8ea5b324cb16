-- `plain_services::keys::key_write` meets its contract.
use Rattle.octets.proofs.Kit.{arith, refl}
use Rattle.plain_services.proofs.{KeyWrites.{no_such_level, no_right, new_key}}
use Rattle.plain_services.proofs.keys.key_write.Goals as goal
use Rattle.plain_services.proofs.keys.key_write.Goals.{then-named-gt2-via-then-named-gt2, then-named-gt2-via-else-named-gt2+then-named-level}

pub returns-then-named-gt2 : goal.returns-then-named-gt2
returns-then-named-gt2 c =
    elim c.then-named-gt2.branch [
      | then-named-gt2-via-then-named-gt2 w ↦ no_such_level _ _ _ _ _ c.denied.ensures w.if-named-gt2.true
      | then-named-gt2-via-else-named-gt2+then-named-level w ↦ no_right _ _ _ _ _ c.denied.ensures w.if-named-level.true
    ]

pub returns : goal.returns
returns c = new_key _ _ _ _ _ _ refl c.answered.ensures (omega arith) c.if-named-level.false (omega arith)
