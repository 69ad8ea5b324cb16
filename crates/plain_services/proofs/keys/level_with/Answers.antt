-- `plain_services::keys::level_with` meets its contract. The invariant: no level so far has the key.
use Rattle.octets.proofs.Kit.{rules, arith}
use Rattle.plain_services.proofs.{Authorizing.{level_found, level_none}, Finding.one_more_lem}
use Rattle.plain_services.proofs.keys.level_with.Goals as goal

pub loop-level-init : goal.loop-level-init
loop-level-init c = (omega arith, search rules, λ j h. absurd (omega arith))

pub returns-then-key-keys : goal.returns-then-key-keys
returns-then-key-keys c = level_found _ _ _ (omega arith) c.loop-level.invariant.2 c.if-key-keys.true

pub loop-level-preserved : goal.loop-level-preserved
loop-level-preserved c = (omega arith, c.loop-level.invariant.1, one_more_lem _ _ c.loop-level.invariant.2 c.if-key-keys.false)

pub returns : goal.returns
returns c = level_none _ _ (λ j h. c.loop-level.invariant.2 j (omega (arith, c.loop-level.invariant.0)))
