-- `plain_check::refusal` meets its contract.
use Rattle.octets.proofs.Kit.{rules}
use Rattle.plain_check.proofs.{Refusing.{says_bad, says_retired, says_none}}
use Rattle.plain_check.proofs.refusal.Goals as goal

pub returns-then-not-keeps_all : goal.returns-then-not-keeps_all
returns-then-not-keeps_all c = search (says_bad, rules)

pub returns-then-byte-eq1 : goal.returns-then-byte-eq1
returns-then-byte-eq1 c = search (says_retired, rules)

pub returns : goal.returns
returns c = search (says_none, rules)
