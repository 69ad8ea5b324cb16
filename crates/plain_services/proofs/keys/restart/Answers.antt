-- `plain_services::keys::restart` meets its contract.
use Rattle.octets.proofs.Kit.{refl}
use Rattle.plain_services.proofs.{Authorizing.restarted}
use Rattle.plain_services.proofs.keys.restart.Goals as goal

pub returns : goal.returns
returns c = restarted _ _ _ refl c.reply.ensures
