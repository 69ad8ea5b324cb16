-- `plain_services::keys::authorize` meets its contract.
use Rattle.plain_services.proofs.{Authorizing.authorized}
use Rattle.plain_services.proofs.keys.authorize.Goals as goal

pub returns : goal.returns
returns c = authorized _ _ _ _ c.level_with-level.ensures c.reply.ensures
