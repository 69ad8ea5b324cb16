-- `plain_services::replies::reply` meets its contract.
use Rattle.octets.proofs.Kit.{rules, arith, refl}
use Rattle.plain_services.proofs.{Agreed.echoed}
use Rattle.plain_services.proofs.replies.reply.Goals as goal

pub returns : goal.returns
returns c =
    record {
      outcome = refl;
      parts = refl;
      turn = refl;
      sent = refl;
      bytes = echoed _ _ _ (search rules) c.splice.ensures;
      short = omega arith;
      full = omega
          (arith, c.splice.auto);
    }
