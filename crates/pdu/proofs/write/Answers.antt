-- `pdu::write` meets its contract: each return by its law.
use Rattle.pdu.proofs.{promises.Writing.{wrote_3, wrote_long, wrote_13, wrote_all}}
use Rattle.pdu.proofs.write.Goals.{then-n-gt16-via-then-n-gt16, then-n-gt16-via-else-n-gt16+then-not-allowed}
use Rattle.pdu.proofs.write.Goals as goal

pub returns-then-out-lt16 : goal.returns-then-out-lt16
returns-then-out-lt16 c = search wrote_3

pub returns-then-n-gt16 : goal.returns-then-n-gt16
returns-then-n-gt16 c =
    elim c.then-n-gt16.branch [ then-n-gt16-via-then-n-gt16 w ↦ search wrote_long | then-n-gt16-via-else-n-gt16+then-not-allowed w ↦ search wrote_13 ]

pub returns : goal.returns
returns c = search wrote_all
