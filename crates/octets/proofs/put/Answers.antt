-- `octets::put` meets its contract: storing what is left of the number is what storing all of it was.
use Rattle.octets.proofs.Kit.{arith, length-set}
use Rattle.octets.proofs.{Stores.{put_again, put_end}}
use Rattle.octets.proofs.put.Goals as goal

pub loop-i-preserved : goal.loop-i-preserved
loop-i-preserved c =
    let l = c.loop-i in
    (put_again _ _ _ _ _ (omega arith) l.invariant.0, simp length-set l.invariant.1)

pub returns : goal.returns
returns c = put_end _ _ _ _ _ _ _ (omega arith) (omega arith) c.loop-i.invariant.0
