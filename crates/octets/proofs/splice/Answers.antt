-- `octets::splice` meets its contract. The invariant: dst is what it was with src's first j bytes pasted in from `at`.
use Rattle.octets.proofs.Kit.{refl, arith, length-set, paste-zero}
use Rattle.octets.proofs.{Stores.{paste_more, paste_all}}
use Rattle.octets.proofs.splice.Goals as goal

pub loop-j-init : goal.loop-j-init
loop-j-init c = let a = c.args in (paste-zero a.dst.now a.at a.src.now, refl)

pub loop-j-preserved : goal.loop-j-preserved
loop-j-preserved c =
    let i = c.loop-j.invariant in
    (paste_more _ _ _ _ _ _ (omega arith) (omega arith) refl i.0, simp length-set i.1)

pub returns : goal.returns
returns c = paste_all _ _ _ _ _ c.loop-j.invariant.0 (omega arith)
