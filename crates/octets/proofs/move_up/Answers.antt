-- `octets::move_up` meets its contract. The invariant: the bytes from j on have been moved.
use Rattle.octets.proofs.Kit.{ℕ, ◌+◌, ◌-◌, ap, ◌∙◌, refl, List, arith, length-set, set, get_or}
use Rattle.octets.proofs.{Moves.{up_none, up_more, up_all}}
use Rattle.octets.proofs.move_up.Goals as goal

pub loop-j-init : goal.loop-j-init
loop-j-init c = (up_none _ _ _ _ _ (omega arith), refl)

pub loop-j-preserved : goal.loop-j-preserved
loop-j-preserved c =
    let i = c.loop-j in
    let a = c.args in (
      ap (λ (l : List ℕ). set l (a.to + (i.j - 1)) (get_or l (a.from + (i.j - 1)) 0)) i.invariant.0
          ∙ up_more _ _ _ _ i.j (omega arith) (omega arith) (omega arith) (omega arith),
      simp length-set i.invariant.1,
    )

pub returns : goal.returns
returns c = c.loop-j.invariant.0 ∙ up_all _ _ _ _ _ (omega arith)
