-- `octets::move_down` meets its contract. The invariant: the first j bytes have been moved.
use Rattle.octets.proofs.Kit.{ℕ, ◌+◌, ◌≡◌, ap, ◌∙◌, refl, List, arith, length-set, set, get_or}
use Rattle.octets.specs.Moved.{moved}
use Rattle.octets.proofs.{Moves.{moved_none, move_first}}
use Rattle.octets.proofs.move_down.Goals as goal

pub loop-j-init : goal.loop-j-init
loop-j-init c = (moved_none _ _ _, refl)

pub loop-j-preserved : goal.loop-j-preserved
loop-j-preserved c =
    let i = c.loop-j in
    let a = c.args in (
      ap (λ (l : List ℕ). set l (a.to + i.j) (get_or l (a.from + i.j) 0)) i.invariant.0
          ∙ move_first _ _ _ i.j (omega arith) (omega arith),
      simp length-set i.invariant.1,
    )

pub returns : goal.returns
returns c =
    let i = c.loop-j in
    let a = c.args in
    let e : i.j ≡ a.n = omega arith in
    i.invariant.0 ∙ ap (moved _ _ _) e
