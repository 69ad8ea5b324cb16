-- A text that was put in front.
use Rattle.octets.proofs.Kit.{◌+◌, ◌≤◌, ◌≡◌, ℕ, subst, sym, List, length, arith}
use Rattle.octets.{specs.Splice.splice, proofs.Splices.{length_splice, splice_read}}
use Rattle.sheet_check.specs.Line.{Fronts}

-- what was put in front stands there
pub front : (l l' text : List ℕ) → length text ≤ length l → l' ≡ splice l 0 text → Fronts text (length text) l'
front l l' text h e =
    subst (Fronts text (length text)) (sym e)
    (record { most = omega (arith, length_splice l 0 text (omega arith)); is = splice_read l 0 text (omega arith) })
