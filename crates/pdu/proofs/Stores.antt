-- Numbers stored one after the other make one run of bytes.
use Rattle.octets.proofs.Kit.{ℕ, ◌+◌, ◌≡◌, ap, ◌∙◌, List, ◌++◌, arith, length}
use Rattle.octets.{specs.{Splice.splice}, proofs.{Splices.splice_more}}

-- a second run right after one that starts at the first byte
pub longer : (o o₁ o₂ a b : List ℕ) (n : ℕ) → length a ≡ n → o₁ ≡ splice o 0 a → o₂ ≡ splice o₁ n b → o₂ ≡ splice o 0 (a ++ b)
longer o o₁ o₂ a b n l e f =
    let z : n ≡ 0 + length a = omega arith in
    f
    ∙ ap (λ (s : List ℕ). splice s n b) e
    ∙ ap (λ (k : ℕ). splice (splice o 0 a) k b) z
    ∙ splice_more o 0 a b (omega arith)
