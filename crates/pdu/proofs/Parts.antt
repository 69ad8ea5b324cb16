-- Numbers one after the other: what one more adds.
use Rattle.octets.proofs.Kit.{ℕ, zero, suc, ◌+◌, ◌≤◌, ◌<◌, ◌≡◌, refl, sym, ap, ◌∙◌, List, [], ◌∷◌, ◌++◌, append_assoc, append-nil, arith, length, take, get_or, length-append}
use Rattle.octets.{specs.{Bytes.bytes_of, Splice.splice}, proofs.Numbers.length_bytes}
use Rattle.pdu.specs.{Parts.{run_of, width_of, Narrow}, declared.head.Part.Part}
use Rattle.pdu.proofs.Stores.{longer}

pub width_step : (ps : List Part) (i : ℕ) (d : Part) → i < length ps → width_of (take (suc i) ps) ≡ width_of (take i ps) + (get_or ps i d).0
width_step [] i d h = absurd (omega arith)
width_step (p ∷ ps) zero d h = omega arith
width_step (p ∷ ps) (suc i) d h = omega (arith, width_step ps i d (omega arith))

pub run_step : (ps : List Part) (i : ℕ) (d : Part) → i < length ps →
    run_of (take (suc i) ps) ≡ run_of (take i ps) ++ bytes_of (get_or ps i d).0 (get_or ps i d).1
run_step [] i d h = absurd (omega arith)
run_step (p ∷ ps) zero d h = append-nil (bytes_of p.0 p.1)
run_step (p ∷ ps) (suc i) d h =
    ap (λ (l : List ℕ). bytes_of p.0 p.1 ++ l) (run_step ps i d (omega arith)) ∙ sym (append_assoc (bytes_of p.0 p.1) (run_of (take i ps)) (bytes_of (get_or ps i d).0 (get_or ps i d).1))

pub width_part : (ps : List Part) (i : ℕ) (d : Part) → i < length ps → width_of (take i ps) + (get_or ps i d).0 ≤ width_of ps
width_part [] i d h = absurd (omega arith)
width_part (p ∷ ps) zero d h = omega arith
width_part (p ∷ ps) (suc i) d h = omega (arith, width_part ps i d (omega arith))

pub narrow_at : (ps : List Part) (i : ℕ) (d : Part) → Narrow ps → i < length ps → (get_or ps i d).0 ≤ 6
narrow_at [] i d n h = absurd (omega arith)
narrow_at (p ∷ ps) zero d n h = n.0
narrow_at (p ∷ ps) (suc i) d n h = narrow_at ps i d n.1 (omega arith)

pub length_run : (ps : List Part) → length (run_of ps) ≡ width_of ps
length_run [] = refl
length_run (p ∷ ps) = omega (arith, length-append (bytes_of p.0 p.1) (run_of ps), length_bytes p.0 p.1, length_run ps)

-- after one number more
pub one_more : (o o₁ o₂ : List ℕ) (k at i : ℕ) (ps : List Part) (d : Part) → i < length ps →
    at ≡ 2 + width_of (take i ps) →
    o₁ ≡ splice o 0 (bytes_of 2 k ++ run_of (take i ps)) →
    o₂ ≡ splice o₁ at (bytes_of (get_or ps i d).0 (get_or ps i d).1) →
    o₂ ≡ splice o 0 (bytes_of 2 k ++ run_of (take (suc i) ps))
one_more o o₁ o₂ k at i ps d h e f g =
    longer o o₁ o₂ (bytes_of 2 k ++ run_of (take i ps)) (bytes_of (get_or ps i d).0 (get_or ps i d).1) at
    (omega (arith, length-append (bytes_of 2 k) (run_of (take i ps)), length_bytes 2 k, length_run (take i ps))) f g
    ∙ ap (splice o 0) (append_assoc (bytes_of 2 k) (run_of (take i ps)) (bytes_of (get_or ps i d).0 (get_or ps i d).1) ∙ ap (λ (l : List ℕ). bytes_of 2 k ++ l) (sym (run_step ps i d h)))
