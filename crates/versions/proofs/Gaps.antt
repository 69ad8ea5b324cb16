-- Runs replaced, and gaps opened and closed, in a buffer that is taken apart: p, what is replaced, and what follows.
use Rattle.octets.proofs.Kit.{ℕ, ◌+◌, ◌≤◌, ◌≡◌, refl, sym, ap, ◌∙◌, List, ◌++◌, append_assoc, arith, length, take, drop, length-append, length-drop, take-append_seam, drop-append_seam}
use Rattle.octets.proofs.Kit.{take-append-add, drop-append-add, drop_at, drop-append-le}
use Rattle.octets.specs.{Splice.splice, Moved.moved}

-- a run that stands behind p replaced by one as long
pub splice_mid : (p b d q : List ℕ) (o : ℕ) → o ≡ length p → length d ≡ length b → splice (p ++ (b ++ q)) o d ≡ p ++ (d ++ q)
unfolding splice
splice_mid p b d q o e l =
    rw (e, take-append_seam p (b ++ q), drop-append-add p (b ++ q) (length d), drop_at b q (length d) (sym l))
    (append_assoc p d q)

-- the run m behind p and r, and what stands there
pub run_at : (p r m q : List ℕ) (o n : ℕ) → o ≡ length p + length r → n ≡ length m → take n (drop o (p ++ (r ++ (m ++ q)))) ≡ m
run_at p r m q o n e l =
    rw (e, drop-append-add p (r ++ (m ++ q)) (length r), drop_at r (m ++ q) (length r) refl, l) (take-append_seam m q)

-- A GAP CLOSED: m moves down over r; as many bytes as r had are left over behind it
pub close_gap :
    (p r m q : List ℕ) (from to n : ℕ) → from ≡ length p + length r → to ≡ length p → n ≡ length m →
    moved (p ++ (r ++ (m ++ q))) from to n ≡ p ++ (m ++ (drop (length m) (r ++ m) ++ q))
unfolding moved splice
close_gap p r m q from to n ef et en =
    rw (run_at p r m q from n ef en, et, take-append_seam p (r ++ (m ++ q)), drop-append-add p (r ++ (m ++ q)) (length m))
    (append_assoc p m _ ∙ ap (λ (x : List ℕ). p ++ (m ++ x)) (ap (drop (length m)) (sym (append_assoc r m q)) ∙ drop-append-le (length m) (r ++ m) q (omega (arith, length-append r m))))

pub left_over : (r m : List ℕ) → length (drop (length m) (r ++ m)) ≡ length r
left_over r m = simp (length-drop, length-append) (omega arith)

-- A GAP OPENED: m moves up by k, over the first k bytes of what follows
pub open_gap :
    (p m q : List ℕ) (from to n k : ℕ) → from ≡ length p → to ≡ length p + k → n ≡ length m → k ≤ length q →
    moved (p ++ (m ++ q)) from to n ≡ p ++ (take k (m ++ q) ++ (m ++ drop k q))
unfolding moved splice
open_gap p m q from to n k ef et en h =
    let run : take n (drop from (p ++ (m ++ q))) ≡ m = rw (ef, drop-append_seam p (m ++ q), en) (take-append_seam m q) in
    let o : to + length m ≡ length p + (length m + k) = omega arith in
    rw (run, o, et, take-append-add p (m ++ q) k, drop-append-add p (m ++ q) (length m + k), drop-append-add m q k)
    (append_assoc (p ++ take k (m ++ q)) m (drop k q) ∙ append_assoc p (take k (m ++ q)) (m ++ drop k q))
