-- A write that jumps elements: one run, from the first that is not counted on. It is zeros, and then the data.
use Rattle.octets.proofs.Kit.{ℕ, ◌+◌, ◌*◌, ◌-◌, ◌≤◌, ◌<◌, ◌≡◌, sym, ap, subst, ◌∙◌, List, length, replicate, length-replicate, dec_lt, arith}
use Rattle.octets.{specs.Splice.splice, proofs.Splices.{splice_none, splice_more}}
use Rattle.judge.{specs.Properties.{element_at, jumped}, proofs.PropertyCases.Among}
use Rattle.device.specs.Carry.{padded}
use Rattle.device.proofs.leaves.Stores.{length_padded}

-- the elements of the run, the first c being counted
pub whole : {n t m : ℕ} (c : ℕ) → Among n t m → Among (jumped c t + n) (t - jumped c t) m
whole c a =
    record { start = omega (arith, a.start); some = omega (arith, a.some); end = omega (arith, a.start, a.end) }

-- and its bytes
pub length_run : (j n z : ℕ) (d : List ℕ) → length d ≡ n * z → length (padded (j * z) d) ≡ (j + n) * z
length_run j n z d e = omega (arith, length_padded (j * z) d)

-- zeros from element c + 1 on, then the data
apart :
    (s d : List ℕ) (o z c j : ℕ) → o + c * z ≤ length s →
    splice s (o + c * z) (padded (j * z) d) ≡ splice (splice s (o + c * z) (replicate (j * z) 0)) (o + (c + j) * z) d
apart s d o z c j h =
    let zeros : List ℕ = replicate (j * z) 0 in
    let e : o + c * z + length zeros ≡ o + (c + j) * z = omega (arith, length-replicate {A = ℕ} (j * z) 0) in
    sym (splice_more s (o + c * z) zeros d h) ∙ ap (λ (p : ℕ). splice (splice s (o + c * z) zeros) p d) e

-- THE RUN IS TWO STORES
pub zeros_and_data :
    (s d : List ℕ) (o z c t : ℕ) → 1 ≤ t → o + c * z ≤ length s →
    splice s (element_at o z (t - jumped c t)) (padded (jumped c t * z) d)
    ≡ splice (splice s (element_at o z (c + 1)) (replicate (jumped c t * z) 0)) (element_at o z t) d
zeros_and_data s d o z c t low h = go (dec_lt c t)
  where
    go : Dec (c < t) →
        splice s (element_at o z (t - jumped c t)) (padded (jumped c t * z) d)
        ≡ splice (splice s (element_at o z (c + 1)) (replicate (jumped c t * z) 0)) (element_at o z t) d
    go (yes l) =
        let j : ℕ = jumped c t in
        let p : t - j - 1 ≡ c = omega arith in
        let q : c + j ≡ t - 1 = omega arith in
        let r : c + 1 - 1 ≡ c = omega arith in
        rw (p, r) (subst (λ (k : ℕ). splice s (o + c * z) (padded (j * z) d) ≡ splice (splice s (o + c * z) (replicate (j * z) 0)) (o + k * z) d) q (apart s d o z c j h))
    go (no l) =
        let j : jumped c t ≡ 0 = omega arith in
        let p : t - jumped c t - 1 ≡ t - 1 = omega arith in
        let k : jumped c t * z ≡ 0 = rw j (omega arith) in
        rw (p, k) (ap (λ (u : List ℕ). splice u (element_at o z t) d) (sym (splice_none s (element_at o z (c + 1)))))
