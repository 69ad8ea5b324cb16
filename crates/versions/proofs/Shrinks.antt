-- ONE VERSION LESS: the numbers still rise, it takes less, and that store is good.
use Rattle.octets.proofs.Kit.{ℕ, suc, ◌+◌, ◌-◌, ◌≤◌, ◌≡◌, refl, ◌∙◌, List, [], ◌∷◌, ◌++◌, arith, eqb, length, drop, replicate, length-append, length-drop, length-replicate}
use Rattle.octets.proofs.Walks.{by_test}
use Rattle.versions.specs.{Store.{Version, Rising, none, next, Keeps, longest, lowest, bodies_of, laid}, Removing.{without, removed}}
use Rattle.versions.proofs.{Laid.laid_long, promises.Keeping.{keeps_these, keeps_last, whole}}

-- numbers still rise without one of them
rising_weaker : {last : ℕ} (floor to : ℕ) (vs : List Version) → floor ≤ to → Rising last to vs → Rising last floor vs
rising_weaker floor to [] h (none k) = none {floor = floor} (omega arith)
rising_weaker floor to (v ∷ vs) h (next k r) = next {floor = floor} {v = v} (omega arith) r

rising_without : {last : ℕ} (x floor : ℕ) (vs : List Version) → Rising last floor vs → Rising last floor (without x vs)
unfolding without
rising_without x floor [] r = r
rising_without {last} x floor (v ∷ vs) (next h r) =
    by_test (λ (ws : List Version). Rising last floor ws) (eqb v.number x) vs (v ∷ without x vs)
    (λ e. rising_weaker floor (v.number + 1) vs (omega arith) r)
    (λ e. next h (rising_without x (v.number + 1) vs r))

fewer : (x : ℕ) (vs : List Version) → (length (without x vs) ≤ length vs) × (length (bodies_of (without x vs)) ≤ length (bodies_of vs))
unfolding without bodies_of
fewer x [] = (omega arith, omega arith)
fewer x (v ∷ vs) =
    let k = length-append v.body (bodies_of vs) in
    let ih = fewer x vs in
    by_test (λ (ws : List Version). (length ws ≤ suc (length vs)) × (length (bodies_of ws) ≤ length (v.body ++ bodies_of vs))) (eqb v.number x) vs (v ∷ without x vs)
    (λ e. (omega arith, omega arith))
    (λ e. let j = length-append v.body (bodies_of (without x vs)) in (omega arith, unfold bodies_of in omega arith))

-- AND THAT STORE IS GOOD
pub shrunk : {s : List ℕ} {last : ℕ} {vs : List Version} → Keeps s last vs → (x : ℕ) → Keeps (removed s x) last (without x vs)
unfolding removed
shrunk {s} {last} {vs} k x =
    let old : ℕ = length (laid last vs) in
    let small : ℕ = length (laid last (without x vs)) in
    let f = fewer x vs in
    let z : List ℕ = replicate (old - small) 0 in
    let lz : length z ≡ old - small = length-replicate (old - small) 0 in
    let rest : List ℕ = z ++ drop old s in
    let l : length (laid last (without x vs) ++ rest) ≤ longest =
    omega (arith, k.good.short, whole k, length-append (laid last (without x vs)) rest, length-append z (drop old s), length-drop old s, laid_long last vs, laid_long last (without x vs))
    in
    rw (keeps_these k, keeps_last k)
    (record {
      free = rest;
      good = record { is = refl; few = omega (arith, k.good.few); rising = rising_without x lowest vs k.good.rising; given = k.good.given; short = l };
    })

-- the buffer is as long as it was
pub removed_long : {s : List ℕ} {last : ℕ} {vs : List Version} → Keeps s last vs → (x : ℕ) → length (removed s x) ≡ length s
unfolding removed
removed_long {s} {last} {vs} k x =
    let old : ℕ = length (laid last vs) in
    let new : List ℕ = laid last (without x vs) in
    let f = fewer x vs in
    let z : List ℕ = replicate (old - length new) 0 in
    let lz : length z ≡ old - length new = length-replicate (old - length new) 0 in
    rw (keeps_these k, keeps_last k)
    (length-append new (z ++ drop old s)
    ∙ omega (arith, whole k, length-append z (drop old s), length-drop old s, laid_long last vs, laid_long last (without x vs)))
