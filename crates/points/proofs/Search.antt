-- The search for the exponent, turn by turn.
use Rattle.octets.proofs.Kit.{ℕ, suc, ◌+◌, ◌*◌, ◌-◌, ◌%◌, ◌^◌, ◌≤◌, ◌<◌, ◌≡◌, ap, ◌∙◌, Bool, cond, arith, mul-le-mul, le-leb, lt-leb}
use Rattle.points.specs.Code.{exponent_from}
use Rattle.points.proofs.Laws.{small}

-- the limit at an exponent, shifted as a number of the code
top_is : (l e : ℕ) → l ≤ 4097 → e < 15 → (l * 2 ^ e) % 2 ^ 32 ≡ l * 2 ^ e
top_is l e h k = omega (arith, mul-le-mul {n₁ = l} {m₁ = 2 ^ e} {n₂ = 4097} {m₂ = 32768} h (small e (omega (arith, k))).1)

turn : (m l e : ℕ) → e < 15 → exponent_from (15 - e) m l e ≡ exponent_from (suc (15 - (e + 1))) m l e
turn m l e h =
    let less : 15 - e ≡ suc (15 - (e + 1)) = omega (arith, h) in
    ap (λ (n : ℕ). exponent_from n m l e) less

pub goes_on : (m l e : ℕ) → l ≤ 4097 → e < 15 → (l * 2 ^ e) % 2 ^ 32 < 2 * m → exponent_from (15 - e) m l e ≡ exponent_from (15 - (e + 1)) m l (e + 1)
unfolding exponent_from
goes_on m l e i h k = turn m l e h ∙ ap (λ (b : Bool). cond b e (exponent_from (15 - (e + 1)) m l (e + 1))) (lt-leb (2 * m) (l * 2 ^ e) (omega (arith, k, top_is l e i h)))

pub stops : (m l e : ℕ) → l ≤ 4097 → e < 15 → 2 * m ≤ (l * 2 ^ e) % 2 ^ 32 → exponent_from (15 - e) m l e ≡ e
unfolding exponent_from
stops m l e i h k = turn m l e h ∙ ap (λ (b : Bool). cond b e (exponent_from (15 - (e + 1)) m l (e + 1))) (le-leb (2 * m) (l * 2 ^ e) (omega (arith, k, top_is l e i h)))

pub ends : (m l e : ℕ) → e ≤ 15 → 15 ≤ e → exponent_from (15 - e) m l e ≡ 15
unfolding exponent_from
ends m l e u h =
    let none : 15 - e ≡ 0 = omega (arith, u, h) in
    ap (λ (n : ℕ). exponent_from n m l e) none ∙ omega (arith, u, h)
