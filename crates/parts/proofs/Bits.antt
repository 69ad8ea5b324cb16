-- Bits of a byte, by name.
use Rattle.octets.proofs.Kit.{ℕ, ◌+◌, ◌*◌, ◌/◌, ◌%◌, ◌≤◌, ◌<◌, ◌≡◌, Bool, eqb, arith}
use Rattle.octets.proofs.Walks.{by_eq}
use Rattle.parts.specs.Again.{bit_of}

-- a bit that is set has its weight
bit1 : (y : ℕ) → y < 2 → bit_of (eqb y 1) 1 ≡ y
bit1 y h = by_eq (λ (r : ℕ). r ≡ y) y 1 1 0 (λ e. omega arith) (λ e. omega arith)

bit2 : (y : ℕ) → y < 2 → bit_of (eqb y 1) 2 ≡ 2 * y
bit2 y h = by_eq (λ (r : ℕ). r ≡ 2 * y) y 1 2 0 (λ e. omega arith) (λ e. omega arith)

bit4 : (y : ℕ) → y < 2 → bit_of (eqb y 1) 4 ≡ 4 * y
bit4 y h = by_eq (λ (r : ℕ). r ≡ 4 * y) y 1 4 0 (λ e. omega arith) (λ e. omega arith)

bit128 : (y : ℕ) → y < 2 → bit_of (eqb y 1) 128 ≡ 128 * y
bit128 y h = by_eq (λ (r : ℕ). r ≡ 128 * y) y 1 128 0 (λ e. omega arith) (λ e. omega arith)

-- the bits named are all that a byte has
pub two_bits : (x : ℕ) (a b : Bool) → x ≤ 3 → a ≡ eqb (x % 2) 1 → b ≡ eqb (x / 2 % 2) 1 → bit_of a 1 + bit_of b 2 ≡ x
two_bits x a b h ea eb = rw (ea, eb) (omega (arith, bit1 (x % 2) (omega arith), bit2 (x / 2 % 2) (omega arith)))

pub three_bits :
    (x : ℕ) (a b c : Bool) → x ≤ 7 → a ≡ eqb (x % 2) 1 → b ≡ eqb (x / 2 % 2) 1 → c ≡ eqb (x / 4 % 2) 1 →
    bit_of a 1 + bit_of b 2 + bit_of c 4 ≡ x
three_bits x a b c h ea eb ec =
    let half : x / 2 / 2 ≡ x / 4 = omega arith in
    let last : x / 4 % 2 ≡ x / 4 = omega arith in
    rw (ea, eb, ec) (omega (arith, half, last, bit1 (x % 2) (omega arith), bit2 (x / 2 % 2) (omega arith), bit4 (x / 4 % 2) (omega arith)))

pub top_bit : (x y : ℕ) (a : Bool) → x < 256 → a ≡ eqb (x / 128) 1 → y ≡ x % 128 → y % 128 + bit_of a 128 ≡ x
top_bit x y a h ea ey = rw ea (omega (arith, ey, bit128 (x / 128) (omega arith)))
