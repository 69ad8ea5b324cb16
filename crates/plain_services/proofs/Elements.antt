-- Elements of a property: counts and places.
use Rattle.octets.proofs.Kit.{ℕ, ◌+◌, ◌*◌, ◌-◌, ◌≤◌, ◌≡◌, ap, ap₂, ◌∙◌, List, length, eqb, mul-le-mul, arith, replicate}
use Rattle.octets.specs.Splice.{splice}
use Rattle.judge.specs.Properties.{element_at, jumped}
use Rattle.parts.specs.{declared.Parts.Parts, With.with_bodies}
use Rattle.device.{specs.Carry.padded, proofs.leaves.Stores.zeros_first}

pub small : (a b : ℕ) → a ≤ 65535 → b ≤ 255 → a * b ≤ 16711425
small a b h k = mul-le-mul h k

-- zeros, then data
pub zeros_written :
    (u : Parts) (b₁ b₂ d : List ℕ) (at z : ℕ) → at + (z + length d) ≤ length u.bodies → b₁ ≡ splice u.bodies at (replicate z 0) → b₂ ≡ splice b₁ (at + z) d →
    with_bodies u b₂ ≡ with_bodies u (splice u.bodies at (padded z d))
zeros_written u b₁ b₂ d at z h e f = ap (λ (b : List ℕ). with_bodies u b) (zeros_first u.bodies b₁ b₂ d at z h e f)

pub eqb_second : (x y z : ℕ) → y ≡ z → eqb x y ≡ eqb x z
eqb_second x y z e = ap (eqb x) e

-- the place of element t, and of the first that is jumped
pub element_from : (o z t x : ℕ) → x ≡ (t - 1) * z → o + x ≡ element_at o z t
element_from o z t x e = ap (λ (y : ℕ). o + y) e

pub jumped_from : (o z t j x : ℕ) → x ≡ (t - 1 - j) * z → o + x ≡ element_at o z (t - j)
jumped_from o z t j x e = let q : t - 1 - j ≡ t - j - 1 = omega arith in ap (λ (y : ℕ). o + y) (e ∙ ap (λ (k : ℕ). k * z) q)

-- the run of a write, j elements being jumped: it starts at f, and m bytes of it are zeros
module _ (o z c t j f m n : ℕ) (ej : j ≡ jumped c t) (ef : f ≡ element_at o z (t - j)) (em : m ≡ j * z) where
  pub from_is : f ≡ element_at o z (t - jumped c t)
  from_is = rw ej at ef

  pub zeros_are : m ≡ jumped c t * z
  zeros_are = rw ej at em

  pub run_fits : element_at o z (t - jumped c t) + (jumped c t * z + n) ≤ 16384 → f + (m + n) ≤ 16384
  run_fits h = rw (from_is, zeros_are) h

  pub run_written :
      (u : Parts) (b₁ b₂ d : List ℕ) → length u.bodies ≡ 16384 → length d ≡ n → element_at o z (t - jumped c t) + (jumped c t * z + n) ≤ 16384 →
      b₁ ≡ splice u.bodies f (replicate m 0) → b₂ ≡ splice b₁ (f + m) d →
      with_bodies u b₂ ≡ with_bodies u (splice u.bodies (element_at o z (t - jumped c t)) (padded (jumped c t * z) d))
  run_written u b₁ b₂ d l k h e g =
      zeros_written u b₁ b₂ d f m (omega (arith, run_fits h)) e g
      ∙ ap₂ (λ (x y : ℕ). with_bodies u (splice u.bodies x (padded y d))) from_is zeros_are
