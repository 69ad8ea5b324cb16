-- Bits of the bodies.
use Rattle.octets.proofs.Kit.{ℕ, zero, suc, ◌+◌, ◌≤◌, ◌<◌, ◌≡◌, refl, sym, ap, ap₂, ◌∙◌, List, [], ◌∷◌, ◌++◌, arith, bit_and, bit_xor, length, get_or}
use Rattle.octets.{specs.Splice.splice, proofs.Splices.splice_none}
use Rattle.sheet.specs.Entries.{contents}
use Rattle.parts.specs.{declared.Parts.Parts, Records.Taken}
use Rattle.device.specs.Carry.{build, bit_at}

-- before the first turn, and after the last
pub bits_first : (b₀ : List ℕ) (f : ℕ → ℕ) (o : ℕ) → b₀ ≡ splice b₀ o (build 0 f)
unfolding build
bits_first b₀ f o = sym (splice_none b₀ o)

pub all_bits : (b₀ b : List ℕ) (f : ℕ → ℕ) (o n i : ℕ) → i ≡ n → b ≡ splice b₀ o (build i f) → b ≡ splice b₀ o (build n f)
all_bits b₀ b f o n i e g = g ∙ ap (λ (k : ℕ). splice b₀ o (build k f)) e

-- bits of the bodies are bits of the sheet
build_same : (n : ℕ) (f g : ℕ → ℕ) → ((i : ℕ) → i < n → f i ≡ g i) → build n f ≡ build n g
unfolding build
build_same zero f g h = refl
build_same (suc n) f g h = ap₂ (λ (x : List ℕ) (y : ℕ). x ++ (y ∷ [])) (build_same n f g (λ i l. h i (omega arith))) (h n (omega arith))

pub bits_same : (s d : List ℕ) (u : Parts) (n o : ℕ) → Taken s u → contents s ≤ o → o + n ≤ length s → build n (bit_at u.bodies o n d) ≡ build n (bit_at s o n d)
unfolding bit_at
bits_same s d u n o t low fit =
    build_same n (bit_at u.bodies o n d) (bit_at s o n d) (λ i l. ap (λ (x : ℕ). bit_xor (bit_and x (get_or d i 0)) (get_or d (n + i) 0)) (t.bodies (o + i) (omega arith) (omega arith)))
