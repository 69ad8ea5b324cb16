-- Runs stored one after the other make the bytes of a frame. Assumes nothing.
use Rattle.octets.proofs.Kit.{ℕ, ◌+◌, ◌-◌, ◌*◌, ◌/◌, ◌%◌, ◌≤◌, ◌<◌, ◌≡◌, refl, ap, ◌∙◌, List, [], ◌∷◌, ◌++◌, append_assoc, arith, length, take, drop, get_or, length-append, take_all}
use Rattle.octets.{specs.{Bytes.bytes_of, Splice.splice}, proofs.Splices.{splice_more}}
use Rattle.cemi.specs.{Layout.{table, bytes_in, size}, Write.{numbers_of, under, front_bytes, encoded}, declared.Fields.Fields}

-- a second run right after the first
longer :
    (o o₁ o₂ a b : List ℕ) (at n : ℕ) → at ≤ length o → n ≡ at + length a → o₁ ≡ splice o at a → o₂ ≡ splice o₁ n b →
    o₂ ≡ splice o at (a ++ b)
longer o o₁ o₂ a b at n h l e f =
    f ∙ ap (λ (s : List ℕ). splice s n b) e ∙ ap (λ (k : ℕ). splice (splice o at a) k b) l ∙ splice_more o at a b h

pub front_put :
    (o o₁ o₂ i : List ℕ) (c : ℕ) → o₁ ≡ splice o 0 (c ∷ length i ∷ []) → o₂ ≡ splice o₁ 2 i → o₂ ≡ splice o 0 (front_bytes c i)
front_put o o₁ o₂ i c e f = longer o o₁ o₂ (c ∷ length i ∷ []) i 0 2 (omega arith) refl e f

-- THE TABLE'S BYTES, one by one
pub table_put :
    (o o₁ : List ℕ) (f : Fields) (at x : ℕ) →
    f.control1 < 256 → f.control2 < 256 → f.source < 65536 → f.destination < 65536 → x < 256 →
    o₁ ≡ splice o at (f.control1 ∷ f.control2 ∷ f.source / 256 ∷ f.source % 256 ∷ f.destination / 256 ∷ f.destination % 256 ∷ x ∷ []) →
    o₁ ≡ splice o at (bytes_in table (numbers_of f x))
unfolding bytes_in bytes_of
table_put o o₁ f at x a b c d h e =
    let p : f.control1 % 256 ≡ f.control1 = omega arith in
    let q : f.control2 % 256 ≡ f.control2 = omega arith in
    let s : f.source / 256 % 256 ≡ f.source / 256 = omega arith in
    let t : f.destination / 256 % 256 ≡ f.destination / 256 = omega arith in
    let u : x % 256 ≡ x = omega arith in
    rw (p, q, s, t, u) e

pub tpdu_put :
    (o o₁ o₂ a : List ℕ) (t at : ℕ) → at + length a ≤ length o → 1 ≤ length a →
    o₁ ≡ splice o at ((t * 4 + get_or a 0 0 % 4) ∷ []) →
    o₂ ≡ splice o₁ (at + 1) (take (length a - 1) (drop 1 a)) →
    o₂ ≡ splice o at (under t a)
unfolding under
tpdu_put o o₁ o₂ [] t at h k e f = absurd (omega arith)
tpdu_put o o₁ o₂ (x ∷ a) t at h k e f =
    let g : take (length (x ∷ a) - 1) a ≡ a = take_all (length (x ∷ a) - 1) a (omega arith) in
    longer o o₁ o₂ ((t * 4 + x % 4) ∷ []) a at (at + 1) (omega arith) refl e (rw g at f)

pub length_table : (f : Fields) (x : ℕ) → length (bytes_in table (numbers_of f x)) ≡ size
unfolding bytes_in bytes_of
length_table f x = refl

-- ALL THREE PARTS
pub all_put :
    (o o₁ o₂ o₃ i a : List ℕ) (f : Fields) →
    o₁ ≡ splice o 0 (front_bytes f.code i) →
    o₂ ≡ splice o₁ (2 + length i) (bytes_in table (numbers_of f (length a - 1))) →
    o₃ ≡ splice o₂ (2 + length i + 7) (under f.transport a) →
    o₃ ≡ splice o 0 (encoded f i a)
unfolding encoded
all_put o o₁ o₂ o₃ i a f d e g =
    let t : List ℕ = bytes_in table (numbers_of f (length a - 1)) in
    let l : length t ≡ 7 = length_table f (length a - 1) in
    let m : 2 + length i ≡ 0 + length (front_bytes f.code i) = omega arith in
    let n : 2 + length i + 7 ≡ 0 + length (front_bytes f.code i ++ t) = omega (arith, length-append (front_bytes f.code i) t) in
    longer o o₂ o₃ (front_bytes f.code i ++ t) (under f.transport a) 0 (2 + length i + 7) (omega arith) n
    (longer o o₁ o₂ (front_bytes f.code i) t 0 (2 + length i) (omega arith) m d e) g
    ∙ ap (splice o 0) (append_assoc (front_bytes f.code i) t (under f.transport a))
