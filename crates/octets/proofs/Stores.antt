-- Loops that store a run, as their needs ask.
use Rattle.octets.proofs.Kit.{ℕ, suc, ◌+◌, ◌-◌, ◌/◌, ◌%◌, ◌≤◌, ◌<◌, ◌≡◌, refl, ap, sym, ◌∙◌, List, [], ◌∷◌, ◌++◌, add-zero, arith, add-one, length, set, get_or, sets, sets-eq, set_comm}
use Rattle.octets.proofs.Kit.{paste, paste-suc, take-length}
use Rattle.octets.specs.{Bytes.bytes_of, Splice.splice}
use Rattle.octets.proofs.Numbers.{length_bytes}

sets_append : (o : List ℕ) (at : ℕ) (a b : List ℕ) → sets o at (a ++ b) ≡ sets (sets o at a) (at + length a) b
sets_append o at [] b = rw (add-zero at)
sets_append o at (x ∷ a) b =
    sets_append (set o at x) (suc at) a b ∙ ap (λ (k : ℕ). sets (sets (set o at x) (suc at) a) k b) (omega arith)

sets_late : (o : List ℕ) (at : ℕ) (a : List ℕ) (k x : ℕ) → at + length a ≤ k → set (sets o at a) k x ≡ sets (set o k x) at a
sets_late o at [] k x h = refl
sets_late o at (y ∷ a) k x h =
    sets_late (set o at y) (suc at) a k x (omega arith)
    ∙ ap (λ (l : List ℕ). sets l (suc at) a) (set_comm o at k y x (omega arith))

-- one byte more, from the last: the rest is the number's other bytes
pub put_again :
    (o r : List ℕ) (at i y : ℕ) →
    0 < i → sets o at (bytes_of i y) ≡ r → sets (set o (at + (i - 1)) (y % 256)) at (bytes_of (i - 1) (y / 256)) ≡ r
unfolding bytes_of
put_again o r at i y h inv =
    let e : i ≡ suc (i - 1) = omega arith in
    let l : length (bytes_of (i - 1) (y / 256)) ≡ i - 1 = length_bytes (i - 1) (y / 256) in
    sym
    (ap (λ (k : ℕ). sets o at (bytes_of k y)) e
    ∙ sets_append o at (bytes_of (i - 1) (y / 256)) (y % 256 ∷ [])
    ∙ ap (λ (k : ℕ). set (sets o at (bytes_of (i - 1) (y / 256))) (at + k) (y % 256)) l
    ∙ sets_late o at (bytes_of (i - 1) (y / 256)) (at + (i - 1)) (y % 256) (omega arith))
    ∙ inv

pub put_end :
    (o o₀ : List ℕ) (at i y w x : ℕ) → i ≤ 0 → at + w ≤ length o₀ → sets o at (bytes_of i y) ≡ sets o₀ at (bytes_of w x) → o ≡ splice o₀ at (bytes_of w x)
unfolding bytes_of splice
put_end o o₀ at i y w x h fits inv =
    let e : i ≡ 0 = omega arith in
    rw e at inv ∙ sets-eq (bytes_of w x) o₀ at (omega (arith, length_bytes w x))

-- A RUN PASTED IN from its first byte on: one byte more, and all of them
module _ (s run : List ℕ) (at : ℕ) where
  pub paste_more :
      (d : List ℕ) (j b : ℕ) → at + length run ≤ length s → j < length run → get_or run j 0 ≡ b → d ≡ paste s at run j → set d (at + j) b ≡ paste s at run (j + 1)
  paste_more d j b h l e inv = rw (inv, ← e, add-one j) (paste-suc s at run j 0 (omega arith) l)

  pub paste_all : (d : List ℕ) (j : ℕ) → d ≡ paste s at run j → j ≡ length run → d ≡ splice s at run
  unfolding splice
  paste_all d j inv e = inv ∙ ap (paste s at run) e ∙ simp take-length
