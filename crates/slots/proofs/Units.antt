-- The head, and the unit that marks a slot, field by field. Assumes nothing.
use Rattle.octets.proofs.Kit.{ℕ, ◌-◌, ◌≡◌, refl, sym, ap, ◌∙◌, List, [], ◌∷◌, ◌++◌, length, take, drop, replicate, ne_eqb}
use Rattle.octets.{specs.{Bytes.bytes_of, Splice.splice}, proofs.{Splices.splice_front}}
use Rattle.slots.specs.{Crc.{ones, crc_from, crc_of}, Slot.{tail_of, head_of}, Saving.{unit_of}}
use Rattle.slots.proofs.promises.Crcs.{crc_append}

-- THE HEAD, field by field
tail_made : (n long : ℕ) → take 28 (drop 4 (splice (splice (replicate 32 0) 4 (bytes_of 4 n)) 8 (bytes_of 4 long))) ≡ tail_of n long
unfolding splice bytes_of tail_of
tail_made n long = refl

sum_made : (n long x : ℕ) → splice (splice (splice (replicate 32 0) 4 (bytes_of 4 n)) 8 (bytes_of 4 long)) 0 (bytes_of 4 x) ≡ bytes_of 4 x ++ tail_of n long
unfolding splice bytes_of tail_of
sum_made n long x = refl

pub head_made :
    (n : ℕ) (t h₀ h₁ h₂ h₃ : List ℕ) (c d : ℕ) → h₀ ≡ replicate 32 0 → h₁ ≡ splice h₀ 4 (bytes_of 4 n) → h₂ ≡ splice h₁ 8 (bytes_of 4 (length t)) →
    c ≡ crc_from ones (take (32 - 4) (drop 4 h₂)) → d ≡ crc_from c t → h₃ ≡ splice h₂ 0 (bytes_of 4 (ones - d)) → h₃ ≡ head_of n t
unfolding head_of crc_of
head_made n t h₀ h₁ h₂ h₃ c d e₀ e₁ e₂ f g e₃ =
    let z : h₂ ≡ splice (splice (replicate 32 0) 4 (bytes_of 4 n)) 8 (bytes_of 4 (length t)) =
    e₂ ∙ ap (λ (l : List ℕ). splice l 8 (bytes_of 4 (length t))) (e₁ ∙ ap (λ (l : List ℕ). splice l 4 (bytes_of 4 n)) e₀)
    in
    let q : c ≡ crc_from ones (tail_of n (length t)) =
    f ∙ ap (λ (l : List ℕ). crc_from ones (take 28 (drop 4 l))) z ∙ ap (crc_from ones) (tail_made n (length t))
    in
    let p : d ≡ crc_from ones (tail_of n (length t) ++ t) = g ∙ ap (λ (k : ℕ). crc_from k t) q ∙ sym (crc_append ones (tail_of n (length t)) t) in
    e₃
    ∙ ap (λ (l : List ℕ). splice l 0 (bytes_of 4 (ones - d))) z
    ∙ sum_made n (length t) (ones - d)
    ∙ ap (λ (k : ℕ). bytes_of 4 (ones - k) ++ tail_of n (length t)) p

-- THE MARK'S UNIT
module _ (k n : ℕ) (t o o' : List ℕ) where
  pub unit_mark :
      (x : List ℕ) → (k ≡ 0 → ⊥) → (k ≡ 2 → ⊥) → x ≡ splice o 0 (replicate 32 255) → o' ≡ splice x 0 (75 ∷ 69 ∷ 76 ∷ 73 ∷ 78 ∷ 68 ∷ []) →
      o' ≡ splice o 0 (unit_of k n t)
  unfolding unit_of
  unit_mark x g f e d =
      rw (ne_eqb k 0 g, ne_eqb k 2 f)
      (d
      ∙ ap (λ (l : List ℕ). splice l 0 (75 ∷ 69 ∷ 76 ∷ 73 ∷ 78 ∷ 68 ∷ [])) (e ∙ splice_front o (replicate 32 255))
      ∙ splice_front (replicate 32 255 ++ drop 32 o) (75 ∷ 69 ∷ 76 ∷ 73 ∷ 78 ∷ 68 ∷ [])
      ∙ sym (splice_front o (75 ∷ 69 ∷ 76 ∷ 73 ∷ 78 ∷ 68 ∷ replicate 26 255)))
