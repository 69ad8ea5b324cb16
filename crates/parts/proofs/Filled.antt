-- An array that a loop fills, entry by entry; and one that has the bytes of a list from a place on.
use Rattle.octets.proofs.Kit.{ℕ, ◌+◌, ◌-◌, ◌≤◌, ◌<◌, ◌≡◌, sym, ap, subst, ◌∙◌, List, arith, dec_lt, length, get_or, set, take, drop, length-set, length-take, length-drop, get_or-set_same}
use Rattle.octets.proofs.Kit.{get_or-set_other, get_or-take, get_or-drop}
use Rattle.octets.{specs.Splice.splice, proofs.Splices.{length_splice, splice_in}}

-- THE WALK THAT READS n ENTRIES, of any kind, into an array of k: P holds of the first i
pub record Filling {A : Type 0} (d : A) (P : A → ℕ → Type 0) (k n : ℕ) (r : List A) (i : ℕ) : Type 0 where
  pub most : i ≤ n
  pub full : length r ≡ k
  pub each : (j : ℕ) → j < i → P (get_or r j d) j

module _ {A : Type 0} {d : A} {P : A → ℕ → Type 0} {k n : ℕ} {r : List A} where
  pub none_filled : length r ≡ k → Filling d P k n r 0
  none_filled l = record { most = omega arith; full = l; each = λ j h. absurd (omega arith) }

  module _ {i : ℕ} (f : Filling d P k n r i) where
    pub one_filled : {x : A} → i < n → n ≤ k → P x i → Filling d P k n (set r i x) (i + 1)
    one_filled {x} l m p = record { most = omega arith; full = length-set r i x ∙ f.full; each = λ j h. go j h (dec_lt j i) }
      where
        go : (j : ℕ) → j < i + 1 → Dec (j < i) → P (get_or (set r i x) j d) j
        go j h (yes b) = subst (λ (e : A). P e j) (sym (get_or-set_other r i j x d (λ (e : j ≡ i). omega arith))) (f.each j b)
        go j h (no b) =
            let e : j ≡ i = omega arith in
            subst (λ (n : ℕ). P (get_or (set r i x) n d) n) (sym e) (subst (λ (e : A). P e i) (sym (get_or-set_same r i x d (omega (arith, f.full)))) p)

    pub all_filled : n ≤ i → (j : ℕ) → j < n → P (get_or r j d) j
    all_filled h j l = f.each j (omega arith)

pub from_on : (s d b r : List ℕ) (from : ℕ) → length b ≡ 16384 → d ≡ take (length s - from) (drop from s) → r ≡ splice b from d → (from ≤ length s) × (length s ≤ 16384) →
    (length r ≡ 16384) × ((p : ℕ) → from ≤ p → p < length s → get_or r p 0 ≡ get_or s p 0)
from_on s d b r from l ed er h =
    let m : length d ≡ length s - from = ap length ed ∙ simp (length-take, length-drop) (omega arith) in
    let room : from + length d ≤ length b = omega (arith, m) in (
      ap length er ∙ length_splice b from d room ∙ l,
      λ p k q.
          let j : ℕ = p - from in
          let e : from + j ≡ p = omega arith in
          let in-d : j < length s - from = omega arith in
          ap (λ (x : List ℕ). get_or x p 0) er
          ∙ ap (λ (n : ℕ). get_or (splice b from d) n 0) (sym e)
          ∙ splice_in b from d room j (omega (arith, m))
          ∙ ap (λ (x : List ℕ). get_or x j 0) ed
          ∙ get_or-take (length s - from) (drop from s) j 0 in-d
          ∙ get_or-drop from s j 0
          ∙ ap (λ (n : ℕ). get_or s n 0) e,
    )
