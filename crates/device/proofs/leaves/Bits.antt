-- A bit write byte by byte.
use Rattle.octets.proofs.Kit.{ℕ, zero, suc, ◌+◌, ◌≤◌, ◌<◌, ◌≡◌, refl, ap, ap₂, sym, ◌∙◌, List, [], ◌∷◌, ◌++◌, add-one, dec_lt, arith, bit_and, bit_xor, length, get_or, set, length-append}
use Rattle.octets.proofs.Kit.{List·getD-append, get_or-append-add, ext_get_or}
use Rattle.octets.{specs.Splice.splice, proofs.Splices.{length_splice, splice_none, splice_above, splice_more, splice_one}}
use Rattle.device.specs.{Carry.{build, bit_at}, MemoryDue.Combined}

-- its length, and its bytes
pub length_build : (n : ℕ) (f : ℕ → ℕ) → length (build n f) ≡ n
unfolding build
length_build zero f = refl
length_build (suc n) f = length-append (build n f) (f n ∷ []) ∙ omega (arith, length_build n f)

build_at : (n : ℕ) (f : ℕ → ℕ) (i : ℕ) → i < n → get_or (build n f) i 0 ≡ f i
unfolding build
build_at zero f i h = absurd (omega arith)
build_at (suc n) f i h = go (dec_lt i n) (λ l. build_at n f i l)
  where
    go : Dec (i < n) → (i < n → get_or (build n f) i 0 ≡ f i) → get_or (build n f ++ (f n ∷ [])) i 0 ≡ f i
    go (yes l) ih = List·getD-append (build n f) (f n ∷ []) 0 i (rw (length_build n f) l) ∙ ih l
    go (no l) ih =
        let e : i ≡ length (build n f) + 0 = omega (arith, length_build n f) in
        let q : n ≡ i = omega arith in
        ap (λ (k : ℕ). get_or (build n f ++ (f n ∷ [])) k 0) e ∙ get_or-append-add (build n f) (f n ∷ []) 0 0 ∙ ap f q

-- WHAT IS STORED IS WHAT IS DUE, byte by byte, and nothing else is
module _ (s : List ℕ) (o n : ℕ) (given : List ℕ) where
  pub combined : Combined s o n given (build n (bit_at s o n given))
  unfolding bit_at
  combined = record { long = length_build n _; each = λ i h. build_at n (bit_at s o n given) i h }

  pub combined_is : {d : List ℕ} → Combined s o n given d → d ≡ build n (bit_at s o n given)
  unfolding bit_at
  combined_is {d} c =
      ext_get_or 0 d (build n (bit_at s o n given)) (c.long ∙ sym (length_build n _))
      (λ i h.
      let l : i < n = omega (arith, c.long) in
      c.each i l ∙ sym (build_at n (bit_at s o n given) i l))

module _ (s₀ : List ℕ) (at n : ℕ) (d : List ℕ) (fits : at + n ≤ length s₀) where
  pub bits_none : s₀ ≡ splice s₀ at (build 0 (bit_at s₀ at n d))
  unfolding build
  bits_none = sym (splice_none s₀ at)

  pub bits_more :
      (s : List ℕ) (i : ℕ) → s ≡ splice s₀ at (build i (bit_at s₀ at n d)) → i < n →
      set s (at + i) (bit_xor (bit_and (get_or s (at + i) 0) (get_or d i 0)) (get_or d (n + i) 0)) ≡ splice s₀ at (build (i + 1) (bit_at s₀ at n d))
  unfolding build bit_at
  bits_more s i e h =
      let f : ℕ → ℕ = bit_at s₀ at n d in
      let l : length (build i f) ≡ i = length_build i f in
      let long : length s ≡ length s₀ = ap length e ∙ length_splice s₀ at (build i f) (omega arith) in
      let old : get_or s (at + i) 0 ≡ get_or s₀ (at + i) 0 =
      ap (λ (x : List ℕ). get_or x (at + i) 0) e ∙ splice_above s₀ at (build i f) (omega arith) (at + i) (omega arith) in
      splice_one s (at + i) (bit_xor (bit_and (get_or s (at + i) 0) (get_or d i 0)) (get_or d (n + i) 0)) (omega arith)
      ∙ ap (λ (x : ℕ). splice s (at + i) (bit_xor (bit_and x (get_or d i 0)) (get_or d (n + i) 0) ∷ [])) old
      ∙ ap₂ (λ (x : List ℕ) (k : ℕ). splice x (at + k) (f i ∷ [])) e (sym l)
      ∙ splice_more s₀ at (build i f) (f i ∷ []) (omega arith)
      ∙ ap (λ (k : ℕ). splice s₀ at (build k f)) (sym (add-one i))
