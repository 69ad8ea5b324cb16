-- What a store leaves: the length, and the run that was stored.
use Rattle.octets.proofs.Kit.{ℕ, ◌+◌, ◌≤◌, ◌≡◌, refl, sym, ap, ◌∙◌, List, arith, length, take, drop, replicate, length-append, length-replicate}
use Rattle.octets.{specs.{Bytes.bytes_of, Splice.splice}, proofs.{Numbers.length_bytes, Splices.{length_splice, splice_read, splice_more}}}
use Rattle.judge.specs.declared.Store.{Store}
use Rattle.judge.specs.declared.Store.TheVariants as store
use Rattle.device.specs.{Carry.{padded, build, bit_at, store_of}, Safe.StoreSafe}
use Rattle.device.proofs.leaves.Bits.{length_build}

length_fill : (s : List ℕ) (at n b : ℕ) → at + n ≤ length s → length (splice s at (replicate n b)) ≡ length s
length_fill s at n b h = length_splice s at (replicate n b) (omega (arith, length-replicate n b))

-- data after so many zeros
pub length_padded : (z : ℕ) (d : List ℕ) → length (padded z d) ≡ z + length d
length_padded z d = simp (length-append, length-replicate)

pub zeros_first :
    (s s₁ s₂ d : List ℕ) (at z : ℕ) → at + (z + length d) ≤ length s → s₁ ≡ splice s at (replicate z 0) → s₂ ≡ splice s₁ (at + z) d →
    s₂ ≡ splice s at (padded z d)
zeros_first s s₁ s₂ d at z h e f =
    f
    ∙ ap (λ (t : List ℕ). splice t (at + z) d) e
    ∙ ap (λ (n : ℕ). splice (splice s at (replicate z 0)) (at + n) d) (sym (length-replicate z 0))
    ∙ splice_more s at (replicate z 0) d (omega arith)

-- A STORE LEAVES THE LENGTH
pub length_store : (s d : List ℕ) (k : Store) → StoreSafe s d k → length (store_of s d k) ≡ length s
length_store s d store.Nothing h = refl
length_store s d (store.Number at w x) h = length_splice s at (bytes_of w x) (omega (arith, length_bytes w x))
length_store s d (store.Data z at) h = length_splice s at (padded z d) h
length_store s d (store.Bits at n) h = length_splice s at (build n (bit_at s at n d)) (omega (arith, length_build n (bit_at s at n d)))
length_store s d (store.Fill at n b) h = length_fill s at n _ h

-- WHAT WAS STORED STANDS THERE
pub stored_back : (s d : List ℕ) (o n : ℕ) → length d ≡ n → o + n ≤ length s → take n (drop o (splice s o d)) ≡ d
stored_back s d o n e h =
    ap (λ (m : ℕ). take m (drop o (splice s o d))) (sym e) ∙ splice_read s o d (omega arith)
