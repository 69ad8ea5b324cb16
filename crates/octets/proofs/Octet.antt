-- Bytes stay below 256: of parts, of lists put together, of numbers, and of a run replaced.
use Rattle.octets.proofs.Kit.{ℕ, zero, suc, ◌+◌, ◌-◌, ◌/◌, ◌%◌, ◌<◌, ◌≤◌, ◌≡◌, ap, ◌∙◌, inl, inr, Bool, true, ◌&&◌, List, [], ◌∷◌, ◌++◌, length, take, drop, get_or, ltb, get_or-drop}
use Rattle.octets.proofs.Kit.{dec_lt, arith, ltb-true}
use Rattle.octets.specs.{Bytes.bytes_of, Octets.Octets, Splice.splice}
use Rattle.octets.proofs.{Splices.{splice_in, splice_outside}, Truths.and_is}

-- bytes, by one test
abbrev pub is_bytes : List ℕ → Bool
is_bytes [] = true
is_bytes (x ∷ s) = ltb x 256 && is_bytes s

pub octets_by : (s : List ℕ) → is_bytes s ≡ true → Octets s
octets_by [] e i = omega arith
octets_by (x ∷ s) e zero = ltb-true x 256 ((and_is (ltb x 256) (is_bytes s)).0 e).0
octets_by (x ∷ s) e (suc i) = octets_by s ((and_is (ltb x 256) (is_bytes s)).0 e).1 i

pub octets_none : Octets []
octets_none i = omega arith

pub octets_one : (x : ℕ) → x < 256 → Octets (x ∷ [])
octets_one x h zero = h
octets_one x h (suc i) = omega arith

pub octets_append : (a b : List ℕ) → Octets a → Octets b → Octets (a ++ b)
octets_append [] b p q i = q i
octets_append (x ∷ a) b p q zero = p 0
octets_append (x ∷ a) b p q (suc i) = octets_append a b (λ j. p (suc j)) q i

pub octets_bytes : (w x : ℕ) → Octets (bytes_of w x)
unfolding bytes_of
octets_bytes zero x = octets_none
octets_bytes (suc w) x =
    octets_append (bytes_of w (x / 256)) (x % 256 ∷ []) (octets_bytes w (x / 256)) (octets_one (x % 256) (omega arith))

pub octets_drop : (n : ℕ) (s : List ℕ) → Octets s → Octets (drop n s)
octets_drop n s h i = rw (get_or-drop n s i 0) (h (n + i))

pub octets_take : (n : ℕ) (s : List ℕ) → Octets s → Octets (take n s)
octets_take zero s h i = omega arith
octets_take (suc n) [] h i = omega arith
octets_take (suc n) (x ∷ s) h zero = h 0
octets_take (suc n) (x ∷ s) h (suc i) = octets_take n s (λ j. h (suc j)) i

pub octets_splice : (s : List ℕ) (o : ℕ) (ds : List ℕ) → o + length ds ≤ length s → Octets s → Octets ds → Octets (splice s o ds)
octets_splice s o ds room a b p = go (dec_lt p o) (dec_lt p (o + length ds))
  where
    go : Dec (p < o) → Dec (p < o + length ds) → get_or (splice s o ds) p 0 < 256
    go (yes h) d = rw (splice_outside s o ds room p (inl h)) (a p)
    go (no h) (no l) = rw (splice_outside s o ds room p (inr (omega arith))) (a p)
    go (no h) (yes l) =
        let e : p ≡ o + (p - o) = omega arith in
        rw (ap (λ (i : ℕ). get_or (splice s o ds) i 0) e ∙ splice_in s o ds room (p - o) (omega arith)) (b (p - o))
