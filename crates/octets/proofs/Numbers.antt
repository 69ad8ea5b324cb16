-- Laws of numbers in bytes, over the width.
use Rattle.octets.proofs.Kit.{ℕ, zero, suc, ◌+◌, ◌*◌, ◌/◌, ◌%◌, ◌^◌, ◌<◌, ◌≡◌, refl, ap, ap₂, sym, ◌∙◌, List, [], ◌∷◌, ◌++◌, append_assoc, add-zero, pow-suc, pow-le-pow_right}
use Rattle.octets.proofs.Kit.{div-add-mod', add-one, arith, get_or, length, length-append, List·getD-append, replicate, replicate-append-replicate, get_or-append-add}
use Rattle.octets.specs.{Bytes.{num_at, bytes_of, IsNum}, Octets.Octets}

-- a number of one byte is that byte, one of two is what the pair says
pub num_one : (s : List ℕ) (at : ℕ) → num_at s at 1 ≡ get_or s at 0
unfolding num_at
num_one s at = omega (arith, ap (λ (k : ℕ). get_or s k 0) (add-zero at))

pub num_two : (s : List ℕ) (at : ℕ) → num_at s at 2 ≡ get_or s at 0 * 256 + get_or s (at + 1) 0
unfolding num_at
num_two s at = omega (arith, ap (λ (k : ℕ). get_or s k 0) (add-zero at))

-- building a number byte by byte
pub num_none : (s : List ℕ) (at : ℕ) → IsNum s at 0 (256 ^ 0) 0
unfolding num_at
num_none s at = record { value = refl; below = omega arith }

pub num_more :
    (s : List ℕ) (at i x b : ℕ) → IsNum s at i (256 ^ i) x → IsNum s (at + i) 1 256 b → IsNum s at (i + 1) (256 ^ (i + 1)) (x * 256 + b)
unfolding num_at
num_more s at i x b h e =
    rw (add-one i)
    record {
      value = ap₂ (λ (m n : ℕ). m * 256 + n) h.value (e.value ∙ num_one s (at + i));
      below = omega (arith, h.below, e.below, pow-suc 256 i);
    }

pub num_small : (i x : ℕ) → x < 256 ^ i → i < 6 → x < 256 ^ 5
num_small i x h k = omega (arith, pow-le-pow_right {n = 256} (omega arith) {i = i} {j = 5} (omega arith))

-- bytes are below 256; then a number of w bytes is below 256 ^ w
pub num_below : (s : List ℕ) (at w : ℕ) → Octets s → num_at s at w < 256 ^ w
unfolding num_at
num_below s at zero h = omega arith
num_below s at (suc w) h = omega (arith, num_below s at w h, h (at + w), pow-suc 256 w)

pub length_bytes : (w x : ℕ) → length (bytes_of w x) ≡ w
unfolding bytes_of
length_bytes zero x = refl
length_bytes (suc w) x = length-append (bytes_of w (x / 256)) (x % 256 ∷ []) ∙ omega (arith, length_bytes w (x / 256))

-- two lists that agree on the bytes of a number have the same number there
pub num_same : (s t : List ℕ) (a b w : ℕ) → ((i : ℕ) → i < w → get_or s (a + i) 0 ≡ get_or t (b + i) 0) → num_at s a w ≡ num_at t b w
unfolding num_at
num_same s t a b zero h = refl
num_same s t a b (suc w) h =
    ap₂ (λ (m n : ℕ). m * 256 + n) (num_same s t a b w (λ i k. h i (omega arith))) (h w (omega arith))

-- A NUMBER IS READ BACK FROM ITS BYTES, wherever they stand
pub num_back : (w x : ℕ) (a b : List ℕ) → x < 256 ^ w → num_at (a ++ (bytes_of w x ++ b)) (length a) w ≡ x
unfolding num_at bytes_of
num_back zero x a b h = omega arith
num_back (suc w) x a b h =
    let q : List ℕ = bytes_of w (x / 256) in
    let e : (q ++ (x % 256 ∷ [])) ++ b ≡ q ++ (x % 256 ∷ b) = append_assoc q (x % 256 ∷ []) b in
    let l : length q ≡ w = length_bytes w (x / 256) in
    let lt : x / 256 < 256 ^ w = omega (arith, pow-suc 256 w) in
    let hi : num_at (a ++ (q ++ (x % 256 ∷ b))) (length a) w ≡ x / 256 = num_back w (x / 256) a (x % 256 ∷ b) lt in
    let at-w : get_or (a ++ (q ++ (x % 256 ∷ b))) (length a + w) 0 ≡ x % 256 =
    get_or-append-add a (q ++ (x % 256 ∷ b)) w 0
    ∙ ap (λ (k : ℕ). get_or (q ++ (x % 256 ∷ b)) k 0) (sym (add-zero w) ∙ ap (λ (k : ℕ). k + 0) (sym l))
    ∙ get_or-append-add q (x % 256 ∷ b) 0 0
    in
    ap (λ (t : List ℕ). num_at (a ++ t) (length a) w * 256 + get_or (a ++ t) (length a + w) 0) e
    ∙ ap₂ (λ (m n : ℕ). m * 256 + n) hi at-w
    ∙ div-add-mod' x 256

-- and its bytes are those that stand there, if each is below 256
pub bytes_back :
    (s : List ℕ) (at w : ℕ) → Octets s → (j : ℕ) → j < w → get_or (bytes_of w (num_at s at w)) j 0 ≡ get_or s (at + j) 0
unfolding num_at bytes_of
bytes_back s at zero h j k = absurd (omega arith)
bytes_back s at (suc w) h j k = go (native.Mathlib.Decide.dec_lt j w) (λ l. bytes_back s at w h j l)
  where
    hi : ℕ
    hi = num_at s at w

    b : ℕ
    b = get_or s (at + w) 0

    q : (hi * 256 + b) / 256 ≡ hi
    q = omega (arith, h (at + w))

    r : (hi * 256 + b) % 256 ≡ b
    r = omega (arith, h (at + w))

    go : Dec (j < w) → (j < w → get_or (bytes_of w (num_at s at w)) j 0 ≡ get_or s (at + j) 0) → get_or (bytes_of w ((hi * 256 + b) / 256) ++ ((hi * 256 + b) % 256 ∷ [])) j 0 ≡ get_or s (at + j) 0
    go (yes l) ih =
        List·getD-append (bytes_of w ((hi * 256 + b) / 256)) _ 0 j (rw (length_bytes w ((hi * 256 + b) / 256)) l)
        ∙ ap (λ (x : ℕ). get_or (bytes_of w x) j 0) q
        ∙ ih l
    go (no l) ih =
        let e : j ≡ length (bytes_of w ((hi * 256 + b) / 256)) + 0 = omega (arith, length_bytes w ((hi * 256 + b) / 256)) in
        let f : j ≡ w = omega arith in
        ap (λ (x : ℕ). get_or (bytes_of w ((hi * 256 + b) / 256) ++ ((hi * 256 + b) % 256 ∷ [])) x 0) e
        ∙ get_or-append-add (bytes_of w ((hi * 256 + b) / 256)) ((hi * 256 + b) % 256 ∷ []) 0 0
        ∙ r
        ∙ ap (λ (x : ℕ). get_or s (at + x) 0) (sym f)

-- the bytes of a number of two, and of zero
pub bytes_two : (x : ℕ) → bytes_of 2 x ≡ x / 256 % 256 ∷ x % 256 ∷ []
unfolding bytes_of
bytes_two x = refl

pub bytes_zero : (w : ℕ) → bytes_of w 0 ≡ replicate w 0
unfolding bytes_of
bytes_zero zero = refl
bytes_zero (suc w) = ap (λ (l : List ℕ). l ++ (0 ∷ [])) (bytes_zero w) ∙ replicate-append-replicate w 1 0 ∙ ap (λ (k : ℕ). replicate k 0) (add-one w)
