-- Laws of a table of fields, whatever its fields: numbers read back from their bytes, and bytes written again from their numbers. Assumes nothing.
use Rattle.octets.proofs.Kit.{ℕ, ◌+◌, ◌≤◌, ◌<◌, ◌≡◌, refl, ap, ap₂, sym, ◌∙◌, List, [], ◌∷◌, ◌++◌, append_assoc, arith, length, take, drop, length-append, length-take, length-drop}
use Rattle.octets.proofs.Kit.{take-append-drop, ext_get_or, get_or-take, get_or-drop, drop-drop}
use Rattle.octets.{specs.{Bytes.{num_at, bytes_of}, Octets.Octets}, proofs.Numbers.{num_back, bytes_back, length_bytes}}
use Rattle.cemi.specs.Layout.{Field, bytes_in, Fit}

-- each field starts where the one before ends, the first at a place
abbrev pub Chained : ℕ → List Field → Type 0
Chained at [] = Unit {0}
Chained at (f ∷ fs) = (f.at ≡ at) × Chained (at + f.width) fs

-- how many bytes they take
abbrev pub widths : List Field → ℕ
widths [] = 0
widths (f ∷ fs) = f.width + widths fs

-- the numbers of the fields in bytes, counted from a base
abbrev pub numbers_at : ℕ → List Field → List ℕ → List ℕ
numbers_at base [] b = []
numbers_at base (f ∷ fs) b = num_at b (base + f.at) f.width ∷ numbers_at base fs b

-- NUMBERS ARE READ BACK FROM THEIR BYTES
pub numbers_back :
    (fs : List Field) (x p q : List ℕ) (base at : ℕ) → Chained at fs → Fit fs x → length p ≡ base + at →
    numbers_at base fs (p ++ (bytes_in fs x ++ q)) ≡ x
unfolding bytes_in
numbers_back [] [] p q base at c h l = refl
numbers_back [] (n ∷ x) p q base at c h l = absurd h
numbers_back (f ∷ fs) [] p q base at c h l = absurd h
numbers_back (f ∷ fs) (n ∷ x) p q base at c h l =
    let w : ℕ = f.width in
    let r : List ℕ = bytes_in fs x ++ q in
    let e : p ++ ((bytes_of w n ++ bytes_in fs x) ++ q) ≡ p ++ (bytes_of w n ++ r) = ap (λ (z : List ℕ). p ++ z) (append_assoc (bytes_of w n) (bytes_in fs x) q) in
    let g : p ++ (bytes_of w n ++ r) ≡ (p ++ bytes_of w n) ++ r = sym (append_assoc p (bytes_of w n) r) in
    let k : base + f.at ≡ length p = ap (λ (j : ℕ). base + j) c.0 ∙ sym l in
    let here : num_at (p ++ (bytes_of w n ++ r)) (base + f.at) w ≡ n =
    ap (λ (j : ℕ). num_at (p ++ (bytes_of w n ++ r)) j w) k ∙ num_back w n p r h.0 in
    let m : length (p ++ bytes_of w n) ≡ base + (at + w) = length-append p (bytes_of w n) ∙ omega (arith, length_bytes w n) in
    let there : numbers_at base fs ((p ++ bytes_of w n) ++ r) ≡ x = numbers_back fs x (p ++ bytes_of w n) q base (at + w) c.1 h.1 m in
    ap (numbers_at base (f ∷ fs)) e ∙ ap₂ (λ (j : ℕ) (z : List ℕ). j ∷ z) here (ap (numbers_at base fs) g ∙ there)

-- a number's bytes and what follows are those that stand there
number_there : (b : List ℕ) (p w : ℕ) → Octets b → p + w ≤ length b → bytes_of w (num_at b p w) ++ drop (p + w) b ≡ drop p b
number_there b p w small h =
    let e : bytes_of w (num_at b p w) ≡ take w (drop p b) =
    ext_get_or 0 (bytes_of w (num_at b p w)) (take w (drop p b))
    (length_bytes w (num_at b p w) ∙ sym (simp (length-take, length-drop) (omega arith)))
    (λ i k.
    let j : i < w = omega (arith, length_bytes w (num_at b p w)) in
    bytes_back b p w small i j ∙ sym (get_or-take w (drop p b) i 0 j ∙ get_or-drop p b i 0))
    in
    ap₂ (λ (x y : List ℕ). x ++ y) e (sym (drop-drop w p b)) ∙ take-append-drop w (drop p b)

-- BYTES ARE WRITTEN AGAIN FROM THEIR NUMBERS
pub bytes_there :
    (fs : List Field) (b : List ℕ) (base at : ℕ) → Octets b → Chained at fs → base + (at + widths fs) ≤ length b →
    bytes_in fs (numbers_at base fs b) ++ drop (base + (at + widths fs)) b ≡ drop (base + at) b
unfolding bytes_in
bytes_there [] b base at small c h = let e : base + (at + 0) ≡ base + at = omega arith in ap (λ (k : ℕ). drop k b) e
bytes_there (f ∷ fs) b base at small c h =
    let w : ℕ = f.width in
    let y : List ℕ = bytes_in fs (numbers_at base fs b) in
    let k : base + f.at ≡ base + at = ap (λ (j : ℕ). base + j) c.0 in
    let s : base + (at + (w + widths fs)) ≡ base + (at + w + widths fs) = omega arith in
    let d : base + (at + w) ≡ base + at + w = omega arith in
    append_assoc (bytes_of w (num_at b (base + f.at) w)) y (drop (base + (at + (w + widths fs))) b)
    ∙ ap (λ (j : ℕ). bytes_of w (num_at b (base + f.at) w) ++ (y ++ drop j b)) s
    ∙ ap (λ (z : List ℕ). bytes_of w (num_at b (base + f.at) w) ++ z) (bytes_there fs b base (at + w) small c.1 (omega arith))
    ∙ ap₂ (λ (i j : ℕ). bytes_of w (num_at b i w) ++ drop j b) k d
    ∙ number_there b (base + at) w small (omega arith)
