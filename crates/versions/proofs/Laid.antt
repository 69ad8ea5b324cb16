-- The bytes of a table and of bodies: how many, joined, and read back.
use Rattle.octets.proofs.Kit.{ℕ, suc, ◌+◌, ◌*◌, ◌<◌, ◌≡◌, refl, sym, ap, ap₂, ◌∙◌, List, [], ◌∷◌, ◌++◌, append_assoc, arith, length, length-append, length-replicate}
use Rattle.octets.{specs.{Bytes.{num_at, bytes_of}, Splice.splice}, proofs.Numbers.{length_bytes, num_back}}
use Rattle.versions.specs.{Store.{Version, settings, table_end, head_of, row_of, table_of, bodies_of, laid, in_row}, Linked.link_from}
use Rattle.versions.specs.Row as row
use Rattle.versions.proofs.Gaps.{splice_mid}

pub length_row : (x at n : ℕ) → length (row_of x at n) ≡ 8
unfolding row_of
length_row x at n =
    simp (length-append, length_bytes)

pub length_head : (n last : ℕ) → length (head_of n last) ≡ 8
unfolding head_of
length_head n last = simp (length-append, length_bytes, length-replicate)

pub length_table : (at : ℕ) (vs : List Version) → length (table_of at vs) ≡ 8 * length vs
unfolding table_of
length_table at [] = refl
length_table at (v ∷ vs) =
    length-append (row_of v.number at (length v.body)) _ ∙ omega (arith, length_row v.number at (length v.body), length_table (at + length v.body) vs)

pub laid_long : (last : ℕ) (vs : List Version) → length (laid last vs) ≡ table_end (length vs) + length (bodies_of vs)
unfolding laid
laid_long last vs =
    let t : ℕ = table_end (length vs) in
    length-append (head_of (length vs) last) (table_of t vs ++ bodies_of vs)
    ∙ omega (arith, length_head (length vs) last, length-append (table_of t vs) (bodies_of vs), length_table t vs)

pub bodies_join : (vs ws : List Version) → bodies_of (vs ++ ws) ≡ bodies_of vs ++ bodies_of ws
unfolding bodies_of
bodies_join [] ws = refl
bodies_join (v ∷ vs) ws = ap (λ (l : List ℕ). v.body ++ l) (bodies_join vs ws) ∙ sym (append_assoc v.body (bodies_of vs) (bodies_of ws))

pub table_join : (at : ℕ) (vs ws : List Version) → table_of at (vs ++ ws) ≡ table_of at vs ++ table_of (at + length (bodies_of vs)) ws
unfolding table_of bodies_of
table_join at [] ws = ap (λ (k : ℕ). table_of k ws) (omega arith)
table_join at (v ∷ vs) ws =
    let r : List ℕ = row_of v.number at (length v.body) in
    let e : at + length v.body + length (bodies_of vs) ≡ at + length (v.body ++ bodies_of vs) = omega (arith, length-append v.body (bodies_of vs)) in
    ap (λ (l : List ℕ). r ++ l) (table_join (at + length v.body) vs ws ∙ ap (λ (k : ℕ). table_of (at + length v.body) vs ++ table_of k ws) e)
    ∙ sym (append_assoc r (table_of (at + length v.body) vs) (table_of (at + length (v.body ++ bodies_of vs)) ws))

-- a row read back behind p
module _ (p : List ℕ) (x at n : ℕ) (q : List ℕ) where
  abbrev here : List ℕ
  here = p ++ (row_of x at n ++ q)

  pub number_back : x < 65536 → in_row here (length p) row.number ≡ x
  unfolding row_of
  number_back h =
      ap₂ (λ (s : List ℕ) (o : ℕ). num_at s o 2) (simp append_assoc) (omega arith)
      ∙ num_back 2 x p (bytes_of 2 settings ++ (bytes_of 2 at ++ (bytes_of 2 n ++ q))) h

  pub kind_back : in_row here (length p) row.kind ≡ settings
  unfolding row_of
  kind_back =
      let a : List ℕ = p ++ bytes_of 2 x in
      ap₂ (λ (s : List ℕ) (o : ℕ). num_at s o 2) (simp append_assoc) (sym (length-append p (bytes_of 2 x) ∙ ap (λ (k : ℕ). length p + k) (length_bytes 2 x)))
      ∙ num_back 2 settings a (bytes_of 2 at ++ (bytes_of 2 n ++ q)) (omega arith)

  pub offset_back : at < 65536 → in_row here (length p) row.offset ≡ at
  unfolding row_of
  offset_back h =
      let a : List ℕ = p ++ (bytes_of 2 x ++ bytes_of 2 settings) in
      let l : length a ≡ length p + 4 = simp (length-append, length_bytes) in
      ap₂ (λ (s : List ℕ) (o : ℕ). num_at s o 2) (simp append_assoc) (sym l)
      ∙ num_back 2 at a (bytes_of 2 n ++ q) h

  pub long_back : n < 65536 → in_row here (length p) row.long ≡ n
  unfolding row_of
  long_back h =
      let a : List ℕ = p ++ (bytes_of 2 x ++ (bytes_of 2 settings ++ bytes_of 2 at)) in
      let l : length a ≡ length p + 6 = simp (length-append, length_bytes) in
      ap₂ (λ (s : List ℕ) (o : ℕ). num_at s o 2) (simp append_assoc) (sym l)
      ∙ num_back 2 n a q h

  -- and its offset written anew
  pub offset_put : (to : ℕ) → splice here (length p + (row.offset).at) (bytes_of 2 to) ≡ p ++ (row_of x to n ++ q)
  unfolding row_of
  offset_put to =
      let a : List ℕ = p ++ (bytes_of 2 x ++ bytes_of 2 settings) in
      let l : length a ≡ length p + 4 = simp (length-append, length_bytes) in
      ap (λ (s : List ℕ). splice s (length p + 4) (bytes_of 2 to)) (simp append_assoc)
      ∙ splice_mid a (bytes_of 2 at) (bytes_of 2 to) (bytes_of 2 n ++ q) (length p + 4) (sym l) (length_bytes 2 to ∙ sym (length_bytes 2 at))
      ∙ simp append_assoc

-- a table of these versions with whatever offsets
pub data Rows : List ℕ → List Version → Type 0 where
  none : Rows [] []
  next : {v : Version} {r : List ℕ} {vs : List Version} (at : ℕ) → length v.body < 65536 → Rows r vs → Rows (row_of v.number at (length v.body) ++ r) (v ∷ vs)

-- a table is one of its versions
pub table_rows : (at : ℕ) (vs : List Version) → length (bodies_of vs) < 65536 → Rows (table_of at vs) vs
unfolding table_of bodies_of
table_rows at [] h = none
table_rows at (v ∷ vs) h =
    let l = length-append v.body (bodies_of vs) in
    next {v = v} at (omega arith) (table_rows (at + length v.body) vs (omega arith))

pub rows_join : {r q : List ℕ} {vs ws : List Version} → Rows r vs → Rows q ws → Rows (r ++ q) (vs ++ ws)
rows_join none y = y
rows_join (next {v} {r} at h x) y = rw (append_assoc (row_of v.number at (length v.body)) r _) (next at h (rows_join x y))

-- LINKED, it has the right ones
pub link_rows : {r : List ℕ} {vs : List Version} → Rows r vs → (p q : List ℕ) (o at : ℕ) → o ≡ length p → link_from (p ++ (r ++ q)) o at (length vs) ≡ p ++ (table_of at vs ++ q)
unfolding link_from table_of
link_rows none p q o at e = refl
link_rows (next {v} {r} {vs} to h w) p q o at e =
    let n : ℕ = length v.body in
    let old : List ℕ = row_of v.number to n in
    let new : List ℕ = row_of v.number at n in
    let l : length p + 8 ≡ length (p ++ new) = sym (length-append p new ∙ ap (λ (k : ℕ). length p + k) (length_row v.number at n)) in
    let further : link_from ((p ++ new) ++ (r ++ q)) (length p + 8) (at + n) (length vs) ≡ (p ++ new) ++ (table_of (at + n) vs ++ q) =
    link_rows w (p ++ new) q (length p + 8) (at + n) l
    in
    let s : List ℕ = p ++ (old ++ (r ++ q)) in
    ap₂ (λ (l : List ℕ) (k : ℕ). link_from (p ++ l) k at (suc (length vs))) (append_assoc old r q) e
    ∙ ap₂ (λ (l : List ℕ) (k : ℕ). link_from l (length p + 8) (at + k) (length vs)) (offset_put p v.number to n (r ++ q) at) (long_back p v.number to n (r ++ q) h)
    ∙ ap (λ (l : List ℕ). link_from l (length p + 8) (at + n) (length vs)) (sym (append_assoc p new (r ++ q)))
    ∙ further
    ∙ simp append_assoc
