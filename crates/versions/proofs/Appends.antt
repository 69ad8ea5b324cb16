-- A version appended to a store: room made for its row, row and body written, head and offsets written anew.
use Rattle.octets.proofs.Kit.{ℕ, ◌+◌, ◌-◌, ◌≤◌, ◌<◌, ◌≡◌, refl, sym, ap, ◌∙◌, List, [], ◌∷◌, ◌++◌, append_assoc, append-nil, arith, length, take, drop, replicate, length-append, length-drop}
use Rattle.octets.proofs.Kit.{take-append-drop, length-take-le, drop-drop}
use Rattle.octets.{specs.{Bytes.bytes_of, Splice.splice, Moved.moved}, proofs.Numbers.length_bytes}
use Rattle.versions.specs.{Store.{Version, table_end, head_of, row_of, table_of, bodies_of, laid}, Linked.linked, Steps.appended}
use Rattle.versions.proofs.{Gaps.{splice_mid, open_gap}, Laid.{length_row, length_head, length_table, bodies_join, Rows, none, next, table_rows, rows_join, link_rows}}

module _ (last : ℕ) (vs : List Version) (free : List ℕ) (x : ℕ) (d : List ℕ) (fits : 8 + length d ≤ length free) where
  abbrev n : ℕ
  n = length vs

  abbrev t : ℕ
  t = table_end n

  abbrev end : ℕ
  end = t + length (bodies_of vs)

  abbrev v : Version
  v = record { number = x; body = d }

  front : List ℕ
  front = head_of n last ++ table_of t vs

  front_long : length front ≡ t
  unfolding front
  front_long = length-append (head_of n last) _ ∙ omega (arith, length_head n last, length_table t vs)

  apart : laid last vs ++ free ≡ front ++ (bodies_of vs ++ free)
  unfolding laid front
  apart = simp append_assoc

  gap : List ℕ
  gap = take 8 (bodies_of vs ++ free)

  gap_long : length gap ≡ 8
  unfolding gap
  gap_long = length-take-le 8 (bodies_of vs ++ free) (omega (arith, length-append (bodies_of vs) free))

  own : List ℕ
  own = row_of x 0 (length d)

  own_long : length own ≡ 8
  unfolding own
  own_long = length_row x 0 (length d)

  first : splice (moved (laid last vs ++ free) t (t + 8) (end - t)) t own ≡ front ++ (own ++ (bodies_of vs ++ drop 8 free))
  unfolding gap
  first =
      rw (apart, open_gap front (bodies_of vs) free t (t + 8) (end - t) 8 (sym front_long) (omega (arith, front_long)) (omega arith) (omega arith))
      (splice_mid front (take 8 (bodies_of vs ++ free)) own (bodies_of vs ++ drop 8 free) t (sym front_long) (own_long ∙ sym gap_long))

  abbrev pub left : List ℕ
  left = drop (8 + length d) free

  second : splice (splice (moved (laid last vs ++ free) t (t + 8) (end - t)) t own) (end + 8) d ≡ front ++ (own ++ (bodies_of vs ++ (d ++ left)))
  second =
      let p : List ℕ = front ++ (own ++ bodies_of vs) in
      let room : List ℕ = take (length d) (drop 8 free) in
      let lr : length room ≡ length d = length-take-le (length d) (drop 8 free) (simp length-drop (omega arith)) in
      let lp : length p ≡ end + 8 = length-append front (own ++ bodies_of vs) ∙ omega (arith, front_long, own_long, length-append own (bodies_of vs)) in
      let f : drop 8 free ≡ room ++ drop (8 + length d) free = sym (take-append-drop (length d) (drop 8 free)) ∙ ap (λ (l : List ℕ). room ++ l) (drop-drop (length d) 8 free) in
      rw first
      (ap (λ (l : List ℕ). splice (front ++ (own ++ (bodies_of vs ++ l))) (end + 8) d) f
      ∙ ap (λ (l : List ℕ). splice l (end + 8) d) (simp append_assoc)
      ∙ splice_mid p room d (drop (8 + length d) free) (end + 8) (sym lp) (sym lr)
      ∙ simp append_assoc)

  -- THE STORE WITH ONE VERSION MORE
  pub appended_is : length (bodies_of vs) < 65536 → length d < 65536 → appended (laid last vs ++ free) n end x d ≡ laid x (vs ++ (v ∷ [])) ++ left
  unfolding appended front laid head_of own table_of bodies_of
  appended_is hb hd =
      let m : n + 1 ≡ length (vs ++ (v ∷ [])) = sym (length-append vs (v ∷ []) ∙ omega arith) in
      let old : List ℕ = table_of t vs ++ row_of x 0 (length d) in
      let rest : List ℕ = bodies_of vs ++ (d ++ left) in
      let two : List ℕ = bytes_of 2 n ++ bytes_of 2 last in
      let new : List ℕ = bytes_of 2 (n + 1) ++ bytes_of 2 x in
      let same : length new ≡ length two = simp (length-append, length_bytes) in
      let headed : splice (front ++ (own ++ (bodies_of vs ++ (d ++ left)))) 0 new ≡ head_of (n + 1) x ++ (old ++ rest) =
      ap (λ (l : List ℕ). splice l 0 new) (simp append_assoc)
      ∙ splice_mid [] two new (replicate 4 0 ++ (old ++ rest)) 0 refl same
      ∙ simp append_assoc
      in
      let one : Rows (row_of x 0 (length d)) (v ∷ []) = rw (← append-nil (row_of x 0 (length d))) (next {v = v} 0 hd none) in
      let rows : Rows old (vs ++ (v ∷ [])) = rows_join (table_rows t vs hb) one in
      ap (λ (l : List ℕ). linked (splice l 0 new) (n + 1)) second
      ∙ ap (λ (l : List ℕ). linked l (n + 1)) headed
      ∙ ap (λ (k : ℕ). linked (head_of k x ++ (old ++ rest)) k) m
      ∙ link_rows rows (head_of (length (vs ++ (v ∷ []))) x) rest 8 (table_end (length (vs ++ (v ∷ [])))) (sym (length_head (length (vs ++ (v ∷ []))) x))
      ∙ rw (bodies_join vs (v ∷ [])) (simp (append_assoc, append-nil))
