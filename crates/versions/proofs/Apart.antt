-- A store taken apart at one of its versions: what stands in its row, and what is left when row and body are cut out.
use Rattle.octets.proofs.Kit.{ℕ, suc, ◌+◌, ◌-◌, ◌*◌, ◌<◌, ◌≡◌, refl, sym, ap, ◌∙◌, List, [], ◌∷◌, ◌++◌, append_assoc, arith, length, drop, replicate, length-append, length-replicate}
use Rattle.octets.{specs.{Bytes.bytes_of, Moved.moved, Splice.splice}, proofs.Numbers.length_bytes}
use Rattle.versions.specs.{Store.{Version, table_end, in_row, head_of, row_of, table_of, bodies_of, laid}, Linked.linked, Steps.cut_out}
use Rattle.versions.specs.Row as row
use Rattle.versions.proofs.Gaps.{splice_mid, close_gap, left_over}
use Rattle.versions.proofs.Laid.{offset_back, long_back, length_row, length_head, length_table, bodies_join, table_join, Rows, table_rows, rows_join, link_rows}

module _ (last : ℕ) (before : List Version) (v : Version) (after : List Version) (free : List ℕ) where
  abbrev all : List Version
  all = before ++ (v ∷ after)

  abbrev n : ℕ
  n = length before + suc (length after)

  abbrev a : ℕ
  a = table_end n + length (bodies_of before)

  abbrev l : ℕ
  l = length v.body

  abbrev end : ℕ
  end = a + l + length (bodies_of after)

  abbrev p : ℕ
  p = table_end (length before)

  front : List ℕ
  front = head_of n last ++ table_of (table_end n) before

  own : List ℕ
  own = row_of v.number a l

  between : List ℕ
  between = table_of (a + l) after ++ bodies_of before

  count : length all ≡ n
  count = length-append before (v ∷ after)

  apart : laid last all ++ free ≡ front ++ (own ++ (between ++ (v.body ++ (bodies_of after ++ free))))
  unfolding laid front own between table_of bodies_of
  apart =
      rw (count, table_join (table_end n) before (v ∷ after), bodies_join before (v ∷ after))
      (simp append_assoc)

  spare : List ℕ
  spare = drop (length between) (own ++ between)

  front_long : length front ≡ p
  unfolding front
  front_long = length-append (head_of n last) _ ∙ omega (arith, length_head n last, length_table (table_end n) before)

  between_long : length between ≡ 8 * length after + length (bodies_of before)
  unfolding between
  between_long = length-append (table_of (a + l) after) _ ∙ omega (arith, length_table (a + l) after)

  own_long : length own ≡ 8
  unfolding own
  own_long = length_row v.number a l

  spare_long : length spare ≡ 8
  unfolding spare
  spare_long = left_over own between ∙ own_long

  -- what stands in its row
  pub offset_is : a < 65536 → in_row (laid last all ++ free) p row.offset ≡ a
  unfolding own
  offset_is h =
      rw (apart, ← front_long) (offset_back front v.number a l (between ++ (v.body ++ (bodies_of after ++ free))) h)

  pub long_is : l < 65536 → in_row (laid last all ++ free) p row.long ≡ l
  unfolding own
  long_is h =
      rw (apart, ← front_long) (long_back front v.number a l (between ++ (v.body ++ (bodies_of after ++ free))) h)

  -- THAT VERSION TAKEN OUT: row and body cut out
  first : moved (laid last all ++ free) (p + 8) p (a - (p + 8)) ≡ front ++ (between ++ (spare ++ (v.body ++ (bodies_of after ++ free))))
  unfolding spare
  first =
      rw apart
      (close_gap front own between (v.body ++ (bodies_of after ++ free)) (p + 8) p (a - (p + 8))
      (omega (arith, front_long, own_long)) (sym front_long) (omega (arith, between_long)))

  second :
      moved (moved (laid last all ++ free) (p + 8) p (a - (p + 8))) (a + l) (a - 8) (end - (a + l))
      ≡ (front ++ between) ++ (bodies_of after ++ (drop (length (bodies_of after)) ((spare ++ v.body) ++ bodies_of after) ++ free))
  second =
      let e : length (front ++ between) ≡ a - 8 = length-append front between ∙ omega (arith, front_long, between_long) in
      let f : length (spare ++ v.body) ≡ 8 + l = length-append spare v.body ∙ omega (arith, spare_long) in
      rw first
      (ap (λ (s : List ℕ). moved s (a + l) (a - 8) (end - (a + l))) (simp append_assoc)
      ∙ close_gap (front ++ between) (spare ++ v.body) (bodies_of after) free (a + l) (a - 8) (end - (a + l))
      (omega arith) (sym e) (omega arith))

  zeros : List ℕ
  zeros = replicate (8 + l) 0

  third : cut_out (laid last all ++ free) p a l end ≡ front ++ (between ++ (bodies_of after ++ (zeros ++ free)))
  unfolding cut_out zeros
  third =
      let e : length (front ++ between) ≡ a - 8 = length-append front between ∙ omega (arith, front_long, between_long) in
      let f : length (spare ++ v.body) ≡ 8 + l = length-append spare v.body ∙ omega (arith, spare_long) in
      let rest : List ℕ = drop (length (bodies_of after)) ((spare ++ v.body) ++ bodies_of after) in
      let z : List ℕ = replicate (8 + l) 0 in
      let g : length z ≡ length rest = length-replicate (8 + l) 0 ∙ sym (left_over (spare ++ v.body) (bodies_of after) ∙ f) in
      let h : end - (8 + l) ≡ length ((front ++ between) ++ bodies_of after) = sym (length-append (front ++ between) (bodies_of after) ∙ omega arith) in
      rw second
      (ap (λ (s : List ℕ). splice s (end - (8 + l)) (replicate (8 + l) 0)) (sym (append_assoc (front ++ between) (bodies_of after) (rest ++ free)))
      ∙ splice_mid ((front ++ between) ++ bodies_of after) rest (replicate (8 + l) 0) free (end - (8 + l)) h g
      ∙ simp append_assoc)

  -- AND THE COUNT AND THE OFFSETS WRITTEN ANEW
  pub taken_out_lem :
      length (bodies_of before) < 65536 → length (bodies_of after) < 65536 →
      linked (splice (cut_out (laid last all ++ free) p a l end) 0 (bytes_of 2 (n - 1))) (n - 1) ≡ laid last (before ++ after) ++ (replicate (8 + l) 0 ++ free)
  unfolding front between head_of laid zeros
  taken_out_lem hb ha =
      let m : n - 1 ≡ length (before ++ after) = sym (length-append before after ∙ omega arith) in
      let z : List ℕ = replicate (8 + l) 0 in
      let old : List ℕ = table_of (table_end n) before ++ table_of (a + l) after in
      let rest : List ℕ = bodies_of before ++ (bodies_of after ++ (z ++ free)) in
      let more : List ℕ = (bytes_of 2 last ++ replicate 4 0) ++ (old ++ rest) in
      let counted : splice (cut_out (laid last all ++ free) p a l end) 0 (bytes_of 2 (n - 1)) ≡ head_of (n - 1) last ++ (old ++ rest) =
      rw third
      (ap (λ (s : List ℕ). splice s 0 (bytes_of 2 (n - 1))) (simp append_assoc)
      ∙ splice_mid [] (bytes_of 2 n) (bytes_of 2 (n - 1)) more 0 refl (length_bytes 2 (n - 1) ∙ sym (length_bytes 2 n))
      ∙ simp append_assoc)
      in
      let rows : Rows old (before ++ after) = rows_join (table_rows (table_end n) before hb) (table_rows (a + l) after ha) in
      rw (counted, m)
      (link_rows rows (head_of (length (before ++ after)) last) rest 8 (table_end (length (before ++ after))) (sym (length_head (length (before ++ after)) last))
      ∙ rw (bodies_join before after) (simp append_assoc))
