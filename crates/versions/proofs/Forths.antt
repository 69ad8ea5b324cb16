-- THE BYTES OF VERSIONS WHOSE NUMBERS RISE, AND THEN ANYTHING, ARE A STORE THAT PASSES AND KEEPS THEM.
use Rattle.octets.proofs.Kit.{ℕ, ◌+◌, ◌≤◌, ◌<◌, ◌≡◌, refl, sym, ap, ap₂, subst, ◌∙◌, List, [], ◌∷◌, ◌++◌, append_assoc, arith, length, take, drop, replicate, length-append, take-append_seam}
use Rattle.octets.proofs.Kit.{drop-append_seam, drop_at, drop-drop}
use Rattle.octets.{specs.Bytes.{num_at, bytes_of}, proofs.Numbers.{length_bytes, num_back, bytes_zero}}
use Rattle.sheet.{specs.{Layout.◌of◌, Demand.breach}, proofs.rules.Demands.unbroken}
use Rattle.versions.specs.Store.{Version, Rising, none, next, GoodStore, settings, longest, lowest, table_end, head_of, row_of, table_of, bodies_of, laid, in_row, version_at, versions_from}
use Rattle.versions.specs.{Store.kept, Rules.{Passes, head_demands, row_demands, end_demands, rows_rule, all_rows, store_rule}}
use Rattle.versions.specs.Head as head
use Rattle.versions.specs.Row as row
use Rattle.versions.proofs.Laid.{length_row, length_head, length_table, laid_long, number_back, kind_back, offset_back, long_back}

-- every number is at most the last one
pub rising_low : {last floor : ℕ} {vs : List Version} → Rising last floor vs → floor ≤ last + 1
rising_low (none h) = h
rising_low (next h r) = let k = rising_low r in omega arith

-- the rows of a table that stands behind p, its bodies from `at` on
pub record RowsPass (s : List ℕ) (p floor at : ℕ) (vs : List Version) : Type 0 where
  pub rule : rows_rule s p floor at (length vs) ≡ 0
  pub versions : versions_from s p (length vs) ≡ vs

pub rows_pass :
    (s : List ℕ) (vs : List Version) (p q free : List ℕ) (floor at : ℕ) →
    s ≡ p ++ (table_of at vs ++ q) → drop at s ≡ bodies_of vs ++ free → at + length (bodies_of vs) ≤ length s → length s ≤ longest → head.last of s < 65536 →
    Rising (head.last of s) floor vs → RowsPass s (length p) floor at vs
unfolding rows_rule versions_from table_of bodies_of version_at
rows_pass s [] p q free floor at e d h k l r = record { rule = unbroken (end_demands s floor at) (rising_low r, (omega arith, tt)); versions = refl }
rows_pass s (v ∷ vs) p q free floor at e d h k l (next f r) =
    let n : ℕ = length v.body in
    let own : List ℕ = row_of v.number at n in
    let rest : List ℕ = table_of (at + n) vs ++ q in
    let long : length (v.body ++ bodies_of vs) ≡ n + length (bodies_of vs) = length-append v.body (bodies_of vs) in
    let whole : s ≡ p ++ (own ++ rest) = e ∙ ap (λ (x : List ℕ). p ++ x) (append_assoc own (table_of (at + n) vs) q) in
    let low = rising_low r in
    let number : in_row s (length p) row.number ≡ v.number = ap (λ (x : List ℕ). in_row x (length p) row.number) whole ∙ number_back p v.number at n rest (omega arith) in
    let kind : in_row s (length p) row.kind ≡ settings = ap (λ (x : List ℕ). in_row x (length p) row.kind) whole ∙ kind_back p v.number at n rest in
    let offset : in_row s (length p) row.offset ≡ at = ap (λ (x : List ℕ). in_row x (length p) row.offset) whole ∙ offset_back p v.number at n rest (omega arith) in
    let size : in_row s (length p) row.long ≡ n = ap (λ (x : List ℕ). in_row x (length p) row.long) whole ∙ long_back p v.number at n rest (omega arith) in
    let bodies : drop at s ≡ v.body ++ (bodies_of vs ++ free) = d ∙ append_assoc v.body (bodies_of vs) free in
    let later : drop (at + n) s ≡ bodies_of vs ++ free = sym (drop-drop n at s) ∙ ap (drop n) bodies ∙ drop-append_seam v.body (bodies_of vs ++ free) in
    let body : take n (drop at s) ≡ v.body = ap (take n) bodies ∙ take-append_seam v.body (bodies_of vs ++ free) in
    let next-p : length (p ++ own) ≡ length p + 8 = length-append p own ∙ ap (λ (x : ℕ). length p + x) (length_row v.number at n) in
    let ih = rows_pass s vs (p ++ own) q free (v.number + 1) (at + n) (whole ∙ sym (append_assoc p own rest)) later (omega arith) k l r in
    let head_ok : breach (row_demands s (length p) floor at) ≡ 0 = unbroken (row_demands s (length p) floor at) (rw number f, (kind, (offset, tt))) in
    record {
      rule = rw (head_ok, number, size, ← next-p) ih.rule;
      versions = rw (offset, number, size, body, ← next-p) (ap (λ (l : List Version). v ∷ l) ih.versions);
    }

module _ {s : List ℕ} {last : ℕ} {vs : List Version} {free : List ℕ} (g : GoodStore s last vs free) where
  abbrev n : ℕ
  n = length vs

  abbrev rest : List ℕ
  rest = table_of (table_end n) vs ++ (bodies_of vs ++ free)

  whole : s ≡ head_of n last ++ rest
  unfolding laid
  whole = g.is ∙ simp append_assoc

  long : length s ≡ table_end n + length (bodies_of vs) + length free
  long = ap length g.is ∙ length-append (laid last vs) free ∙ omega (arith, laid_long last vs)

  pub count_is : head.count of s ≡ n
  unfolding head_of
  count_is =
      ap (λ (x : List ℕ). num_at x 0 2) (whole ∙ simp append_assoc)
      ∙ num_back 2 n [] (bytes_of 2 last ++ (replicate 4 0 ++ rest)) (omega (arith, g.few))

  -- THE LAST NUMBER GIVEN
  pub last_is : head.last of s ≡ last
  unfolding head_of
  last_is =
      ap₂ (λ (x : List ℕ) (o : ℕ). num_at x o 2) (whole ∙ simp append_assoc) (sym (length_bytes 2 n))
      ∙ num_back 2 last (bytes_of 2 n) (replicate 4 0 ++ rest) g.given

  zeros_is : head.zeros of s ≡ 0
  unfolding head_of
  zeros_is =
      let a : List ℕ = bytes_of 2 n ++ bytes_of 2 last in
      let l : length a ≡ 4 = simp (length-append, length_bytes) in
      let w : s ≡ a ++ (bytes_of 4 0 ++ rest) = whole ∙ rw (bytes_zero 4) (simp append_assoc) in
      ap₂ (λ (x : List ℕ) (o : ℕ). num_at x o 4) w (sym l) ∙ num_back 4 0 a rest (omega arith)

  passes : RowsPass s 8 lowest (table_end n) vs
  passes =
      let t : List ℕ = head_of n last ++ table_of (table_end n) vs in
      let lt : length t ≡ table_end n = length-append (head_of n last) _ ∙ omega (arith, length_head n last, length_table (table_end n) vs) in
      let w : s ≡ t ++ (bodies_of vs ++ free) = whole ∙ sym (append_assoc (head_of n last) (table_of (table_end n) vs) (bodies_of vs ++ free)) in
      let d : drop (table_end n) s ≡ bodies_of vs ++ free = ap (drop (table_end n)) w ∙ drop_at t (bodies_of vs ++ free) (table_end n) lt in
      subst (λ (k : ℕ). RowsPass s k lowest (table_end n) vs) (length_head n last)
      (rows_pass s vs (head_of n last) (bodies_of vs ++ free) free lowest (table_end n) whole d (omega (arith, long)) g.short (rw last_is g.given) (rw last_is g.rising))

  -- IT PASSES
  pub good_passes : Passes s
  unfolding store_rule all_rows
  good_passes =
      let h : breach (head_demands s) ≡ 0 = unbroken (head_demands s) (omega (arith, long), (g.short, (rw count_is g.few, (zeros_is, (rw count_is (omega (arith, long)), tt))))) in
      rw (h, count_is) passes.rule

  -- AND KEEPS THESE VERSIONS
  pub good_kept : kept s ≡ vs
  unfolding kept
  good_kept = rw count_is passes.versions
