-- A store that passes is the bytes of the versions that it keeps, and then what is free.
use Rattle.octets.proofs.Kit.{ℕ, zero, suc, ◌+◌, ◌*◌, ◌≤◌, ◌<◌, ◌≡◌, refl, sym, ap, ap₂, ◌∙◌, List, ◌++◌, append_assoc, arith, length, take, drop, replicate, length-drop, take-append-drop}
use Rattle.octets.proofs.Kit.{take-add, drop-drop, get_or-take, get_or-drop, length-take-le, ext_get_or}
use Rattle.octets.{specs.{Bytes.{num_at, bytes_of}, Octets.Octets}, proofs.Numbers.{length_bytes, bytes_back, bytes_zero, num_below}}
use Rattle.sheet.{specs.{Demand.{breach, Met}, Layout.◌of◌}, proofs.rules.{Demands.met, First.{or_else_left, or_else_right}}}
use Rattle.versions.specs.Store.{Rising, none, next, GoodStore, settings, lowest, table_end, head_of, row_of, table_of, bodies_of, laid, in_row, version_at, versions_from, kept}
use Rattle.versions.specs.{Rules.{head_demands, row_demands, end_demands, rows_rule, all_rows, store_rule}, Ends.{end_from, end_of}}
use Rattle.versions.specs.Head as head
use Rattle.versions.specs.Row as row

-- the head of a store that passes
pub heads : (s : List ℕ) → store_rule s ≡ 0 → Met (head_demands s)
unfolding store_rule
heads s ok = met (head_demands s) tt (or_else_left (breach (head_demands s)) _ ok)

module _ (s : List ℕ) (b : Octets s) where
  -- the bytes of a number that stands in s are those that stand there
  pub num_bytes : (o w : ℕ) → o + w ≤ length s → bytes_of w (num_at s o w) ≡ take w (drop o s)
  num_bytes o w h =
      let l : length (take w (drop o s)) ≡ w = length-take-le w (drop o s) (simp length-drop (omega arith)) in
      ext_get_or 0 _ _ (length_bytes w (num_at s o w) ∙ sym l)
      (λ i k.
      let j : i < w = omega (arith, length_bytes w (num_at s o w)) in
      bytes_back s o w b i j ∙ sym (get_or-take w (drop o s) i 0 j ∙ get_or-drop o s i 0))

  pub part : (o m n : ℕ) → take (m + n) (drop o s) ≡ take m (drop o s) ++ take n (drop (o + m) s)
  part o m n = take-add m n (drop o s) ∙ ap (λ (l : List ℕ). take m (drop o s) ++ take n l) (drop-drop m o s)

  row_bytes : (p at : ℕ) → p + 8 ≤ length s → in_row s p row.kind ≡ settings → in_row s p row.offset ≡ at →
      take 8 (drop p s) ≡ row_of (in_row s p row.number) at (in_row s p row.long)
  unfolding row_of
  row_bytes p at h k o =
      let e0 : p ≡ p + 0 = omega arith in
      let e4 : p + 2 + 2 ≡ p + 4 = omega arith in
      let e6 : p + 4 + 2 ≡ p + 6 = omega arith in
      let long : take 2 (drop (p + 4 + 2) s) ≡ bytes_of 2 (in_row s p row.long) = rw e6 (sym (num_bytes (p + 6) 2 (omega arith))) in
      let offset : take 2 (drop (p + 4) s) ≡ bytes_of 2 at = sym (num_bytes (p + 4) 2 (omega arith)) ∙ ap (bytes_of 2) o in
      let kind : take 2 (drop (p + 2) s) ≡ bytes_of 2 settings = sym (num_bytes (p + 2) 2 (omega arith)) ∙ ap (bytes_of 2) k in
      let number : take 2 (drop p s) ≡ bytes_of 2 (in_row s p row.number) =
      sym (num_bytes p 2 (omega arith)) ∙ ap (λ (x : ℕ). bytes_of 2 (num_at s x 2)) e0
      in
      let last : take 4 (drop (p + 2 + 2) s) ≡ bytes_of 2 at ++ bytes_of 2 (in_row s p row.long) =
      ap (λ (x : ℕ). take 4 (drop x s)) e4 ∙ part (p + 4) 2 2 ∙ ap₂ ◌++◌ offset long
      in
      part p 2 6 ∙ ap₂ ◌++◌ number (part (p + 2) 2 4 ∙ ap₂ ◌++◌ kind last)

  pub record Back (n p floor at : ℕ) : Type 0 where
    pub table : take (8 * n) (drop p s) ≡ table_of at (versions_from s p n)
    pub bodies : drop at s ≡ bodies_of (versions_from s p n) ++ drop (end_from s p at n) s
    pub from : at ≤ end_from s p at n
    pub to : end_from s p at n ≤ length s
    pub rising : Rising (head.last of s) floor (versions_from s p n)

  pub backs : (n p floor at : ℕ) → p + 8 * n ≤ length s → rows_rule s p floor at n ≡ 0 → Back n p floor at
  unfolding rows_rule versions_from table_of bodies_of end_from version_at
  backs zero p floor at h e =
      let m = met (end_demands s floor at) tt e in
      record { table = refl; bodies = refl; from = omega arith; to = m.1.0; rising = none m.0 }
  backs (suc n) p floor at h e =
      let m = met (row_demands s p floor at) tt (or_else_left (breach (row_demands s p floor at)) _ e) in
      let x : ℕ = in_row s p row.number in
      let y : ℕ = in_row s p row.long in
      let ih = backs n (p + 8) (x + 1) (at + y) (omega arith) (or_else_right (breach (row_demands s p floor at)) _ e) in
      let o : in_row s p row.offset ≡ at = m.1.1.0 in
      let l : length (take y (drop at s)) ≡ y = length-take-le y (drop at s) (simp length-drop (omega (arith, ih.from, ih.to))) in
      let d : 8 * suc n ≡ 8 + 8 * n = omega arith in
      record {
        table = rw (d, o, l) (part p 8 (8 * n) ∙ ap₂ ◌++◌ (row_bytes p at (omega arith) m.1.0 o) ih.table);
        bodies =
            rw o
            (sym (take-append-drop y (drop at s)) ∙ ap (λ (t : List ℕ). take y (drop at s) ++ t) (drop-drop y at s ∙ ih.bodies) ∙ sym (append_assoc (take y (drop at s)) _ _));
        from = omega (arith, ih.from);
        to = ih.to;
        rising = next m.0 ih.rising;
      }

  -- A STORE THAT PASSES
  module _ (ok : store_rule s ≡ 0) where
    m : Met (head_demands s)
    m = heads s ok

    abbrev pub n : ℕ
    n = head.count of s

    pub all_back : Back n 8 lowest (table_end n)
    unfolding store_rule all_rows
    all_back = backs n 8 lowest (table_end n) (omega (arith, m)) (or_else_right (breach (head_demands s)) _ ok)

    head_bytes_lem : take 8 s ≡ head_of n (head.last of s)
    unfolding head_of
    head_bytes_lem =
        let z : take 4 (drop 4 s) ≡ replicate 4 0 = sym (num_bytes 4 4 (omega (arith, m))) ∙ ap (bytes_of 4) m.1.1.1.0 ∙ bytes_zero 4 in
        part 0 2 6 ∙ ap₂ ◌++◌ (sym (num_bytes 0 2 (omega (arith, m)))) (part 2 2 4 ∙ ap₂ ◌++◌ (sym (num_bytes 2 2 (omega (arith, m)))) z)

pub length_versions : (s : List ℕ) (p n : ℕ) → length (versions_from s p n) ≡ n
unfolding versions_from
length_versions s p zero = refl
length_versions s p (suc n) = ap suc (length_versions s (p + 8) n)

pub good_store : (s : List ℕ) → Octets s → store_rule s ≡ 0 → GoodStore s (head.last of s) (kept s) (drop (end_of s) s)
unfolding laid kept
good_store s b ok =
    let k = all_back s b ok in
    let c : ℕ = head.count of s in
    let l : length (versions_from s 8 c) ≡ c = length_versions s 8 c in
    let m = heads s ok in
    record {
      is =
          rw l
          (sym (take-append-drop 8 s)
          ∙ ap₂ ◌++◌ (head_bytes_lem s b ok) (sym (take-append-drop (8 * c) (drop 8 s)) ∙ ap₂ ◌++◌ k.table (drop-drop (8 * c) 8 s ∙ k.bodies))
          ∙ simp append_assoc);
      few = omega (arith, l, m);
      rising = k.rising;
      given = num_below s 2 2 b;
      short = m.1.0;
    }
