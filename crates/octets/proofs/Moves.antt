-- Laws of a run of bytes moved: one byte more of it, from the first on and from the last on.
use Rattle.octets.proofs.Kit.{ℕ, suc, ◌+◌, ◌-◌, ◌≤◌, ◌<◌, ◌≡◌, sym, ap, ◌∙◌, List, [], ◌∷◌, ◌++◌, append_assoc, add-zero, add_assoc, add-one, arith, length, take, drop, get_or, set}
use Rattle.octets.proofs.Kit.{length-append, length-drop, take-suc, drop-cons, get_or-drop, length-take-le, drop_at, take-append-le, take-take}
use Rattle.octets.specs.{Splice.splice, Moved.moved}
use Rattle.octets.proofs.Splices.{splice_none, splice_one, splice_more, splice_above, splice_below, length_splice}

-- a second run right before the first is one longer run
pub splice_before :
    (s : List ℕ) (o : ℕ) (xs ys : List ℕ) → o + length xs ≤ length s → splice (splice s (o + length xs) ys) o xs ≡ splice s o (xs ++ ys)
unfolding splice
splice_before s o xs ys h =
    let m : ℕ = o + length xs in
    let e : length (take m s) ≡ m = length-take-le m s h in
    let front : take o (take m s ++ ys ++ drop (m + length ys) s) ≡ take o s =
    ap (take o) (append_assoc (take m s) ys (drop (m + length ys) s))
    ∙ take-append-le o (take m s) (ys ++ drop (m + length ys) s) (omega arith)
    ∙ take-take o m s (omega arith)
    in
    let back : drop m (take m s ++ ys ++ drop (m + length ys) s) ≡ ys ++ drop (m + length ys) s =
    ap (drop m) (append_assoc (take m s) ys (drop (m + length ys) s)) ∙ drop_at (take m s) (ys ++ drop (m + length ys) s) m e
    in
    rw (front, back) (simp (append_assoc, length-append, add_assoc))

module _ (s : List ℕ) (from to : ℕ) where
  pub moved_none : s ≡ moved s from to 0
  unfolding moved
  moved_none = sym (splice_none s to)

  run_length : (n : ℕ) → from + n ≤ length s → length (take n (drop from s)) ≡ n
  run_length n h = length-take-le n (drop from s) (simp length-drop (omega arith))

  pub length_moved : (n : ℕ) → from + n ≤ length s → to + n ≤ length s → length (moved s from to n) ≡ length s
  unfolding moved
  length_moved n h k = length_splice s to (take n (drop from s)) (omega (arith, run_length n h))

  -- FROM THE FIRST ON: what is still to be moved down stands as it stood
  pub move_first :
      (j : ℕ) → to ≤ from → from + j < length s →
      set (moved s from to j) (to + j) (get_or (moved s from to j) (from + j) 0) ≡ moved s from to (j + 1)
  unfolding moved
  move_first j h k =
      let run : List ℕ = take j (drop from s) in
      let l : length run ≡ j = run_length j (omega arith) in
      let fits : to + length run ≤ length s = omega arith in
      let read : get_or (splice s to run) (from + j) 0 ≡ get_or (drop from s) j 0 =
      splice_above s to run fits (from + j) (omega arith) ∙ sym (get_or-drop from s j 0)
      in
      let more : take (j + 1) (drop from s) ≡ run ++ (get_or (drop from s) j 0 ∷ []) =
      ap (λ (i : ℕ). take i (drop from s)) (add-one j) ∙ take-suc (drop from s) j 0 (simp length-drop (omega arith))
      in
      ap (set (splice s to run) (to + j)) read
      ∙ splice_one (splice s to run) (to + j) (get_or (drop from s) j 0) (omega (arith, length_splice s to run fits))
      ∙ ap (λ (i : ℕ). splice (splice s to run) (to + i) (get_or (drop from s) j 0 ∷ [])) (sym l)
      ∙ splice_more s to run (get_or (drop from s) j 0 ∷ []) (omega arith)
      ∙ ap (splice s to) (sym more)

-- FROM THE LAST ON: what is still to be moved up stands as it stood
pub move_last :
    (s : List ℕ) (from to n : ℕ) → from ≤ to → to + suc n ≤ length s →
    set (moved s (suc from) (suc to) n) to (get_or (moved s (suc from) (suc to) n) from 0) ≡ moved s from to (suc n)
unfolding moved
move_last s from to n h k =
    let run : List ℕ = take n (drop (suc from) s) in
    let l : length run ≡ n = run_length s (suc from) (suc to) n (omega arith) in
    let fits : suc to + length run ≤ length s = omega arith in
    let read : get_or (splice s (suc to) run) from 0 ≡ get_or s from 0 = splice_below s (suc to) run fits from (omega arith) in
    ap (set (splice s (suc to) run) to) read
    ∙ splice_one (splice s (suc to) run) to (get_or s from 0) (omega (arith, length_splice s (suc to) run fits))
    ∙ ap (λ (i : ℕ). splice (splice s i run) to (get_or s from 0 ∷ [])) (sym (add-one to))
    ∙ splice_before s to (get_or s from 0 ∷ []) run (omega arith)
    ∙ ap (λ (d : List ℕ). splice s to (take (suc n) d)) (sym (drop-cons s from 0 (omega arith)))

-- the same with j bytes still to be moved, as the loop that counts down has it
module _ (s : List ℕ) (from to n : ℕ) where
  pub up_none : (j : ℕ) → n ≤ j → s ≡ moved s (from + j) (to + j) (n - j)
  up_none j h = moved_none s (from + j) (to + j) ∙ ap (moved s (from + j) (to + j)) (omega arith)

  pub up_more :
      (j : ℕ) → from ≤ to → to + n ≤ length s → 0 < j → j ≤ n →
      set (moved s (from + j) (to + j) (n - j)) (to + (j - 1)) (get_or (moved s (from + j) (to + j) (n - j)) (from + (j - 1)) 0)
      ≡ moved s (from + (j - 1)) (to + (j - 1)) (n - (j - 1))
  up_more j h k l m =
      let a : from + j ≡ suc (from + (j - 1)) = omega arith in
      let b : to + j ≡ suc (to + (j - 1)) = omega arith in
      let d : n - (j - 1) ≡ suc (n - j) = omega arith in
      rw (a, b, d) (move_last s (from + (j - 1)) (to + (j - 1)) (n - j) (omega arith) (omega arith))

  pub up_all : (j : ℕ) → j ≤ 0 → moved s (from + j) (to + j) (n - j) ≡ moved s from to n
  up_all j h =
      let e : j ≡ 0 = omega arith in
      let m : n - 0 ≡ n = omega arith in
      rw (e, add-zero from, add-zero to, m)
