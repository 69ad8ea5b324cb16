-- Version i of a good store: those before it, its own, those after it, where row and body stand, and the store without it.
use Rattle.octets.proofs.Kit.{ℕ, suc, ◌+◌, ◌-◌, ◌*◌, ◌≤◌, ◌≡◌, sym, ap, ap₂, subst, ◌∙◌, true, List, ◌∷◌, ◌++◌, arith, length, drop, replicate, length-append}
use Rattle.octets.specs.Octets.{Octets}
use Rattle.sheet.specs.Layout.{◌of◌}
use Rattle.versions.specs.{Store.{Version, GoodStore, longest, table_end, in_row, bodies_of, laid, version_at, versions_from, kept, has, is_kept}, Removing.{without, removed}}
use Rattle.versions.specs.{Steps.{closed, taken_out}, Ends.{end_from, end_of}, Walk.{Chosen, Found, Stands}}
use Rattle.versions.specs.Head as head
use Rattle.versions.specs.Row as row
use Rattle.versions.proofs.{Laid.{laid_long, bodies_join}, Backs.{good_store, length_versions}, promises.Keeping.end_long, Finds.{split, found, left_found}}
use Rattle.versions.proofs.Apart.{offset_is, long_is, taken_out_lem}

closed_same :
    (s t : List ℕ) (n k p q a d l m e f : ℕ) → s ≡ t → n ≡ k → p ≡ q → a ≡ d → l ≡ m → e ≡ f → closed s n p a l e ≡ closed t k q d m f
closed_same s t n k p q a d l m e f h₁ h₂ h₃ h₄ h₅ h₆ = cc

module _ {s : List ℕ} {n i : ℕ} (b : Octets s) (c : Chosen s n i) where
  abbrev last : ℕ
  last = head.last of s

  abbrev free : List ℕ
  free = drop (end_of s) s

  abbrev m : ℕ
  m = n - (i + 1)

  abbrev before : List Version
  before = versions_from s 8 i

  abbrev own : Version
  own = version_at s (8 + 8 * i)

  abbrev after : List Version
  after = versions_from s (8 + 8 * suc i) m

  g : GoodStore s last (kept s) free
  g = good_store s b c.good

  whole_count : n ≡ i + suc m
  whole_count = omega (arith, c.below)

  pub which : kept s ≡ before ++ (own ∷ after)
  unfolding kept
  which = ap (versions_from s 8) (sym c.all ∙ whole_count) ∙ split s i m 8

  whole : s ≡ laid last (before ++ (own ∷ after)) ++ free
  whole = g.is ∙ ap (λ (vs : List Version). laid last vs ++ free) which

  pub lb : length before ≡ i
  lb = length_versions s 8 i

  la : length after ≡ m
  la = length_versions s (8 + 8 * suc i) m

  abbrev n' : ℕ
  n' = length before + suc (length after)

  same_n : n ≡ n'
  same_n = omega (arith, lb, la, whole_count)

  bodies : length (bodies_of (before ++ (own ∷ after))) ≡ length (bodies_of before) + (length own.body + length (bodies_of after))
  unfolding bodies_of
  bodies =
      ap length (bodies_join before (own ∷ after))
      ∙ length-append (bodies_of before) (own.body ++ bodies_of after)
      ∙ ap (λ (x : ℕ). length (bodies_of before) + x) (length-append own.body (bodies_of after))

  all_count : length (before ++ (own ∷ after)) ≡ n'
  all_count = length-append before (own ∷ after)

  old_long : length (laid last (before ++ (own ∷ after))) ≡ table_end n' + (length (bodies_of before) + (length own.body + length (bodies_of after)))
  old_long = laid_long last (before ++ (own ∷ after)) ∙ omega (arith, bodies, all_count)

  short : table_end n' + (length (bodies_of before) + (length own.body + length (bodies_of after))) ≤ longest
  short = omega (arith, g.short, old_long, ap length whole, length-append (laid last (before ++ (own ∷ after))) free)

  abbrev a : ℕ
  a = table_end n' + length (bodies_of before)

  abbrev l : ℕ
  l = length own.body

  same_p : table_end i ≡ table_end (length before)
  same_p = omega (arith, lb)

  same_a : in_row s (table_end i) row.offset ≡ a
  same_a =
      ap₂ (λ (t : List ℕ) (p : ℕ). in_row t p row.offset) whole same_p
      ∙ offset_is last before own after free (omega (arith, short))

  pub same_l : in_row s (table_end i) row.long ≡ l
  same_l =
      ap₂ (λ (t : List ℕ) (p : ℕ). in_row t p row.long) whole same_p
      ∙ long_is last before own after free (omega (arith, short))

  same_end : end_from s 8 (table_end n) n ≡ a + l + length (bodies_of after)
  same_end =
      ap (λ (k : ℕ). end_from s 8 (table_end k) k) c.all
      ∙ end_long s b c.good
      ∙ ap (λ (vs : List Version). length (laid last vs)) which
      ∙ omega (arith, old_long)

  pub body_stands : Stands s (table_end i) (in_row s (table_end i) row.offset) (in_row s (table_end i) row.long) (end_from s 8 (table_end n) n)
  body_stands =
      record {
        behind = omega (arith, same_a, same_n, c.below);
        within = omega (arith, same_a, same_l, same_end);
        room = omega (arith, same_end, ap length whole, length-append (laid last (before ++ (own ∷ after))) free, old_long);
      }

  taken : taken_out s n i ≡ laid last (before ++ after) ++ (replicate (8 + l) 0 ++ free)
  unfolding taken_out closed
  taken =
      closed_same s (laid last (before ++ (own ∷ after)) ++ free) n n' (table_end i) (table_end (length before)) _ a _ l _ (a + l + length (bodies_of after)) whole same_n same_p same_a same_l same_end
      ∙ taken_out_lem last before own after free (omega (arith, short)) (omega (arith, short))

  -- AS THE STORE WITHOUT IT
  module _ (x : ℕ) (f : Found s n x i) where
    pub was_kept : is_kept s x ≡ true
    unfolding kept is_kept
    was_kept =
        let e : i + suc m ≡ head.count of s = sym whole_count ∙ c.all in
        subst (λ (k : ℕ). has x (versions_from s 8 k) ≡ true) e (found s x i m 8 (λ j h q. f.before j h q) (f.here c.below))

    left_is : without x (kept s) ≡ before ++ after
    unfolding kept
    left_is =
        let e : i + suc m ≡ head.count of s = sym whole_count ∙ c.all in
        subst (λ (k : ℕ). without x (versions_from s 8 k) ≡ before ++ after) e (left_found s x i m 8 (λ j h q. f.before j h q) (f.here c.below))

    pub taken_is : taken_out s n i ≡ removed s x
    unfolding removed
    taken_is =
        let e : length (laid last (kept s)) ≡ end_of s = sym (end_long s b c.good) in
        let new : length (laid last (before ++ after)) ≡ table_end (length before + length after) + (length (bodies_of before) + length (bodies_of after)) =
        laid_long last (before ++ after) ∙ omega (arith, length-append before after, ap length (bodies_join before after), length-append (bodies_of before) (bodies_of after))
        in
        let old : end_of s ≡ table_end n' + (length (bodies_of before) + (length own.body + length (bodies_of after))) =
        end_long s b c.good ∙ ap (λ (vs : List Version). length (laid last vs)) which ∙ old_long
        in
        let k : end_of s - length (laid last (before ++ after)) ≡ 8 + l = omega (arith, new, old) in
        rw (left_is, e, k) taken
