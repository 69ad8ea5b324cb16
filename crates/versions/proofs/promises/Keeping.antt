-- A GOOD STORE IS THE BYTES OF THE VERSIONS THAT IT KEEPS, both ways.
use Rattle.octets.proofs.Kit.{ℕ, ◌+◌, ◌-◌, ◌≡◌, sym, ap, ◌∙◌, List, arith, length, drop, length-append, length-drop}
use Rattle.octets.specs.Octets.{Octets}
use Rattle.sheet.specs.Layout.{◌of◌}
use Rattle.versions.specs.{Store.{Version, Keeps, table_end, bodies_of, laid, versions_from, kept}, Rules.Passes, Ends.end_of}
use Rattle.versions.specs.Head as head
use Rattle.versions.proofs.{Laid.laid_long, Backs.{good_store, all_back, length_versions}, Forths.{good_passes, good_kept, last_is, count_is}}

-- WHAT PASSES KEEPS WHAT IT SAYS
module _ (s : List ℕ) where
  pub it_keeps : Octets s → Passes s → Keeps s (head.last of s) (kept s)
  it_keeps b ok = record { free = drop (end_of s) s; good = good_store s b ok }

  pub kept_count : head.count of s ≡ length (kept s)
  unfolding kept
  kept_count = sym (length_versions s 8 (head.count of s))

  -- its bodies end where the bytes of the kept versions do
  pub end_long : Octets s → Passes s → end_of s ≡ length (laid (head.last of s) (kept s))
  unfolding kept
  end_long b ok =
      let k = all_back s b ok in
      let n : ℕ = head.count of s in
      let vs : List Version = versions_from s 8 n in
      let e : length s - table_end n ≡ length (bodies_of vs) + (length s - end_of s) =
      sym (length-drop (table_end n) s) ∙ ap length k.bodies ∙ length-append (bodies_of vs) _ ∙ ap (λ (x : ℕ). length (bodies_of vs) + x) (length-drop (end_of s) s)
      in
      sym (laid_long (head.last of s) vs ∙ omega (arith, length_versions s 8 n, k.from, k.to))

-- WHAT KEEPS VERSIONS PASSES, AND SAYS SO
module _ {s : List ℕ} {last : ℕ} {vs : List Version} (k : Keeps s last vs) where
  pub passes : Passes s
  passes = good_passes k.good

  pub keeps_these : kept s ≡ vs
  keeps_these = good_kept k.good

  pub keeps_last : head.last of s ≡ last
  keeps_last = last_is k.good

  pub keeps_count : head.count of s ≡ length vs
  keeps_count = count_is k.good

  pub whole : length s ≡ length (laid last vs) + length k.free
  whole = ap length k.good.is ∙ length-append (laid last vs) k.free
