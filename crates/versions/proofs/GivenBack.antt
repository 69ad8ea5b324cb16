-- A sheet that was given a version's entries and bodies would be saved as that version.
use Rattle.octets.proofs.Kit.{ℕ, ◌+◌, ◌-◌, ◌<◌, ◌≡◌, sym, ap, ap₂, ◌∙◌, List, ◌++◌, arith, length, take, drop, take-append-drop, length-drop, length-take-le, get_or-take, get_or-drop, ext_get_or}
use Rattle.octets.proofs.Kit.{drop-drop}
use Rattle.octets.{specs.{Bytes.bytes_of, Octets.Octets}, proofs.Splices.{splice_read, length_splice}}
use Rattle.sheet.{specs.{Kind.{properties, groups}, Entries.{base, start_of}, Rules.Accepted, Agree.Agree}, proofs.alike.Sames.{count_same, start_same}}
use Rattle.versions.specs.Settings.{front, many, entries_long, bodies_long, settings_of, restored, SameEntries, LowCounts}
use Rattle.versions.proofs.Backs.{num_bytes}
use Rattle.versions.proofs.promises.Restores as re

module _ {s d : List ℕ} (ok : Accepted s) (bytes : Octets d) (same : SameEntries s d) (low : LowCounts s d) where
  abbrev u : List ℕ
  u = restored s d

  agree : Agree s (restored s d)
  agree = re.restored_agrees ok same low

  same_many : many (restored s d) ≡ many s
  same_many = count_same agree properties

  same_base : base (restored s d) properties ≡ base s properties
  same_base = omega (arith, count_same agree 0)

  number : bytes_of front (many (restored s d)) ≡ take front d
  number = ap (bytes_of front) (same_many ∙ sym same.number) ∙ num_bytes d bytes 0 front (omega (arith, same.long))

  entries : take (entries_long s) (drop (base s properties) (restored s d)) ≡ take (entries_long s) (drop front d)
  unfolding restored
  entries =
      let w : List ℕ = re.u ok same in
      let m = length_splice (re.t ok same) (start_of s properties) (drop (front + entries_long s) d) (re.fits₂ ok same) in
      let l : length (take (entries_long s) (drop (base s properties) w)) ≡ entries_long s =
      length-take-le (entries_long s) (drop (base s properties) w) (simp length-drop (omega (arith, m, re.t_long ok same, re.fits₁ ok same, re.entries_long_lem ok same)))
      in
      ext_get_or 0 _ _ (l ∙ sym (re.entries_long_lem ok same))
      (λ j k.
      let h : j < entries_long s = omega (arith, l) in
      get_or-take (entries_long s) (drop (base s properties) w) j 0 h
      ∙ get_or-drop (base s properties) w j 0
      ∙ re.inside ok same j h
      ∙ sym (get_or-take (entries_long s) (drop front d) j 0 h ∙ get_or-drop front d j 0))

  bodies : take (bodies_long s) (drop (start_of s properties) (restored s d)) ≡ drop (front + entries_long s) d
  unfolding restored
  bodies =
      ap (λ (k : ℕ). take k (drop (start_of s properties) (re.u ok same))) (sym (re.bodies_long_lem ok same))
      ∙ splice_read (re.t ok same) (start_of s properties) (drop (front + entries_long s) d) (re.fits₂ ok same)

  -- SAVED AGAIN, IT GIVES THE VERSION'S BODY
  pub given_back_lem : settings_of (restored s d) ≡ d
  unfolding settings_of
  given_back_lem =
      let long : entries_long (restored s d) ≡ entries_long s = omega (arith, same_many) in
      let b : bodies_long (restored s d) ≡ bodies_long s =
      ap₂ (λ (x y : ℕ). x - y) (start_same agree groups (omega arith)) (start_same agree properties (omega arith))
      in
      ap₂ ◌++◌ number
      (ap₂ ◌++◌ (ap₂ (λ (x y : ℕ). take x (drop y (restored s d))) long same_base ∙ entries)
      (ap₂ (λ (x y : ℕ). take x (drop y (restored s d))) b (start_same agree properties (omega arith)) ∙ bodies))
      ∙ ap (λ (l : List ℕ). take front d ++ (take (entries_long s) (drop front d) ++ l)) (sym (drop-drop (entries_long s) front d))
      ∙ ap (λ (l : List ℕ). take front d ++ l) (take-append-drop (entries_long s) (drop front d))
      ∙ take-append-drop front d
