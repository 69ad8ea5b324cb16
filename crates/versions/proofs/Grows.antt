-- ONE VERSION MORE: what the steps of a save leave is the store with it, and that store is good.
use Rattle.octets.proofs.Kit.{ℕ, ◌+◌, ◌≤◌, ◌<◌, ◌≡◌, refl, sym, ap, ◌∙◌, List, [], ◌∷◌, ◌++◌, append-nil, arith, length, drop, length-append, length-drop, drop-drop, drop-append_seam}
use Rattle.versions.specs.{Store.{Version, Rising, none, next, Keeps, places, lowest, table_end, bodies_of, laid}, Saving.{needed, saved}, Steps.appended}
use Rattle.versions.proofs.{Laid.{laid_long, bodies_join}, Appends.appended_is, promises.Keeping.{keeps_these, keeps_last, whole}}

-- one more number above all that were given
pub rising_more : {last : ℕ} (x floor : ℕ) (vs : List Version) (d : List ℕ) → last < x → Rising last floor vs → Rising x floor (vs ++ (record { number = x; body = d } ∷ []))
rising_more x floor [] d h (none k) = next {floor = floor} {v = record { number = x; body = d }} (omega arith) (none {floor = x + 1} (omega arith))
rising_more x floor (v ∷ vs) d h (next k r) = next k (rising_more x (v.number + 1) vs d h r)

-- the versions with one more
abbrev pub and : List Version → ℕ → List ℕ → List Version
and vs x d = vs ++ (record { number = x; body = d } ∷ [])

module _ (last : ℕ) (vs : List Version) (d : List ℕ) where
  pub more_count : length (and vs last d) ≡ length vs + 1
  more_count = length-append vs (record { number = last; body = d } ∷ [])

  more_bodies : length (bodies_of (and vs last d)) ≡ length (bodies_of vs) + length d
  unfolding bodies_of
  more_bodies =
      ap length (bodies_join vs (record { number = last; body = d } ∷ []))
      ∙ length-append (bodies_of vs) (d ++ [])
      ∙ ap (λ (l : List ℕ). length (bodies_of vs) + length l) (append-nil d)

  -- THEY TAKE WHAT IS NEEDED
  pub more_long : length (laid last (and vs last d)) ≡ needed vs d
  more_long = laid_long last (and vs last d) ∙ omega (arith, more_count, more_bodies)

module _ {s : List ℕ} {last : ℕ} {vs : List Version} (k : Keeps s last vs) (d : List ℕ) (room : needed vs d ≤ length s) where
  abbrev new : List ℕ
  new = laid (last + 1) (and vs (last + 1) d)

  abbrev end : ℕ
  end = table_end (length vs) + length (bodies_of vs)

  old_long : length (laid last vs) ≡ end
  old_long = laid_long last vs

  -- THE STEPS OF `append` GIVE WHAT SAVING IS TO GIVE
  pub saved_is : appended s (length vs) end (last + 1) d ≡ saved s d
  unfolding saved
  saved_is =
      let free : List ℕ = k.free in
      let rest : drop (length (laid last vs)) s ≡ free = ap (drop (length (laid last vs))) k.good.is ∙ drop-append_seam (laid last vs) free in
      let e : length (laid last vs) + (8 + length d) ≡ length new = omega (arith, old_long, more_long (last + 1) vs d) in
      let left : drop (8 + length d) free ≡ drop (length new) s =
      ap (drop (8 + length d)) (sym rest) ∙ drop-drop (8 + length d) (length (laid last vs)) s ∙ ap (λ (n : ℕ). drop n s) e
      in
      let fits : 8 + length d ≤ length free = omega (arith, whole k, old_long, room) in
      rw (keeps_these k, keeps_last k)
      (ap (λ (t : List ℕ). appended t (length vs) end (last + 1) d) k.good.is
      ∙ appended_is last vs free (last + 1) d fits (omega (arith, room, k.good.short)) (omega (arith, room, k.good.short))
      ∙ ap (λ (l : List ℕ). new ++ l) left)

  -- AND THAT STORE IS GOOD
  pub grown : last < 65535 → length vs < places → Keeps (saved s d) (last + 1) (and vs (last + 1) d)
  unfolding saved
  grown hl hc =
      rw (keeps_these k, keeps_last k)
      (record {
        free = drop (length new) s;
        good =
            record {
              is = refl;
              few = omega (arith, more_count (last + 1) vs d);
              rising = rising_more (last + 1) lowest vs d (omega arith) k.good.rising;
              given = omega arith;
              short = omega (arith, length-append new (drop (length new) s), length-drop (length new) s, more_long (last + 1) vs d, k.good.short);
            };
      })
