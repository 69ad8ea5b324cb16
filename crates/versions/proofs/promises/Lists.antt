-- What `kept` returns: the number and the length in row k are those of the k-th version.
use Rattle.octets.proofs.Kit.{ℕ, zero, suc, ◌+◌, ◌-◌, ◌*◌, ◌≤◌, ◌<◌, ◌≡◌, refl, sym, ap, ap₂, subst, ◌∙◌, List, [], ◌∷◌, ◌++◌, arith, length, eq-eqb, ne_eqb}
use Rattle.octets.specs.{Bytes.{num_at, IsNum}, Octets.Octets}
use Rattle.sheet.specs.{Demand.breach, Layout.◌of◌}
use Rattle.versions.specs.{Store.{Version, Rising, next, lowest, table_end, version_at, versions_from, kept}, Rules.{rows_rule, all_rows, store_rule, is_store}}
use Rattle.versions.specs.{Walk.Chosen, Kept.{none, told, kept_of}, Refusal.number_of, declared.refusal.Refusal.Refusal}
use Rattle.versions.specs.{Example.{twice, left}, declared.listing.Listed.Listed}
use Rattle.versions.specs.Head as head
use Rattle.versions.specs.Row as row
use Rattle.versions.proofs.{Backs.{heads, good_store, length_versions}, Chosen.{which, lb, same_l}, Rows.store_refused}

abbrev listed : ℕ → ℕ → Listed
listed i j = record { number = i; long = j }

-- behind those before it, and behind the last
told_behind : (us vs : List Version) (v : Version) → told (us ++ (v ∷ vs)) (length us) ≡ record { number = v.number; long = length v.body }
unfolding told
told_behind [] vs v = refl
told_behind (u ∷ us) vs v = told_behind us vs v

told_none : (vs : List Version) (k : ℕ) → length vs ≤ k → told vs k ≡ none
unfolding told
told_none [] k h = refl
told_none (v ∷ vs) zero h = absurd (omega arith)
told_none (v ∷ vs) (suc k) h = told_none vs k (omega arith)

-- no version has number 0
told_low : {last : ℕ} (vs : List Version) (k floor : ℕ) → Rising last floor vs → k < length vs → floor ≤ (told vs k).number
unfolding told
told_low [] k floor r h = absurd (omega arith)
told_low (v ∷ vs) zero floor (next f r) h = f
told_low (v ∷ vs) (suc k) floor (next f r) h = let low = told_low vs k (v.number + 1) r (omega arith) in omega arith

module _ (s : List ℕ) (k : ℕ) where
  pub bad_listed : (e : Refusal) → number_of e ≡ store_rule s → none ≡ kept_of s k
  unfolding kept_of is_store
  bad_listed e h = rw (ne_eqb (store_rule s) 0 (store_refused s e h).1)

  module _ (h : 0 ≡ store_rule s) where
    ok : store_rule s ≡ 0
    ok = sym h

    pub listed_head : 1 < length s
    listed_head = omega (arith, heads s ok)

    module _ (n : ℕ) (hn : IsNum s 0 2 65536 n) where
      pub past_listed : n ≤ k → none ≡ kept_of s k
      unfolding kept_of is_store kept
      past_listed l =
          rw (eq-eqb (store_rule s) 0 ok)
          (sym (told_none (versions_from s 8 (head.count of s)) k (omega (arith, length_versions s 8 (head.count of s), hn.value))))

      pub row_room : k < n → k ≤ 8
      row_room l = omega (arith, heads s ok, hn.value)

      module _ (p : ℕ) (o : p ≡ table_end k) where
        pub number_room : k < n → p + (row.number).at + 1 < length s
        number_room l = omega (arith, heads s ok, hn.value)

        pub long_room : k < n → p + (row.long).at + 1 < length s
        long_room l = omega (arith, heads s ok, hn.value)

        pub some_listed :
            (i j : ℕ) → Octets s → k < n → IsNum s (p + (row.number).at) 2 65536 i → IsNum s (p + (row.long).at) 2 65536 j →
            ◌≡◌ {A = Listed} record { number = i; long = j } (kept_of s k)
        unfolding kept_of is_store version_at
        some_listed i j b l gi gj =
            let m = heads s ok in
            let hi : IsNum s (table_end k + (row.number).at) 2 65536 i = subst (λ (q : ℕ). IsNum s (q + (row.number).at) 2 65536 i) o gi in
            let hj : IsNum s (table_end k + (row.long).at) 2 65536 j = subst (λ (q : ℕ). IsNum s (q + (row.long).at) 2 65536 j) o gj in
            let c : Chosen s n k = record { good = ok; all = hn.value; below = l; tabled = record { few = omega (arith, m, hn.value); room = omega (arith, m, hn.value) } } in
            let is = told_behind (versions_from s 8 k) (versions_from s (8 + 8 * suc k) (n - (k + 1))) (version_at s (8 + 8 * k)) in
            let here = ap₂ told (which b c) (sym (lb b c)) ∙ is in
            rw (eq-eqb (store_rule s) 0 ok) (ap₂ listed hi.value (hj.value ∙ same_l b c) ∙ sym here)

        pub known_listed :
            (i j : ℕ) → Octets s → k < n → IsNum s (p + (row.number).at) 2 65536 i → IsNum s (p + (row.long).at) 2 65536 j → 1 ≤ i
        unfolding kept_of is_store kept
        known_listed i j b l gi gj =
            let long : k < length (kept s) = omega (arith, length_versions s 8 (head.count of s), hn.value) in
            let low : lowest ≤ (told (kept s) k).number = told_low (kept s) k lowest (good_store s b ok).rising long in
            let all : kept_of s k ≡ told (kept s) k = rw (eq-eqb (store_rule s) 0 ok) refl in
            omega (arith, low, ap (λ (v : Listed). v.number) (some_listed i j b l gi gj ∙ all))

-- WORKED: both versions and none behind them; what is left after a remove; a store that is none
pub listed_worked :
    kept_of twice 0 ∷ kept_of twice 1 ∷ kept_of twice 2 ∷ kept_of left 0 ∷ kept_of [] 0 ∷ []
    ≡ listed 1 18 ∷ listed 2 18 ∷ none ∷ listed 2 18 ∷ none ∷ []
unfolding twice left kept_of told version_at versions_from kept rows_rule all_rows store_rule is_store breach num_at
listed_worked = refl
