-- What the calls of `restore` return, case by case.
use Rattle.std.specs.Prelude.{None, Some}
use Rattle.octets.proofs.Kit.{ℕ, zero, suc, ◌+◌, ◌-◌, ◌*◌, ◌≤◌, ◌<◌, ◌≡◌, refl, sym, ap, ap₂, subst, ◌∙◌, Bool, true, false, cond, not, List, [], ◌∷◌, arith, eqb, length}
use Rattle.octets.proofs.Kit.{take, drop, length-drop, take_all, eq-eqb, ne_eqb, not-true, not-false, eqb-true}
use Rattle.octets.{specs.{Bytes.{num_at, IsNum}, Splice.splice, Every.every, Octets.Octets}, proofs.{Splices.splice_none, Truths.{and_is}}}
use Rattle.sheet.{specs.{Kind.properties, Layout.◌of◌, Entries.{base, place, start_of, end_from}, Rules.refusal_of, Refused.number_of as sheet_number, declared.Refused.Refused}}
use Rattle.judge.specs.declared.Session.{Session}
use Rattle.versions.specs.{Store.{table_end, version_at, versions_from, kept, has, body_of, is_kept, version_in}, Rules.{store_rule, is_store, not_kept}}
use Rattle.versions.specs.{Walk.{Tabled, Found, Chosen, Extents, Placed}, Settings.{front, many, entries_long, bodies_long, restored}, Restoring.{same_entry, low_count}}
use Rattle.versions.specs.Restoring.{entry_in, same_entries, low_counts, gives_back, at_zero, not_at_zero, other_entries, high_count, restore_outcome, restore_sheet, RestoredAs}
use Rattle.versions.specs.Refusal.{number_of}
use Rattle.versions.specs.declared.{settings.Extent.Extent, table.Place.Place, refusal.Refusal.Refusal}
use Rattle.versions.specs.Head as head
use Rattle.versions.specs.Row as row
use Rattle.versions.proofs.{Backs.heads, Finds.{found, missed, body_found}, Chosen.body_stands, Rows.store_refused, Refused.{never_none, never_done}}

-- over the same places, or none
every_placed :
    (P : ℕ → ℕ → Bool) (n m e b : ℕ) → n ≡ m → ((n ≡ 0 → ⊥) → e ≡ b) →
    every n (λ i. P (e + 12 * i) i) ≡ every m (λ i. P (b + 12 * i) i)
unfolding every
every_placed P zero m e b q h = ap (λ (k : ℕ). every k (λ i. P (b + 12 * i) i)) q
every_placed P (suc n) m e b q h =
    let d : e ≡ b = h (λ z. omega arith) in
    ap (λ (p : ℕ). every (suc n) (λ i. P (p + 12 * i) i)) d ∙ ap (λ (k : ℕ). every k (λ i. P (b + 12 * i) i)) q

-- a version judged
module _ (s d : List ℕ) (x : Extent) (hx : Extents s x) (l : ℕ) (hl : (l ≡ 2 + (12 * x.count + (x.to - x.from))) × (l < 65536)) where
  whole : l ≡ front + entries_long s + bodies_long s
  whole = omega (arith, hl.0, hx.long, hx.count)

  pub other_long : (length d ≡ l → ⊥) → other_entries ≡ gives_back s d
  unfolding gives_back same_entries
  other_long h =
      let t : eqb (length d) (front + entries_long s + bodies_long s) ≡ false = ne_eqb (length d) (front + entries_long s + bodies_long s) (λ e. h (e ∙ sym whole)) in
      rw t

  module _ (same : length d ≡ l) where
    j₁ : eqb (length d) (front + entries_long s + bodies_long s) ≡ true
    j₁ = eq-eqb (length d) (front + entries_long s + bodies_long s) (same ∙ whole)

    module _ (n : ℕ) (hn : IsNum d 0 2 65536 n) where
      pub other_many : (n ≡ x.count → ⊥) → other_entries ≡ gives_back s d
      unfolding gives_back same_entries
      other_many h =
          let t : eqb (num_at d 0 front) (many s) ≡ false = ne_eqb (num_at d 0 front) (many s) (λ e. h (hn.value ∙ e ∙ sym hx.count)) in
          rw (j₁, t)

      module _ (eq : n ≡ x.count) where
        j₂ : eqb (num_at d 0 front) (many s) ≡ true
        j₂ = eq-eqb (num_at d 0 front) (many s) (sym hn.value ∙ eq ∙ hx.count)

        module _ (r : Bool) (e : r ≡ every x.count (λ j. same_entry s (x.entries + 12 * j) d (2 + 12 * j))) where
          e₃ : r ≡ every (many s) (λ i. same_entry s (place s properties i) d (entry_in i))
          e₃ = e ∙ every_placed (λ (p i : ℕ). same_entry s p d (2 + 12 * i)) x.count (many s) x.entries (base s properties) hx.count hx.base

          pub other_entries_lem : not r ≡ true → other_entries ≡ gives_back s d
          unfolding gives_back same_entries
          other_entries_lem t = rw (j₁, j₂, ← e₃, not-true r t)

          module _ (rt : not r ≡ false) (v : Bool) (f : v ≡ every x.count (λ j. low_count s (x.entries + 12 * j) d (2 + 12 * j))) where
            e₄ : v ≡ low_counts s d
            unfolding low_counts
            e₄ = f ∙ every_placed (λ (p i : ℕ). low_count s p d (2 + 12 * i)) x.count (many s) x.entries (base s properties) hx.count hx.base

            pub high_count_lem : not v ≡ true → high_count ≡ gives_back s d
            unfolding gives_back same_entries
            high_count_lem t = rw (j₁, j₂, ← e₃, not-false r rt, ← e₄, not-true v t)

            pub can_give : not v ≡ false → 1 ≡ gives_back s d
            unfolding gives_back same_entries
            can_give t = rw (j₁, j₂, ← e₃, not-false r rt, ← e₄, not-false v t)

-- WHAT CAN BE GIVEN BACK HAS THE RIGHT LENGTH
pub gives_same : (s d : List ℕ) → gives_back s d ≡ 1 → same_entries s d ≡ true
unfolding gives_back
gives_same s d e = go (same_entries s d) refl e
  where
    go : (t : Bool) → same_entries s d ≡ t → ◌≡◌ {A = ℕ} (cond t (cond (low_counts s d) 1 high_count) other_entries) 1 → same_entries s d ≡ true
    go true k f = k
    go false k f = absurd (omega arith)

pub gives_long : (s d : List ℕ) → gives_back s d ≡ 1 → length d ≡ front + entries_long s + bodies_long s
unfolding same_entries
gives_long s d e = eqb-true (length d) (front + entries_long s + bodies_long s) ((and_is _ _).0 (gives_same s d e)).0

-- entries and bodies given back
module _ (s d : List ℕ) (x : Extent) (hx : Extents s x) (hd : length d ≡ front + entries_long s + bodies_long s) where
  abbrev k : ℕ
  k = 2 + 12 * x.count

  one : take (k - 2) (drop 2 d) ≡ take (entries_long s) (drop front d)
  one = let e : k - 2 ≡ entries_long s = omega (arith, hx.count) in ap (λ (i : ℕ). take i (drop 2 d)) e

  two : take (length d - k) (drop k d) ≡ drop (front + entries_long s) d
  two =
      let e : k ≡ front + entries_long s = omega (arith, hx.count) in
      take_all (length d - k) (drop k d) (omega (arith, length-drop k d)) ∙ ap (λ (i : ℕ). drop i d) e

  -- at the right place, or nothing at all
  placed : (c o o' : ℕ) (t b : List ℕ) → (c ≡ 0 → b ≡ []) → ((c ≡ 0 → ⊥) → o ≡ o') → splice t o b ≡ splice t o' b
  placed zero o o' t b f g = rw (f refl) (splice_none t o ∙ sym (splice_none t o'))
  placed (suc c) o o' t b f g = ap (λ (i : ℕ). splice t i b) (g (λ z. omega arith))

  nothing : (b : List ℕ) → length b ≡ 0 → b ≡ []
  nothing [] e = refl
  nothing (y ∷ b) e = absurd (omega arith)

  no_bodies : x.count ≡ 0 → bodies_long s ≡ 0
  unfolding start_of
  no_bodies z = ap (λ (i : ℕ). end_from s properties (start_of s properties) i - start_of s properties) (sym hx.count ∙ z) ∙ omega arith

  pub given_steps :
      (e₀ : ℕ) (t u : List ℕ) → e₀ ≡ k → t ≡ splice s x.entries (take (e₀ - 2) (drop 2 d)) → u ≡ splice t x.from (take (length d - e₀) (drop e₀ d)) → u ≡ restored s d
  unfolding restored
  given_steps e₀ t u o p q =
      let e : t ≡ splice s x.entries (take (k - 2) (drop 2 d)) = p ∙ ap (λ (i : ℕ). splice s x.entries (take (i - 2) (drop 2 d))) o in
      let f : u ≡ splice t x.from (take (length d - k) (drop k d)) = q ∙ ap (λ (i : ℕ). splice t x.from (take (length d - i) (drop i d))) o in
      let a : List ℕ = take (entries_long s) (drop front d) in
      let b : List ℕ = drop (front + entries_long s) d in
      let t-is : t ≡ splice s (base s properties) a =
      e ∙ ap (splice s x.entries) one
      ∙ placed x.count x.entries (base s properties) s a (λ z. let q : entries_long s ≡ 0 = omega (arith, hx.count) in rw q) hx.base
      in
      f ∙ ap₂ (λ (l m : List ℕ). splice l x.from m) t-is two
      ∙ placed x.count x.from (start_of s properties) (splice s (base s properties) a) b
      (λ z. nothing b (length-drop (front + entries_long s) d ∙ omega (arith, hd, no_bodies z))) hx.start

-- the table of a store that passes
pub table_there : (s : List ℕ) (n : ℕ) → store_rule s ≡ 0 → IsNum s 0 2 65536 n → Tabled s n
table_there s n ok hn = let m = heads s ok in record { few = omega (arith, m, hn.value); room = omega (arith, m, hn.value) }

pub count_there : (s : List ℕ) → store_rule s ≡ 0 → 1 < length s
count_there s ok = omega (arith, heads s ok)

-- the version with a number
module _ (s : List ℕ) (x n i : ℕ) (ok : store_rule s ≡ 0) (hn : IsNum s 0 2 65536 n) (f : Found s n x i) where
  pub no_version : n ≤ i → Placed s x None
  unfolding kept is_kept
  no_version l = missed s x (head.count of s) 8 (λ j o e. f.before j (omega (arith, hn.value)) e)

  module _ (p : ℕ) (o : p ≡ table_end i) (h : i < n) where
    pub row_there : i ≤ 8
    row_there = omega (arith, heads s ok, hn.value)

    pub offset_there : p + (row.offset).at + 1 < length s
    offset_there = omega (arith, heads s ok, hn.value)

    pub long_there : p + (row.long).at + 1 < length s
    long_there = omega (arith, heads s ok, hn.value)

    pub some_version :
        (a l : ℕ) → Octets s → IsNum s (p + (row.offset).at) 2 65536 a → IsNum s (p + (row.long).at) 2 65536 l →
        Placed s x (Some record { at = a; long = l })
    unfolding kept version_at is_kept version_in
    some_version a l b ga gl =
        let ha : IsNum s (table_end i + (row.offset).at) 2 65536 a = subst (λ (q : ℕ). IsNum s (q + (row.offset).at) 2 65536 a) o ga in
        let hl : IsNum s (table_end i + (row.long).at) 2 65536 l = subst (λ (q : ℕ). IsNum s (q + (row.long).at) 2 65536 l) o gl in
        let m = heads s ok in
        let c : Chosen s n i = record { good = ok; all = hn.value; below = h; tabled = record { few = omega (arith, m, hn.value); room = omega (arith, m, hn.value) } } in
        let stood = body_stands b c in
        let e : i + suc (n - (i + 1)) ≡ head.count of s = omega (arith, hn.value) in
        let g = found s x i (n - (i + 1)) 8 (λ j o q. f.before j o q) (f.here h) in
        let k = body_found s x i (n - (i + 1)) 8 (λ j o q. f.before j o q) (f.here h) in (
          ap (λ (j : ℕ). has x (versions_from s 8 j)) (sym e) ∙ g,
          omega (arith, stood.within, stood.room, ha.value, hl.value),
          ap₂ (λ (j o : ℕ). take j (drop o s)) hl.value ha.value ∙ sym (ap (λ (j : ℕ). body_of x (versions_from s 8 j)) (sym e) ∙ k),
        )

-- the whole call
module _ (q : Session) (sheet s : List ℕ) (x : ℕ) where
  no : (o : ℕ) → o ≡ restore_outcome q sheet s x → (o ≡ 1 → ⊥) → RestoredAs q sheet s x o sheet
  unfolding restore_sheet
  no o e n =
      let t : eqb (restore_outcome q sheet s x) 1 ≡ false = ne_eqb (restore_outcome q sheet s x) 1 (λ k. n (e ∙ k)) in
      record { outcome = e; after = rw t }

  pub bad_sheet_lem : (e : Refusal) (r : Refused) → number_of e ≡ sheet_number r → sheet_number r ≡ refusal_of sheet → RestoredAs q sheet s x (number_of e) sheet
  unfolding restore_outcome is_store
  bad_sheet_lem e r a h =
      let n : refusal_of sheet ≡ 0 → ⊥ = λ z. never_none e (a ∙ h ∙ z) in
      no (number_of e) (sym (rw (ne_eqb (refusal_of sheet) 0 n) (sym (a ∙ h)))) (never_done e)

  module _ (h : 0 ≡ refusal_of sheet) where
    t₁ : eqb (refusal_of sheet) 0 ≡ true
    t₁ = eq-eqb (refusal_of sheet) 0 (sym h)

    pub bad_store_lem : (e : Refusal) → number_of e ≡ store_rule s → RestoredAs q sheet s x (number_of e) sheet
    unfolding restore_outcome is_store
    bad_store_lem e k =
        let f = store_refused s e k in
        no (number_of e) (rw (t₁, ne_eqb (store_rule s) 0 f.1) f.0) (never_done e)

    module _ (k0 : 0 ≡ store_rule s) where
      t₂ : eqb (store_rule s) 0 ≡ true
      t₂ = eq-eqb (store_rule s) 0 (sym k0)

      pub not_kept_lem : Placed s x None → RestoredAs q sheet s x not_kept sheet
      unfolding restore_outcome is_store
      not_kept_lem n = no not_kept (rw (t₁, t₂, n)) (λ e. omega arith)

      module _ (v : Place) (hv : Placed s x (Some v)) where
        pub not_zero : false ≡ at_zero q → RestoredAs q sheet s x not_at_zero sheet
        unfolding restore_outcome is_store
        not_zero n = no not_at_zero (rw (t₁, t₂, hv.0, ← n)) (λ e. omega arith)

        module _ (z : true ≡ at_zero q) (o : ℕ) (ho : o ≡ gives_back sheet (take (v.at + v.long - v.at) (drop v.at s))) where
          same_d : take (v.at + v.long - v.at) (drop v.at s) ≡ version_in s x
          same_d =
              let e : v.at + v.long - v.at ≡ v.long = omega arith in
              ap (λ (i : ℕ). take i (drop v.at s)) e ∙ hv.2

          outcome_is : o ≡ restore_outcome q sheet s x
          unfolding restore_outcome is_store
          outcome_is = rw (t₁, t₂, hv.0, ← z) (ho ∙ ap (gives_back sheet) same_d)

          pub not_given : (e : Refusal) → o ≡ number_of e → RestoredAs q sheet s x (number_of e) sheet
          not_given e n = no (number_of e) (sym n ∙ outcome_is) (never_done e)

          pub was_restored : (t : List ℕ) → o ≡ 1 → t ≡ restored sheet (take (v.at + v.long - v.at) (drop v.at s)) → RestoredAs q sheet s x 1 t
          unfolding restore_sheet
          was_restored t o1 e =
              let u : eqb (restore_outcome q sheet s x) 1 ≡ true = eq-eqb (restore_outcome q sheet s x) 1 (sym outcome_is ∙ o1) in
              record { outcome = sym o1 ∙ outcome_is; after = rw u (e ∙ ap (restored sheet) same_d) }
