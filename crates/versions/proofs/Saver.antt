-- What `save` returns, case by case.
use Rattle.octets.proofs.Kit.{ℕ, ◌+◌, ◌-◌, ◌*◌, ◌≤◌, ◌<◌, ◌≡◌, sym, ap, ◌∙◌, true, false, List, arith, eqb, ltb, length, eq-eqb, ne_eqb, lt-ltb, le-ltb}
use Rattle.octets.specs.{Bytes.IsNum, Octets.Octets}
use Rattle.sheet.specs.{Layout.◌of◌, Rules.refusal_of, Refused.number_of as sheet_number, declared.Refused.Refused}
use Rattle.versions.specs.{Store.{places, table_end, bodies_of, kept}, Rules.{store_rule, is_store}, Ends.{end_of, end_from}, Walk.{Tabled, Ended, Extents, Appendable}}
use Rattle.versions.specs.{Settings.settings_of, Saving.{no_number, no_place, no_room, last_number, next_number, needed, save_outcome, save_number, save_store, SavedAs}, Steps.appended}
use Rattle.versions.specs.Refusal.{number_of}
use Rattle.versions.specs.declared.{settings.Extent.Extent, refusal.Refusal.Refusal}
use Rattle.versions.specs.Head as head
use Rattle.versions.proofs.{Laid.laid_long, Backs.heads, promises.Keeping.{it_keeps, kept_count, end_long}, Saves.settings_long, Grows.saved_is, Rows.store_refused, Refused.{never_none}}

-- the head and the table of a store that passes
module _ (s : List ℕ) (k : 0 ≡ store_rule s) where
  pub room_count : 1 < length s
  room_count = omega (arith, heads s (sym k))

  pub room_last : 3 < length s
  room_last = omega (arith, heads s (sym k))

  pub is_tabled : (n : ℕ) → IsNum s 0 2 65536 n → Tabled s n
  is_tabled n hn = let m = heads s (sym k) in record { few = omega (arith, m, hn.value); room = omega (arith, m, hn.value) }

-- a refusal leaves the store
module _ (sheet s : List ℕ) where
  no : (o : ℕ) → save_outcome sheet s ≡ o → (o ≡ 0 → ⊥) → SavedAs sheet s record { outcome = o; number = 0 } s
  unfolding save_number save_store
  no o e n =
      let t : eqb (save_outcome sheet s) 0 ≡ false = ne_eqb (save_outcome sheet s) 0 (λ k. n (sym e ∙ k)) in
      record { outcome = sym e; number = rw t; store = rw t }

  pub bad_sheet_lem : (e : Refusal) (r : Refused) → number_of e ≡ sheet_number r → sheet_number r ≡ refusal_of sheet → SavedAs sheet s record { outcome = number_of e; number = 0 } s
  unfolding save_outcome is_store
  bad_sheet_lem e r a h =
      let n : refusal_of sheet ≡ 0 → ⊥ = λ z. never_none e (a ∙ h ∙ z) in
      no (number_of e) (rw (ne_eqb (refusal_of sheet) 0 n) (sym (a ∙ h))) (never_none e)

  module _ (h : 0 ≡ refusal_of sheet) where
    t₁ : eqb (refusal_of sheet) 0 ≡ true
    t₁ = eq-eqb (refusal_of sheet) 0 (sym h)

    pub bad_store_lem : (e : Refusal) → number_of e ≡ store_rule s → SavedAs sheet s record { outcome = number_of e; number = 0 } s
    unfolding save_outcome is_store
    bad_store_lem e k =
        let f = store_refused s e k in
        no (number_of e) (rw (t₁, ne_eqb (store_rule s) 0 f.1) (sym f.0)) (never_none e)

    module _ (k : 0 ≡ store_rule s) where
      ok : store_rule s ≡ 0
      ok = sym k

      t₂ : eqb (store_rule s) 0 ≡ true
      t₂ = eq-eqb (store_rule s) 0 ok

      module _ (last : ℕ) (hl : IsNum s 2 2 65536 last) where
        pub no_number_lem : last ≡ last_number → SavedAs sheet s record { outcome = no_number; number = 0 } s
        unfolding save_outcome is_store
        no_number_lem e =
            let t : eqb (head.last of s) last_number ≡ true = eq-eqb (head.last of s) last_number (sym hl.value ∙ e) in
            no no_number (rw (t₁, t₂, t)) (λ e. omega arith)

        module _ (l0 : last ≡ last_number → ⊥) (n : ℕ) (hn : IsNum s 0 2 65536 n) where
          t₃ : eqb (head.last of s) last_number ≡ false
          t₃ = ne_eqb (head.last of s) last_number (λ e. l0 (hl.value ∙ e))

          pub no_place_lem : n ≡ places → SavedAs sheet s record { outcome = no_place; number = 0 } s
          unfolding save_outcome is_store
          no_place_lem e =
              let t : eqb (length (kept s)) places ≡ true = eq-eqb (length (kept s)) places (sym (hn.value ∙ kept_count s) ∙ e) in
              no no_place (rw (t₁, t₂, t₃, t)) (λ e. omega arith)

          module _ (n0 : n ≡ places → ⊥) (end : ℕ) (he : Ended s n end) (x : Extent) (hx : Extents sheet x) (long : ℕ)
              (hlong : (long ≡ 2 + (12 * x.count + (x.to - x.from))) × (long < 65536)) (b : Octets s) where
            count_long : n ≡ length (kept s)
            count_long = hn.value ∙ kept_count s

            t₄ : eqb (length (kept s)) places ≡ false
            t₄ = ne_eqb (length (kept s)) places (λ e. n0 (count_long ∙ e))

            end_is : end ≡ end_of s
            end_is = he.is ∙ ap (λ (i : ℕ). end_from s head.size (table_end i) i) hn.value

            end_far : end ≡ table_end n + length (bodies_of (kept s))
            end_far = end_is ∙ end_long s b ok ∙ laid_long (head.last of s) (kept s) ∙ omega (arith, count_long)

            size : long ≡ length (settings_of sheet)
            size = hlong.0 ∙ sym (settings_long sheet x hx)

            -- THE ROOM ASKED FOR
            room_is : needed (kept s) (settings_of sheet) ≡ end + 8 + long
            room_is = omega (arith, end_far, size, count_long)

            pub no_room_lem : length s < end + 8 + long → SavedAs sheet s record { outcome = no_room; number = 0 } s
            unfolding save_outcome is_store
            no_room_lem e =
                let t : ltb (length s) (needed (kept s) (settings_of sheet)) ≡ true = lt-ltb (length s) (needed (kept s) (settings_of sheet)) (rw room_is e) in
                no no_room (rw (t₁, t₂, t₃, t₄, t)) (λ e. omega arith)

            module _ (fits : end + 8 + long ≤ length s) where
              pub can_append : Appendable s sheet n end long x
              can_append =
                  let m = heads s ok in
                  record { extents = hx; few = omega (arith, m, hn.value); table = omega (arith, end_far); size = size; room = omega (arith, size) }

              pub was_saved : (t : List ℕ) → t ≡ appended s n end (last + 1) (settings_of sheet) → SavedAs sheet s record { outcome = 0; number = last + 1 } t
              unfolding save_number save_store save_outcome is_store
              was_saved t e =
                  let t₅ : ltb (length s) (needed (kept s) (settings_of sheet)) ≡ false = le-ltb (length s) (needed (kept s) (settings_of sheet)) (rw room_is fits) in
                  let o : needed (kept s) (settings_of sheet) ≤ length s = rw room_is fits in
                  let next : last + 1 ≡ next_number s = ap (λ (i : ℕ). i + 1) hl.value in
                  let m : ℕ = length (kept s) in
                  let same : appended s n end (last + 1) (settings_of sheet) ≡ appended s m (table_end m + length (bodies_of (kept s))) (next_number s) (settings_of sheet) =
                  rw (end_far, next) (ap (λ (i : ℕ). appended s i (table_end i + length (bodies_of (kept s))) (next_number s) (settings_of sheet)) count_long)
                  in
                  record {
                    outcome = rw (t₁, t₂, t₃, t₄, t₅);
                    number = rw (t₁, t₂, t₃, t₄, t₅) next;
                    store = rw (t₁, t₂, t₃, t₄, t₅) (e ∙ same ∙ saved_is (it_keeps s b ok) (settings_of sheet) o);
                  }
