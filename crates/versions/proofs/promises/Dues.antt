-- WHAT IS DONE IS WHAT IS DUE, and nothing else is due.
use Rattle.octets.proofs.Kit.{ℕ, ◌≤◌, ◌<◌, ◌≡◌, refl, sym, subst⁻¹, ◌∙◌, true, cond, List, ◌↔◌, ◌⊎◌, inl, inr, arith, eqb, length, eq-eqb, ne_eqb, lt-ltb, le-ltb, eqb-true}
use Rattle.octets.proofs.{Truths.{never, and_is, must_fail}, Walks.{by_test, by_eq, by_lt}}
use Rattle.sheet.{specs.{Layout.◌of◌, Rules.{refusal_of, Accepted, Old, Bad}}, proofs.promises.Verdicts.{one_of_three, refused_none, refused_old, refused_bad, unrefused}}
use Rattle.judge.specs.declared.Session.{Session}
use Rattle.versions.specs.{Store.{kept, places, is_kept, version_in}, Rules.{store_rule, Passes, is_store}}
use Rattle.versions.specs.Saving.{needed, last_number, next_number, saved, save_outcome, save_number, save_store, no_room, no_place, no_number}
use Rattle.versions.specs.{Settings.{settings_of, restored, SameEntries, LowCounts}, Restoring.{same_entries, low_counts, gives_back, at_zero, restore_outcome, restore_sheet}}
use Rattle.versions.specs.{Removing.{removed, remove_outcome, remove_store}, Due.{Ready, SaveDue, no_sheet, old_sheet, no_store, last_given, all_taken, too_long, is_saved, AtZero, Known}}
use Rattle.versions.specs.Due.{RestoreDue, sheet_refused, sheet_old, store_refused, unknown_number, not_open, differs, too_high, is_restored, RemoveDue, bad_one, unknown, is_removed}
use Rattle.versions.specs.Head as head
use Rattle.versions.proofs.promises.Agreeing.{same_entries_lem, entries_same, low_counts_lem, counts_low}

-- what holds of 14 on an old sheet and of 4 on a bad one holds of what refuses it
by_refusal : (P : ℕ → Type 0) (sheet : List ℕ) → (Old sheet → P 14) → (Bad sheet → P 4) → (refusal_of sheet ≡ 0 → ⊥) → P (refusal_of sheet)
by_refusal P sheet o b n = go (one_of_three sheet)
  where
    go : Accepted sheet ⊎ (Old sheet ⊎ Bad sheet) → P (refusal_of sheet)
    go (inl a) = absurd (n (refused_none sheet a))
    go (inr (inl h)) = subst⁻¹ P (refused_old sheet h) (o h)
    go (inr (inr h)) = subst⁻¹ P (refused_bad sheet h) (b h)

module _ (sheet s : List ℕ) where
  accept : Accepted sheet → eqb (refusal_of sheet) 0 ≡ true
  accept ok = eq-eqb (refusal_of sheet) 0 (refused_none sheet ok)

  pass : Ready sheet s → eqb (store_rule s) 0 ≡ true
  pass h = eq-eqb (store_rule s) 0 h.good

  abbrev d : List ℕ
  d = settings_of sheet

  -- SAVING
  pub save_due : SaveDue sheet s (save_outcome sheet s) (save_number sheet s) (save_store sheet s)
  unfolding save_outcome save_number save_store is_store
  save_due =
      let P : ℕ → Type 0 = λ r. SaveDue sheet s r (cond (eqb r 0) (next_number s) 0) (cond (eqb r 0) (saved s d) s) in
      by_eq P (refusal_of sheet) 0 _ _
      (λ ok.
      by_eq P (store_rule s) 0 _ _
      (λ sound.
      let h : Ready sheet s = record { accepted = unrefused sheet ok; good = sound } in
      by_eq P (head.last of s) last_number _ _
      (λ e. last_given h e)
      (λ n.
      by_eq P (length (kept s)) places _ _
      (λ e. all_taken h n e)
      (λ m. by_lt P (length s) (needed (kept s) d) _ _ (λ l. too_long h n m l) (λ l. is_saved h n m l))))
      (λ bad. no_store (unrefused sheet ok) bad))
      (by_refusal P sheet (λ o. old_sheet o) (λ b. no_sheet b))

  pub save_only :
      (r n : ℕ) (t : List ℕ) → SaveDue sheet s r n t → (r ≡ save_outcome sheet s) × (n ≡ save_number sheet s) × (t ≡ save_store sheet s)
  unfolding save_outcome save_number save_store is_store
  save_only r n t (no_sheet f) = rw (refused_bad sheet f) (refl, refl, refl)
  save_only r n t (old_sheet f) = rw (refused_old sheet f) (refl, refl, refl)
  save_only r n t (no_store ok bad) = rw (accept ok, ne_eqb (store_rule s) 0 bad) (refl, refl, refl)
  save_only r n t (last_given h e) = rw (accept h.accepted, pass h, eq-eqb (head.last of s) last_number e) (refl, refl, refl)
  save_only r n t (all_taken h l e) =
      rw (accept h.accepted, pass h, ne_eqb (head.last of s) last_number l, eq-eqb (length (kept s)) places e) (refl, refl, refl)
  save_only r n t (too_long h l m k) =
      rw (accept h.accepted, pass h, ne_eqb (head.last of s) last_number l, ne_eqb (length (kept s)) places m, lt-ltb (length s) (needed (kept s) d) k) (refl, refl, refl)
  save_only r n t (is_saved h l m k) =
      rw (accept h.accepted, pass h, ne_eqb (head.last of s) last_number l, ne_eqb (length (kept s)) places m, le-ltb (length s) (needed (kept s) d) k) (refl, refl, refl)

  -- what outcome 0 says
  pub record Free : Type 0 where
    pub ready : Ready sheet s
    pub number : head.last of s ≡ last_number → ⊥
    pub place : length (kept s) ≡ places → ⊥
    pub room : needed (kept s) d ≤ length s

  -- and each of the last three refusals
  record Told (r : ℕ) : Type 0 where
    free : r ≡ 0 → Free
    number : r ≡ no_number → head.last of s ≡ last_number
    place : r ≡ no_place → length (kept s) ≡ places
    room : r ≡ no_room → length s < needed (kept s) d

  told : {r n : ℕ} {t : List ℕ} → SaveDue sheet s r n t → Told r
  told (no_sheet f) = record { free = λ e. absurd (omega arith); number = λ e. absurd (omega arith); place = λ e. absurd (omega arith); room = λ e. absurd (omega arith) }
  told (old_sheet f) = record { free = λ e. absurd (omega arith); number = λ e. absurd (omega arith); place = λ e. absurd (omega arith); room = λ e. absurd (omega arith) }
  told (no_store ok bad) = record { free = λ e. absurd (omega arith); number = λ e. absurd (omega arith); place = λ e. absurd (omega arith); room = λ e. absurd (omega arith) }
  told (last_given h q) = record { free = λ e. absurd (omega arith); number = λ e. q; place = λ e. absurd (omega arith); room = λ e. absurd (omega arith) }
  told (all_taken h l q) = record { free = λ e. absurd (omega arith); number = λ e. absurd (omega arith); place = λ e. q; room = λ e. absurd (omega arith) }
  told (too_long h l m k) = record { free = λ e. absurd (omega arith); number = λ e. absurd (omega arith); place = λ e. absurd (omega arith); room = λ e. k }
  told (is_saved h l m k) =
      record { free = λ e. record { ready = h; number = l; place = m; room = k }; number = λ e. absurd (omega arith); place = λ e. absurd (omega arith); room = λ e. absurd (omega arith) }

  pub save_free : save_outcome sheet s ≡ 0 → Free
  save_free = (told save_due).free

  -- NUMBERS: refused for them exactly if the last one has been given
  pub numbers_exactly : Ready sheet s → (save_outcome sheet s ≡ no_number) ↔ (head.last of s ≡ last_number)
  numbers_exactly h = ((told save_due).number, λ e. sym (save_only no_number 0 s (last_given h e)).0)

  -- PLACES: refused for them exactly if eight are kept
  pub places_exactly :
      Ready sheet s → (head.last of s ≡ last_number → ⊥) → (save_outcome sheet s ≡ no_place) ↔ (length (kept s) ≡ places)
  places_exactly h l = ((told save_due).place, λ e. sym (save_only no_place 0 s (all_taken h l e)).0)

  -- ROOM: refused for it exactly if all together exceed the buffer
  pub save_tight : save_outcome sheet s ≡ no_room → length s < needed (kept s) d
  save_tight = (told save_due).room

  pub room_exactly :
      Ready sheet s → (head.last of s ≡ last_number → ⊥) → (length (kept s) ≡ places → ⊥) →
      (save_outcome sheet s ≡ no_room) ↔ (length s < needed (kept s) d)
  room_exactly h l m = (save_tight, λ e. sym (save_only no_room 0 s (too_long h l m e)).0)

-- REMOVING
module _ (s : List ℕ) (x : ℕ) where
  pub remove_due : RemoveDue s x (remove_outcome s x) (remove_store s x)
  unfolding remove_outcome remove_store is_store
  remove_due =
      let P : ℕ → Type 0 = λ r. RemoveDue s x r (cond (eqb r 1) (removed s x) s) in
      by_eq P (store_rule s) 0 _ _
      (λ ok. by_test P (is_kept s x) _ _ (λ e. is_removed ok e) (λ e. unknown ok e))
      (λ bad. bad_one bad)

  pub remove_only : (r : ℕ) (t : List ℕ) → RemoveDue s x r t → (r ≡ remove_outcome s x) × (t ≡ remove_store s x)
  unfolding remove_outcome remove_store is_store
  remove_only r t (bad_one bad) = rw (ne_eqb (store_rule s) 0 bad) (refl, refl)
  remove_only r t (unknown ok e) = rw (eq-eqb (store_rule s) 0 ok, e) (refl, refl)
  remove_only r t (is_removed ok e) = rw (eq-eqb (store_rule s) 0 ok, e) (refl, refl)

  -- what outcome 1 says
  pub remove_told : remove_outcome s x ≡ 1 → Passes s × (is_kept s x ≡ true)
  remove_told = told remove_due
    where
      told : {r : ℕ} {t : List ℕ} → RemoveDue s x r t → r ≡ 1 → Passes s × (is_kept s x ≡ true)
      told (bad_one bad) e = absurd (omega arith)
      told (unknown ok h) e = absurd (omega arith)
      told (is_removed ok h) e = (ok, h)

-- a session open at level 0
module _ (q : Session) where
  pub zero_told : at_zero q ≡ true → AtZero q
  unfolding at_zero
  zero_told e = let p = (and_is q.opened (eqb q.level 0)).0 e in record { opened = p.0; level = eqb-true q.level 0 p.1 }

  pub zero_test : AtZero q → at_zero q ≡ true
  unfolding at_zero
  zero_test h = (and_is q.opened (eqb q.level 0)).1 (h.opened, eq-eqb q.level 0 h.level)

  -- RESTORING
  module _ (sheet s : List ℕ) (x : ℕ) where
    abbrev v : List ℕ
    v = version_in s x

    pub restore_due : RestoreDue q sheet s x (restore_outcome q sheet s x) (restore_sheet q sheet s x)
    unfolding restore_outcome restore_sheet is_store gives_back
    restore_due =
        let P : ℕ → Type 0 = λ r. RestoreDue q sheet s x r (cond (eqb r 1) (restored sheet v) sheet) in
        by_eq P (refusal_of sheet) 0 _ _
        (λ ok.
        by_eq P (store_rule s) 0 _ _
        (λ sound.
        let h : Ready sheet s = record { accepted = unrefused sheet ok; good = sound } in
        by_test P (is_kept s x) _ _
        (λ e.
        let k : Known sheet s x = record { ready = h; there = e } in
        by_test P (at_zero q) _ _
        (λ z.
        by_test P (same_entries sheet v) _ _
        (λ f.
        by_test P (low_counts sheet v) _ _
        (λ l. is_restored k (zero_told z) (same_entries_lem sheet v f) (low_counts_lem sheet v l))
        (λ l. too_high k (zero_told z) (same_entries_lem sheet v f) (λ i. never (sym l ∙ counts_low sheet v i))))
        (λ f. differs k (zero_told z) (λ i. never (sym f ∙ entries_same sheet v i))))
        (λ z. not_open k (λ i. never (sym z ∙ zero_test i))))
        (λ e. unknown_number h e))
        (λ bad. store_refused (unrefused sheet ok) bad))
        (by_refusal P sheet (λ o. sheet_old o) (λ b. sheet_refused b))

    pub restore_only : (r : ℕ) (t : List ℕ) → RestoreDue q sheet s x r t → (r ≡ restore_outcome q sheet s x) × (t ≡ restore_sheet q sheet s x)
    unfolding restore_outcome restore_sheet is_store gives_back
    restore_only r t (sheet_refused f) = rw (refused_bad sheet f) (refl, refl)
    restore_only r t (sheet_old f) = rw (refused_old sheet f) (refl, refl)
    restore_only r t (store_refused ok bad) = rw (accept sheet s ok, ne_eqb (store_rule s) 0 bad) (refl, refl)
    restore_only r t (unknown_number h e) = rw (accept sheet s h.accepted, pass sheet s h, e) (refl, refl)
    restore_only r t (not_open k n) =
        rw (accept sheet s k.ready.accepted, pass sheet s k.ready, k.there, must_fail (at_zero q) (λ z. n (zero_told z))) (refl, refl)
    restore_only r t (differs k z n) =
        rw (accept sheet s k.ready.accepted, pass sheet s k.ready, k.there, zero_test z, must_fail (same_entries sheet v) (λ u. n (same_entries_lem sheet v u))) (refl, refl)
    restore_only r t (too_high k z f n) =
        rw (accept sheet s k.ready.accepted, pass sheet s k.ready, k.there, zero_test z, entries_same sheet v f, must_fail (low_counts sheet v) (λ u. n (low_counts_lem sheet v u))) (refl, refl)
    restore_only r t (is_restored k z f l) =
        rw (accept sheet s k.ready.accepted, pass sheet s k.ready, k.there, zero_test z, entries_same sheet v f, counts_low sheet v l) (refl, refl)

    -- what outcome 1 says
    pub record Allowed : Type 0 where
      pub known : Known sheet s x
      pub zero : AtZero q
      pub same : SameEntries sheet v
      pub low : LowCounts sheet v

    pub allowed : restore_outcome q sheet s x ≡ 1 → Allowed
    allowed = told restore_due
      where
        told : {r : ℕ} {t : List ℕ} → RestoreDue q sheet s x r t → r ≡ 1 → Allowed
        told (sheet_refused f) e = absurd (omega arith)
        told (sheet_old f) e = absurd (omega arith)
        told (store_refused ok bad) e = absurd (omega arith)
        told (unknown_number h f) e = absurd (omega arith)
        told (not_open k n) e = absurd (omega arith)
        told (differs k z n) e = absurd (omega arith)
        told (too_high k z f n) e = absurd (omega arith)
        told (is_restored k z f l) e = record { known = k; zero = z; same = f; low = l }
