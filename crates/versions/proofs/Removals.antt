-- What the calls of `remove` leave and return, case by case.
use Rattle.std.specs.Prelude.{None, Some}
use Rattle.octets.proofs.Kit.{ℕ, ◌+◌, ◌≤◌, ◌<◌, ◌≡◌, sym, ◌∙◌, true, false, List, arith, eqb, length, eq-eqb, ne_eqb}
use Rattle.octets.specs.{Bytes.{IsNum}, Octets.Octets}
use Rattle.sheet.specs.Layout.{◌of◌}
use Rattle.versions.specs.{Store.{table_end, kept, has, is_kept}, Rules.{store_rule, Passes, is_store, not_kept}, Removing.{remove_outcome, remove_store, Removed}}
use Rattle.versions.specs.{Steps.{closed, taken_out}, Walk.{Tabled, FoundIn, Ended, Chosen, Stands}, Refusal.number_of, declared.refusal.Refusal.Refusal}
use Rattle.versions.specs.Head as head
use Rattle.versions.specs.Row as row
use Rattle.versions.proofs.{Backs.heads, Finds.missed, Chosen.{body_stands, was_kept, taken_is}, Rows.store_refused, Refused.never_done}

module _ (s : List ℕ) (n i a l e : ℕ) (c : Chosen s n i) (p : ℕ) (o : p ≡ table_end i) (ha : IsNum s (p + (row.offset).at) 2 65536 a) (hl : IsNum s (p + (row.long).at) 2 65536 l) (he : Ended s n e) where
  pub take_needs : Octets s → Tabled s n × (1 ≤ n) × Stands s p a l e
  take_needs b = (c.tabled, omega (arith, c.below), rw (ha.value, hl.value, he.is, o) (body_stands b c))

  pub take_steps : (t : List ℕ) → t ≡ closed s n p a l e → t ≡ taken_out s n i
  unfolding taken_out
  take_steps t q = q ∙ rw (ha.value, hl.value, he.is, o)

module _ (s : List ℕ) (x : ℕ) where
  no : (o : ℕ) → o ≡ remove_outcome s x → (o ≡ 1 → ⊥) → Removed s x o s
  unfolding remove_store
  no o e n =
      let t : eqb (remove_outcome s x) 1 ≡ false = ne_eqb (remove_outcome s x) 1 (λ k. n (e ∙ k)) in
      record { outcome = e; store = rw t }

  pub bad : (e : Refusal) → number_of e ≡ store_rule s → Removed s x (number_of e) s
  unfolding remove_outcome is_store
  bad e h = let f = store_refused s e h in no (number_of e) (rw (ne_eqb (store_rule s) 0 f.1) f.0) (never_done e)

  module _ (h : 0 ≡ store_rule s) where
    ok : Passes s
    ok = sym h

    test : eqb (store_rule s) 0 ≡ true
    test = eq-eqb (store_rule s) 0 ok

    pub is_headed : 1 < length s
    is_headed = omega (arith, heads s ok)

    module _ (n : ℕ) (k : IsNum s 0 2 65536 n) where
      pub is_tabled : Tabled s n
      is_tabled = let m = heads s ok in record { few = omega (arith, m, k.value); room = omega (arith, m, k.value) }

      pub not_there : FoundIn s n x None → Removed s x not_kept s
      unfolding remove_outcome is_store is_kept kept
      not_there f =
          let q : has x (kept s) ≡ false = missed s x (head.count of s) 8 (λ j o e. f.before j (omega (arith, k.value)) e) in
          no not_kept (rw (test, q)) (λ e. omega arith)

      module _ (i : ℕ) (f : FoundIn s n x (Some i)) where
        pub is_chosen : Chosen s n i
        is_chosen = record { good = ok; all = k.value; below = f.1; tabled = is_tabled }

        pub gone : Octets s → (t : List ℕ) → t ≡ taken_out s n i → Removed s x 1 t
        unfolding remove_outcome remove_store is_store
        gone b t e =
            let q : is_kept s x ≡ true = was_kept b is_chosen x f.0 in
            record { outcome = rw (test, q); store = rw (test, q) (e ∙ taken_is b is_chosen x f.0) }
