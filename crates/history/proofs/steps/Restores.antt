-- What a permitted restore needs, by the history.
use Rattle.octets.proofs.Kit.{ℕ, ◌<◌, ◌≡◌, Bool, true, List, [], ◌∷◌, eqb, dec_lt, arith, eqb-true, lt-ltb, le-ltb}
use Rattle.octets.proofs.Truths.{and_is}
use Rattle.versions.specs.{Store.{is_kept, version_in}, Rules.is_store, Settings.{SameEntries, LowCounts}, Restoring.{same_entries, low_counts}}
use Rattle.versions.proofs.promises.Agreeing.{same_entries_lem, entries_same, low_counts_lem, counts_low}
use Rattle.events.specs.Events.{Event, restore}
use Rattle.history.specs.{Wish.{change, restore_all}, Permit.{level_for, allowed}, History.{First, opened, level, permitted}}
use Rattle.history.proofs.spans.Bools.{all_at}

-- level 0, and no other, is 0 as a request has it
zero_level : (l : ℕ) → eqb (level_for 3 l) 0 ≡ true → l ≡ 0
unfolding level_for
zero_level l e = go (dec_lt 3 l)
  where
    go : Dec (3 < l) → l ≡ 0
    go (yes h) = let z : ◌≡◌ {A = ℕ} 3 0 = eqb-true 3 0 (rw (lt-ltb 3 l h) at e) in absurd (omega arith)
    go (no h) = eqb-true l 0 (rw (le-ltb 3 l (omega arith)) at e)

-- the number kept in a good store, the connection open at level 0, the entries those of the first sheet, no count too high
pub record Needs (f : First) (h : List Event) (c n : ℕ) (st : List ℕ) : Type 0 where
  pub store : is_store st ≡ true
  pub kept : is_kept st n ≡ true
  pub live : opened f h c ≡ true
  pub level : level f h c ≡ 0
  pub entries : SameEntries f.sheet (version_in st n)
  pub counts : LowCounts f.sheet (version_in st n)

module _ (f : First) (h : List Event) (c n : ℕ) (st : List ℕ) where
  abbrev D : List ℕ
  D = version_in st n

  abbrev Zero : Bool
  Zero = eqb (level_for 3 (level f h c)) 0

  -- A RESTORE IS ALLOWED AT LEVEL 0 ALONE, of the same entries, with counts that fit
  module _ (p : allowed f.sheet (level_for 3 (level f h c)) D (change restore_all) ≡ true) where
    at_zero : level f h c ≡ 0
    unfolding allowed
    at_zero = zero_level _ ((and_is Zero _).0 p).0

    same_kept : SameEntries f.sheet D
    unfolding allowed
    same_kept = same_entries_lem f.sheet D ((and_is (same_entries f.sheet D) _).0 ((and_is Zero _).0 p).1).0

    counts_kept : LowCounts f.sheet D
    unfolding allowed
    counts_kept =
        low_counts_lem f.sheet D
        ((and_is (low_counts f.sheet D) true).0 ((and_is (same_entries f.sheet D) _).0 ((and_is Zero _).0 p).1).1).0

  Tests : List Bool
  Tests =
      is_store st ∷ is_kept st n ∷ opened f h c ∷ allowed f.sheet (level_for 3 (level f h c)) D (change restore_all) ∷ []

  -- IT IS PERMITTED EXACTLY IF ALL THESE HOLD
  pub restore_needs : permitted f h (restore c n st) ≡ true → Needs f h c n st
  unfolding permitted Tests
  restore_needs p =
      record {
        store = all_at Tests p 0;
        kept = all_at Tests p 1;
        live = all_at Tests p 2;
        level = at_zero (all_at Tests p 3);
        entries = same_kept (all_at Tests p 3);
        counts = counts_kept (all_at Tests p 3);
      }

  pub needs_restore : Needs f h c n st → permitted f h (restore c n st) ≡ true
  unfolding permitted allowed level_for
  needs_restore k =
      rw (k.store, k.kept, k.live, k.level, entries_same f.sheet D k.entries, counts_low f.sheet D k.counts)
