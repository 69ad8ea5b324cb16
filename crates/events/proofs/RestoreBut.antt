-- A restore on two sheets that are the same but at some positions, and agree on what the rules read: the same outcome, and what it leaves differs there alone. Assumes nothing.
use Rattle.octets.proofs.Kit.{ℕ, ◌≡◌, refl, Bool, true, false, cond, List, eqb, arith, eqb-true}
use Rattle.sheet.{specs.{Kind.properties, Entries.base, Agree.AgreeBy, Rules.Accepted, But.But}, proofs.alike.{Buts.splice_but, Sames.{count_same, place_same, start_same}}}
use Rattle.judge.specs.declared.Session.{Session}
use Rattle.versions.specs.{Store.version_in, Settings.{entries_long, restored, SameEntries, LowCounts}, Restoring.{gives_back, restore_by, restore_outcome, restore_sheet}}
use Rattle.versions.proofs.promises.{Agreeing.{entries_to, low_to, same_entries_same, low_counts_same}, Dues.allowed}
use Rattle.versions.proofs.promises.Restores as re

-- both are accepted, and the same but at H
pub record BothBut (H : ℕ → Type 0) (s s' : List ℕ) : Type 0 where
  pub accepted : Accepted s
  pub accepted' : Accepted s'
  pub others : But H s s'

module _ {R : List ℕ → List ℕ → Type 0} {s s' : List ℕ} (agree : AgreeBy R s s') where
  -- where a version is given back
  pub long_same : entries_long s' ≡ entries_long s
  long_same = omega (arith, count_same agree properties)

  pub base_same : base s' properties ≡ base s properties
  base_same = omega (arith, place_same agree properties 0)

  -- THE SAME OUTCOME of two that are refused by the same number, or by none
  pub restored_alike : (q : Session) (st : List ℕ) (n m : ℕ) → restore_by m q s' st n ≡ restore_by m q s st n
  unfolding gives_back
  restored_alike q st n m = rw (same_entries_same agree (version_in st n), low_counts_same agree (version_in st n))

module _ {R : List ℕ → List ℕ → Type 0} {H : ℕ → Type 0} {s s' : List ℕ} (agree : AgreeBy R s s') (b : BothBut H s s') where
  restored_but : (d : List ℕ) → SameEntries s d → LowCounts s d → BothBut H (restored s d) (restored s' d)
  unfolding restored
  restored_but d same low =
      record {
        accepted = re.restored_accepted b.accepted same low;
        accepted' = re.restored_accepted b.accepted' (entries_to agree d same) (low_to agree d low);
        others =
            rw (long_same agree, base_same agree, start_same agree properties (omega arith))
            (splice_but (splice_but b.others _ _ (re.fits₁ b.accepted same)) _ _ (re.fits₂ b.accepted same));
      }

  module _ (q : Session) (st : List ℕ) (n : ℕ) where
    pub restore_outcome_lem : restore_outcome q s' st n ≡ restore_outcome q s st n
    unfolding restore_outcome
    restore_outcome_lem = rw (b.accepted, b.accepted') (restored_alike agree q st n 0)

    pub restore_but : BothBut H (restore_sheet q s st n) (restore_sheet q s' st n)
    unfolding restore_sheet
    restore_but = rw restore_outcome_lem (go (eqb (restore_outcome q s st n) 1) refl)
      where
        go : (t : Bool) → eqb (restore_outcome q s st n) 1 ≡ t → BothBut H (cond t (restored s (version_in st n)) s) (cond t (restored s' (version_in st n)) s')
        go true e = let k = allowed q s st n (eqb-true _ 1 e) in restored_but (version_in st n) k.same k.low
        go false e = b
