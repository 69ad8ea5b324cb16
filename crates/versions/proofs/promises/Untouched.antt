-- REFUSED, UNTOUCHED: what is refused leaves every byte, and gives no number.
use Rattle.octets.proofs.Kit.{ℕ, ◌≡◌, false, List, eqb, ne_eqb}
use Rattle.judge.specs.declared.Session.{Session}
use Rattle.versions.specs.{Saving.{save_outcome, save_number, save_store}, Restoring.{restore_outcome, restore_sheet}, Removing.{remove_outcome, remove_store}}

pub record Untouched (sheet s : List ℕ) : Type 0 where
  pub store : (save_outcome sheet s ≡ 0 → ⊥) → save_store sheet s ≡ s
  pub number : (save_outcome sheet s ≡ 0 → ⊥) → save_number sheet s ≡ 0
  pub restored : (q : Session) (x : ℕ) → (restore_outcome q sheet s x ≡ 1 → ⊥) → restore_sheet q sheet s x ≡ sheet
  pub left : (x : ℕ) → (remove_outcome s x ≡ 1 → ⊥) → remove_store s x ≡ s

pub refused_untouched : (sheet s : List ℕ) → Untouched sheet s
unfolding save_store save_number restore_sheet remove_store
refused_untouched sheet s =
    record {
      store = λ n. let t : eqb (save_outcome sheet s) 0 ≡ false = ne_eqb (save_outcome sheet s) 0 n in rw t;
      number = λ n. let t : eqb (save_outcome sheet s) 0 ≡ false = ne_eqb (save_outcome sheet s) 0 n in rw t;
      restored = λ q x n. let t : eqb (restore_outcome q sheet s x) 1 ≡ false = ne_eqb (restore_outcome q sheet s x) 1 n in rw t;
      left = λ x n. let t : eqb (remove_outcome s x) 1 ≡ false = ne_eqb (remove_outcome s x) 1 n in rw t;
    }
