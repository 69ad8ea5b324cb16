-- Memory, from what the parts ensure.
use Rattle.octets.proofs.Kit.{ℕ, ◌≡◌, List, Bool, true, false}
use Rattle.std.specs.Prelude.{Option, None, Some}
use Rattle.sheet.specs.{Lookup.range_of, declared.{Memory.{Memory, TheVariants.Device}}}
use Rattle.pdu.specs.declared.Pdu.{Pdu}
use Rattle.judge.specs.{declared.{Access.{Access, TheVariants.{Read, Write, Change}}, Answer.Answer, Store.Store, Decision.Decision}, Decisions.{denied, answered}}
use Rattle.judge.specs.Memory.{most_bytes, most_bits, response_of, run_allowed, run_at, Placed, verifies, memory_read_of, change_of, memory_write_of, bit_write_of}
use Rattle.judge.specs.declared.Store.TheVariants as store
use Rattle.judge.specs.declared.Answer.TheVariants as answer

module _ (s : List ℕ) (m : Memory) (level n a : ℕ) (f : Option ℕ) (r : Decision) where
  none : (w : Access) (most : ℕ) → Placed w most level n (range_of s m a n) f → f ≡ None → run_allowed w most level n (range_of s m a n) ≡ false
  none w most g e = rw e at g.none

  some :
      (w : Access) (most o : ℕ) → Placed w most level n (range_of s m a n) f → f ≡ Some o →
      (run_allowed w most level n (range_of s m a n) ≡ true) × (o ≡ run_at (range_of s m a n))
  some w most o g e = rw e at g.some

  module _ (most : ℕ) (most-is : most ≡ most_bytes m) where
    pub read_denied :
        Placed Read most level n (range_of s m a n) f → f ≡ None → (p : Pdu) → p ≡ response_of m 0 a → r ≡ denied p → r ≡ memory_read_of s m level n a
    unfolding memory_read_of
    read_denied g e p p-is h = simp (← most-is, none Read most g e, ← p-is) h

    pub read_run :
        (o : ℕ) → Placed Read most level n (range_of s m a n) f → f ≡ Some o → (x : Answer) → x ≡ answer.Sheet (response_of m n a) o n → r ≡ answered x →
        r ≡ memory_read_of s m level n a
    unfolding memory_read_of
    read_run o g e x x-is h = let k = some Read most o g e in simp (← most-is, k.0, ← k.1, ← x-is) h

    module _ (v : Bool) (v_is : v ≡ verifies s) where
      pub unwritten_at :
          Placed Write most level n (range_of s m a n) f → f ≡ None →
          ((new : Store) (o : ℕ) → r ≡ change_of m false v new o n a) → r ≡ memory_write_of s m level n a
      unfolding memory_write_of
      unwritten_at g e h = simp (← most-is, none Write most g e, ← v_is) (h _ _)

      pub written_at :
          (o : ℕ) → Placed Write most level n (range_of s m a n) f → f ≡ Some o → r ≡ change_of m true v (store.Data 0 o) o n a →
          r ≡ memory_write_of s m level n a
      unfolding memory_write_of
      written_at o g e h = let k = some Write most o g e in simp (← most-is, k.0, ← k.1, ← v_is) h

module _ (s : List ℕ) (level n a : ℕ) (f : Option ℕ) (r : Decision) (v : Bool) (v_is : v ≡ verifies s) where
  pub unchanged_at :
      Placed Change most_bits level n (range_of s Device a n) f → f ≡ None →
      ((new : Store) (o : ℕ) → r ≡ change_of Device false v new o n a) → r ≡ bit_write_of s level n a
  unfolding bit_write_of
  unchanged_at g e h = simp (none s Device level n a f r Change most_bits g e, ← v_is) (h _ _)

  pub changed_at :
      (o : ℕ) → Placed Change most_bits level n (range_of s Device a n) f → f ≡ Some o → r ≡ change_of Device true v (store.Bits o n) o n a →
      r ≡ bit_write_of s level n a
  unfolding bit_write_of
  changed_at o g e h = let k = some s Device level n a f r Change most_bits o g e in simp (k.0, ← k.1, ← v_is) h
