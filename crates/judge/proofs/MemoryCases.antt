-- What is decided about memory, case by case.
use Rattle.octets.proofs.Kit.{ℕ, ◌/◌, ◌%◌, ◌≤◌, ◌≡◌, refl, ap, ◌↔◌, true, ◌&&◌, List, leb, le-leb, leb-true, eq-eqb, ne_eqb}
use Rattle.octets.proofs.{Truths.{and_is, never}, Walks.{by_test, by_eq}}
use Rattle.std.proofs.Common.{Option, Some, None}
use Rattle.sheet.{specs.{Places.Ranged, Lookup.{At, range_of}, declared.{Memory.{Memory, TheVariants.Device}, Run.Run}}, proofs.rules.Good.Good}
use Rattle.sheet.proofs.promises.Runs.{ranged}
use Rattle.sheet.specs.Head as head
use Rattle.judge.specs.{declared.{Access.{Access, TheVariants.{Read, Write, Change}}, Store.Store, Decision.Decision}, Decisions.{refused, denied, answered, written, stored}}
use Rattle.judge.specs.Memory.{may_read, may_write, may, most_bytes, most_bits, response_of, verifies, run_allowed, run_at, memory_read_of, change_of, memory_write_of, bit_write_of}
use Rattle.judge.specs.declared.Store.TheVariants as store
use Rattle.judge.specs.declared.Answer.TheVariants as answer

-- a level suffices for an access
abbrev pub Suffices : Access → ℕ → ℕ → Type 0
Suffices Read level levels = level ≤ levels / 16
Suffices Write level levels = level ≤ levels % 16
Suffices Change level levels = (level ≤ levels / 16) × (level ≤ levels % 16)

may_is : (w : Access) (level levels : ℕ) → (may w level levels ≡ true) ↔ Suffices w level levels
may_is Read m n = (λ e. leb-true m (n / 16) e, λ h. le-leb m (n / 16) h)
may_is Write m n = (λ e. leb-true m (n % 16) e, λ h. le-leb m (n % 16) h)
may_is Change m n = (
  λ e. let h = (and_is (may_read m n) (may_write m n)).0 e in (leb-true m (n / 16) h.0, leb-true m (n % 16) h.1),
  λ h. (and_is (may_read m n) (may_write m n)).1 (le-leb m (n / 16) h.0, le-leb m (n % 16) h.1),
)

-- the n addresses from a on, 1 to most, of a memory are the run from o on, under levels for which the level suffices
pub record Permits (w : Access) (most : ℕ) (s : List ℕ) (m : Memory) (level n a o : ℕ) : Type 0 where
  pub some : 1 ≤ n
  pub few : n ≤ most
  pub levels : ℕ
  pub run : range_of s m a n ≡ At o levels
  pub suffices : Suffices w level levels

-- in a good sheet they stand there
pub range_in : {w : Access} {most : ℕ} {s : List ℕ} {m : Memory} {level n a o : ℕ} → Good s → (p : Permits w most s m level n a o) → Ranged s m a n o p.levels
range_in {m = m} {n = n} {a = a} ok p = ranged ok m a n p.run

module _ (w : Access) (most : ℕ) (s : List ℕ) (m : Memory) (level n a : ℕ) where
  -- what is permitted stands in the sheet
  pub record Found : Type 0 where
    pub at : ℕ
    pub permits : Permits w most s m level n a at
    pub here : run_at (range_of s m a n) ≡ at

  pub allowed_in : run_allowed w most level n (range_of s m a n) ≡ true → Found
  allowed_in e = go (range_of s m a n) refl e
    where
      go : (r : Option Run) → range_of s m a n ≡ r → run_allowed w most level n r ≡ true → Found
      go None q e = never e
      go (Some r) q e =
          let h = (and_is (leb 1 n && leb n most) (may w level r.levels)).0 e in
          let b = (and_is (leb 1 n) (leb n most)).0 h.0 in
          record {
            at = r.offset;
            permits =
                record {
                  some = leb-true 1 n b.0;
                  few = leb-true n most b.1;
                  levels = r.levels;
                  run = q;
                  suffices = (may_is w level r.levels).0 h.1;
                };
            here = ap run_at q;
          }

  -- and what is permitted is allowed
  module _ (o : ℕ) (p : Permits w most s m level n a o) where
    pub allowed_is : run_allowed w most level n (range_of s m a n) ≡ true
    allowed_is = rw p.run (simp (le-leb 1 n p.some, le-leb n most p.few, (may_is w level _).1 p.suffices))

    pub run_is : run_at (range_of s m a n) ≡ o
    run_is = ap run_at p.run

-- A READ
module _ (s : List ℕ) (m : Memory) (level n a : ℕ) where
  pub memory_read_cases :
      (P : Decision → Type 0) →
      ((o : ℕ) → Permits Read (most_bytes m) s m level n a o → P (answered (answer.Sheet (response_of m n a) o n))) →
      P (denied (response_of m 0 a)) → P (memory_read_of s m level n a)
  unfolding memory_read_of
  memory_read_cases P f h =
      by_test P (run_allowed Read (most_bytes m) level n (range_of s m a n)) _ _
      (λ e.
      let r = allowed_in Read (most_bytes m) s m level n a e in
      rw r.here (f r.at r.permits))
      (λ e. h)

  pub memory_reads :
      (o : ℕ) → Permits Read (most_bytes m) s m level n a o →
      memory_read_of s m level n a ≡ answered (answer.Sheet (response_of m n a) o n)
  unfolding memory_read_of
  memory_reads o p =
      simp (allowed_is Read (most_bytes m) s m level n a o p, run_is Read (most_bytes m) s m level n a o p)

-- A WRITE, of bytes or of bits: an access, the most bytes that it may name, and what it stores at a place
module _ (w : Access) (most : ℕ) (new : ℕ → Store) (s : List ℕ) (m : Memory) (level n a : ℕ) where
  abbrev pub changed : Decision
  changed =
      change_of m (run_allowed w most level n (range_of s m a n)) (verifies s) (new (run_at (range_of s m a n))) (run_at (range_of s m a n)) n a

  abbrev pub verified : ℕ → Decision
  verified o = written (new o) store.Nothing (answer.Sheet (response_of m n a) o n)

  pub change_cases :
      (P : Decision → Type 0) →
      ((o : ℕ) → Permits w most s m level n a o → head.verify s ≡ 1 → P (verified o)) →
      ((o : ℕ) → Permits w most s m level n a o → (head.verify s ≡ 1 → ⊥) → P (stored (new o))) →
      (head.verify s ≡ 1 → P (denied (response_of m 0 a))) →
      ((head.verify s ≡ 1 → ⊥) → P (refused 12)) → P changed
  unfolding change_of
  change_cases P f g h u =
      by_test P (run_allowed w most level n (range_of s m a n)) _ _
      (λ e.
      let r = allowed_in w most s m level n a e in
      by_eq P (head.verify s) 1 _ _ (λ v. rw r.here (f r.at r.permits v)) (λ v. rw r.here (g r.at r.permits v)))
      (λ e. by_eq P (head.verify s) 1 _ _ h u)

  -- AND BACK: the place where the range stands decides
  module _ (o : ℕ) (p : Permits w most s m level n a o) where
    pub change_writes : head.verify s ≡ 1 → changed ≡ verified o
    unfolding change_of
    change_writes v = simp (allowed_is w most s m level n a o p, run_is w most s m level n a o p, eq-eqb (head.verify s) 1 v)

    pub change_stores : (head.verify s ≡ 1 → ⊥) → changed ≡ stored (new o)
    unfolding change_of
    change_stores v = simp (allowed_is w most s m level n a o p, run_is w most s m level n a o p, ne_eqb (head.verify s) 1 v)

-- the two writes
pub memory_write_is :
    (s : List ℕ) (m : Memory) (level n a : ℕ) → memory_write_of s m level n a ≡ changed Write (most_bytes m) (store.Data 0) s m level n a
unfolding memory_write_of
memory_write_is s m level n a = refl

pub bit_write_is : (s : List ℕ) (level n a : ℕ) → bit_write_of s level n a ≡ changed Change most_bits (λ o. store.Bits o n) s Device level n a
unfolding bit_write_of
bit_write_is s level n a = refl
