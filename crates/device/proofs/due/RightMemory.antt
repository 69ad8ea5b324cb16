-- A read of memory: what is due is what is done.
use Rattle.octets.proofs.Kit.{ℕ, ◌≡◌, refl, sym, ap, subst, ◌∙◌, List, [], arith}
use Rattle.sheet.{specs.declared.Memory.{Memory, TheVariants.{Device, User}}, proofs.{rules.Good.{Good, good}, promises.Runs.range_hit}}
use Rattle.pdu.specs.declared.Pdu.{Pdu}
use Rattle.judge.specs.{declared.Decision.Decision, Session.level_in, Judge.decide_of, Memory.{most_bytes, response_of, memory_read_of}}
use Rattle.judge.proofs.MemoryCases.{Permits, range_in, memory_read_cases, memory_reads}
use Rattle.judge.specs.declared.Access.TheVariants as access
use Rattle.judge.specs.declared.Answer.TheVariants as answer
use Rattle.judge.specs.Decisions as decisions
use Rattle.device.specs.{Step.step_by, Asked.{Asked, says, Reads, given, part}, MemoryDue.{MemoryDue, reading, response, most_of, MemoryReadable, memory_read, no_memory_read}}
use Rattle.device.proofs.due.{Acts.{acts, acts_at_lem}, OpenRanges.{over_read, opens, opened}, Stepped.{step, step_read}}

-- how judging goes about a read, and that it means the same
pub record Look (m : Memory) : Type 0 where
  pub decides : (s : List ℕ) (level group n address : ℕ) (d : List ℕ) → decide_of s level group d (reading m n address) ≡ memory_read_of s m level n address
  pub answers : (n address : ℕ) → response_of m n address ≡ response m n address
  pub most : most_bytes m ≡ most_of m

pub look_at : (m : Memory) → Look m
look_at Device = record { decides = λ s level group n address d. refl; answers = λ n address. refl; most = refl }
look_at User = record { decides = λ s level group n address d. refl; answers = λ n address. refl; most = refl }

module _ (x : Asked) (m : Memory) (n address : ℕ) (r : Reads x (reading m n address)) where
  abbrev level : ℕ
  level = level_in x.session x.mode

  abbrev p : Pdu
  p = reading m n address

  ok : Good x.sheet
  ok = good x.sheet r.ready.sheet

  to : (o : ℕ) → MemoryReadable x m n address o → Permits access.Read (most_bytes m) x.sheet m level n address o
  to o q =
      let w = opened over_read ok q in
      record { some = q.some; few = rw (look_at m).most q.few; levels = w.0; run = range_hit ok w.1; suffices = acts_at_lem x _ q.acts w.2 }

  from : (o : ℕ) → Permits access.Read (most_bytes m) x.sheet m level n address o → MemoryReadable x m n address o
  from o q = opens over_read (rw (look_at m).most at q.few) (range_in ok q) (acts x) q.suffices

  reads : (o : ℕ) → MemoryReadable x m n address o → memory_read_of x.sheet m level n address ≡ decisions.answered (answer.Sheet (response_of m n address) o n)
  reads o q = memory_reads x.sheet m level n address o (to o q)

  pub only_memory_read :
      (o : ℕ) → MemoryReadable x m n address o → says x 0 (response m n address) (part x.sheet o n) ≡ step x
  unfolding step_by
  only_memory_read o q =
      ap (λ (a : Pdu). says x 0 a (part x.sheet o n)) (sym ((look_at m).answers n address))
      ∙ step_read x p r _ ((look_at m).decides x.sheet level x.group n address (given x p) ∙ reads o q)

  pub only_no_memory_read : ((o : ℕ) → MemoryReadable x m n address o → ⊥) → says x 11 (response m 0 address) [] ≡ step x
  unfolding step_by
  only_no_memory_read f =
      ap (λ (a : Pdu). says x 11 a []) (sym ((look_at m).answers 0 address))
      ∙ step_read x p r _
      ((look_at m).decides x.sheet level x.group n address (given x p)
      ∙ memory_read_cases x.sheet m level n address (λ (k : Decision). k ≡ decisions.denied (response_of m 0 address))
      (λ o q. absurd (f o (from o q)))
      refl)

  pub right_memory_read : MemoryDue x (step_by x.sheet x.session (given x p) (decide_of x.sheet level x.group (given x p) p))
  unfolding step_by
  right_memory_read =
      rw ((look_at m).decides x.sheet level x.group n address (given x p))
      (memory_read_cases x.sheet m level n address
      (λ (k : Decision). memory_read_of x.sheet m level n address ≡ k → MemoryDue x (step_by x.sheet x.session (given x p) k))
      (λ o q e.
      subst (λ (a : Pdu). MemoryDue x (says x 0 a (part x.sheet o n))) (sym ((look_at m).answers n address)) (memory_read m n address o r (from o q)))
      (λ e.
      subst (λ (a : Pdu). MemoryDue x (says x 11 a [])) (sym ((look_at m).answers 0 address))
      (no_memory_read m n address r
      (λ o q. let z : ◌≡◌ {A = ℕ} 0 11 = ap (λ (k : Decision). k.outcome) (sym (reads o q) ∙ e) in omega arith)))
      refl)
