-- A memory read on parts is that of the first engine.
use Rattle.std.proofs.Common.{Option, Some, None}
use Rattle.octets.proofs.Kit.{ℕ, ◌+◌, ◌-◌, ◌≤◌, ◌≡◌, refl, ◌∙◌, List, [], take, drop}
use Rattle.sheet.specs.declared.Memory.{Memory}
use Rattle.pdu.specs.declared.Pdu.{Pdu}
use Rattle.judge.specs.{declared.{Access.TheVariants.Read, Turn.TheVariants.Stays}, Decisions.{denied, answered}, Memory.{most_bytes, response_of, memory_read_of}}
use Rattle.judge.proofs.MemoryCases.{memory_reads}
use Rattle.judge.specs.declared.Answer.TheVariants as answer
use Rattle.parts.{specs.{declared.Parts.Parts, Records.Taken}, proofs.Quoted.same_part}
use Rattle.plain_services.specs.{declared.{Area.Area, Reply.Reply}, Memory.{IsArea, range_for}}
use Rattle.plain_services.specs.Steps.{Held, Gives, Serves}
use Rattle.plain_services.proofs.{Agreed.{agreed, by_decision, quoted}, MemoryRanges.{not_allowed, standing}}

module _ (u : Parts) (m : Memory) (level n address : ℕ) (a : Area) (most : ℕ) (p : Option ℕ)
    (areas : ((s : List ℕ) → Taken s u → IsArea s m a.regions a.count) × (Held u → a.count ≤ 16)) (em : (most ≡ most_bytes m) × (most ≤ 12))
    (found : p ≡ range_for a.regions a.count Read level most n address) where
  pub not_read : {r : Reply} → p ≡ None → (q : Pdu) → q ≡ response_of m 0 address → Gives r 11 u Stays (Some q) [] → Serves u [] (λ s. memory_read_of s m level n address) r
  not_read d q e g =
      record {
        agrees = λ s ok o t.
            by_decision _ (denied (response_of m 0 address)) (unfold memory_read_of in rw (not_allowed u Read m level n address a most (most_bytes m) p areas em found d s t) refl)
            (agreed (denied (response_of m 0 address)) (rw e at g) t);
      }

  pub read :
      {r : Reply} (at : ℕ) → p ≡ Some at → (q : Pdu) → q ≡ response_of m n address → Gives r 0 u Stays (Some q) (take (at + n - at) (drop at u.bodies)) →
      Serves u [] (λ s. memory_read_of s m level n address) r
  read at there q e g =
      record {
        agrees = λ s ok o t.
            let x = standing u Read m level n address a most (most_bytes m) p areas em found at there s ok t in
            let k = answered (answer.Sheet (response_of m n address) at n) in
            let same = quoted at n u.bodies ∙ same_part s u t at n x.low x.fits in
            by_decision _ k (memory_reads s m level n address at x.permits) (agreed k (rw (e, same) at g) t);
      }
