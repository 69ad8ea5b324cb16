-- A request that is carried out, and one that comes after it, were ready and read.
use Rattle.octets.proofs.Kit.{ℕ, ◌≤◌, ◌≡◌, subst, arith}
use Rattle.std.proofs.Common.{Ok}
use Rattle.sheet.{specs.Rules.Accepted, proofs.promises.Agrees.both_or_neither}
use Rattle.pdu.{specs.{Read.read_pdu, declared.Pdu.Pdu}, proofs.promises.Readings.reading}
use Rattle.judge.specs.declared.Decision.{Decision}
use Rattle.device.specs.{Step.{step_by, step_of}, Asked.{Asked, Refusal, no_room, bad_sheet, old_sheet, bad_length, bad_mode, no_session, Reads}, Demand2.done, Next.Next}
use Rattle.device.proofs.{due.RequestCases.request_cases, leaves.Stays.request_agrees}

-- a refusal before the service gives 3 or more
pub late : {x : Asked} {n : ℕ} → Refusal x n → 3 ≤ n
late (no_room b) = omega arith
late (bad_sheet b s) = omega arith
late (old_sheet b s) = omega arith
late (bad_length b s l) = omega arith
late (bad_mode b s l m h) = omega arith
late (no_session b s l m c o) = omega arith

module _ (x : Asked) (p : Pdu) (e : read_pdu x.apdu ≡ Ok p) where
  -- WHAT IS CARRIED OUT WAS READY, in a mode that takes it
  pub carried : (done x).outcome ≤ 1 → Reads x p
  unfolding step_of step_by
  carried =
      request_cases x (λ (k : Decision). k.outcome ≤ 1 → Reads x p)
      (λ k r n v t h. absurd (omega arith)) (λ r f h. absurd (omega arith)) (λ k r n t u h. absurd (omega arith))
      (λ q r h. let u = r.reads in let z : q ≡ p = cc in subst (Reads x) z r)
      (λ n r h. absurd (omega (arith, late r)))

-- the sheet that a request left is accepted if it was
module _ (x y : Asked) (p q : Pdu) (r : Reads x p) (next : Next x y q) (low : y.mode ≤ 3) where
  pub ready_next : Reads y q
  ready_next =
      let a = reading y.apdu q next.reads in
      let s : Accepted y.sheet = rw next.sheet ((both_or_neither (request_agrees x r.ready.sheet)).0 r.ready.sheet) in
      record {
        ready = record { buffer = next.buffer; sheet = s; least = a.least; most = a.most; mode = low; session = next.session };
        takes = next.takes;
        reads = next.reads;
      }
