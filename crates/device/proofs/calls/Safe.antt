-- Every decision can be carried out.
use Rattle.octets.proofs.Kit.{ℕ, sym, subst, List}
use Rattle.std.proofs.Common.{Result}
use Rattle.pdu.specs.declared.Pdu.{Pdu}
use Rattle.pdu.specs.declared.ReadRefusal.{ReadRefusal}
use Rattle.sheet.proofs.rules.Good.{good}
use Rattle.pdu.{specs.Read.read_pdu, proofs.promises.Readings.reading}
use Rattle.judge.specs.{declared.{Session.Session, Decision.Decision}, Session.level_in, Judge.{judge_of, decide_of, data_in}}
use Rattle.device.specs.{Asked.{Asked, given}, Safe.Safe}
use Rattle.device.proofs.{due.RequestCases.request_cases, calls.SafeEach.{safe_refused, safe_decided}}

-- WHATEVER IS DECIDED CAN BE CARRIED OUT
pub safe :
    (room : ℕ) (s : List ℕ) (q : Session) (mode group : ℕ) (a : List ℕ) →
    Safe s (data_in (read_pdu a) a) (judge_of room s q mode group a)
safe room s q mode group a =
    let x : Asked = record { room = room; sheet = s; session = q; mode = mode; group = group; apdu = a } in
    let d : List ℕ = data_in (read_pdu a) a in
    request_cases x (Safe s d) (λ k r n v t. safe_refused s d 9) (λ r f. safe_refused s d 8) (λ k r n t e. safe_refused s d 10)
    (λ p r.
    let k : Decision = decide_of s (level_in q mode) group (given x p) p in
    subst (λ (z : Result Pdu ReadRefusal). Safe s (data_in z a) k) (sym r.reads)
    (safe_decided (good s r.ready.sheet) (level_in q mode) group a p (reading a p r.reads)))
    (λ n r. safe_refused s d n)
