-- A request and the button leave all that the rules read.
use Rattle.octets.proofs.Kit.{ℕ, sym, subst, Bool, List, eqb, arith}
use Rattle.std.proofs.Common.{Result}
use Rattle.pdu.specs.declared.Pdu.{Pdu}
use Rattle.pdu.specs.declared.ReadRefusal.{ReadRefusal}
use Rattle.octets.proofs.Walks.{by_test}
use Rattle.sheet.{specs.{Rules.{Accepted, refusal_of}, Agree.Agree}, proofs.rules.Good.{Good, good}}
use Rattle.pdu.{specs.Read.read_pdu, proofs.promises.Readings.reading}
use Rattle.judge.specs.{Session.level_in, Judge.{decide_of, data_in}}
use Rattle.device.specs.{Step.{step_by, step_of}, Asked.{Asked, given}, Events.{pressed, button_sheet}}
use Rattle.device.proofs.{due.RequestCases.request_cases, leaves.{Flags.bit_small, Agreeing.agree_refl, Keeping.{Keeps, flags_new, keeps_decided}}}

-- a request
pub request_agrees :
    (x : Asked) → Accepted x.sheet → Agree x.sheet (step_of x.room x.sheet x.session x.mode x.group x.apdu).sheet
unfolding step_of step_by
request_agrees x ok =
    request_cases x (Keeps x.sheet (data_in (read_pdu x.apdu) x.apdu))
    (λ k r n v t. agree_refl x.sheet) (λ r f. agree_refl x.sheet) (λ k r n t e. agree_refl x.sheet)
    (λ p r.
    subst
    (λ (z : Result Pdu ReadRefusal). Keeps x.sheet (data_in z x.apdu) (decide_of x.sheet (level_in x.session x.mode) x.group (given x p) p))
    (sym r.reads) (keeps_decided (good x.sheet ok) _ x.group x.apdu p (reading x.apdu p r.reads)))
    (λ n r. agree_refl x.sheet)

-- the button
pub button_agrees : (s : List ℕ) (on : Bool) → Accepted s → Agree s (button_sheet s on)
unfolding button_sheet pressed
button_agrees s on ok =
    let g : Good s = good s ok in
    by_test (Agree s) (eqb (refusal_of s) 0) _ _ (λ e. flags_new g s _ (omega (arith, g.zeros, bit_small on))) (λ e. agree_refl s)
