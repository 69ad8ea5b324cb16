-- Accepted stays accepted: no event takes a sheet out of the rules. Assumes nothing.
use Rattle.octets.proofs.Kit.{ℕ, List}
use Rattle.sheet.{specs.{Rules.Accepted, Agree.Agree}, proofs.promises.Agrees.both_or_neither}
use Rattle.judge.specs.declared.Session.{Session}
use Rattle.device.{specs.{Events.{State, request_of}, Due.asked, Sessions.session_of}, proofs.leaves.{Agreeing.agree_refl, Stays.{request_agrees, button_agrees}}}
use Rattle.versions.{specs.Due.{RestoreDue, sheet_refused, sheet_old, store_refused, unknown_number, not_open, differs, too_high, is_restored}, proofs.promises.Dues.restore_due}
use Rattle.versions.proofs.promises.Restores.{restored_agrees}
use Rattle.events.specs.Events.{Event, connect, disconnect, button, request, restore, event_of, after}

-- a restore
restore_agrees : {q : Session} {s st : List ℕ} {n k : ℕ} {t : List ℕ} → Accepted s → RestoreDue q s st n k t → Agree s t
restore_agrees {s = s} ok (sheet_refused f) = agree_refl s
restore_agrees {s = s} ok (sheet_old f) = agree_refl s
restore_agrees {s = s} ok (store_refused a f) = agree_refl s
restore_agrees {s = s} ok (unknown_number a f) = agree_refl s
restore_agrees {s = s} ok (not_open a f) = agree_refl s
restore_agrees {s = s} ok (differs a z f) = agree_refl s
restore_agrees {s = s} ok (too_high a z e f) = agree_refl s
restore_agrees ok (is_restored a z e l) = restored_agrees ok e l

-- AN EVENT LEAVES ALL THAT THE RULES READ
pub agrees : (x : State) (e : Event) → Accepted x.sheet → Agree x.sheet (after x e).sheet
unfolding after event_of request_of
agrees x (connect c) ok = agree_refl x.sheet
agrees x (disconnect c) ok = agree_refl x.sheet
agrees x (button on) ok = button_agrees x.sheet on ok
agrees x (request mode c group a out) ok = request_agrees (asked x mode c group a out) ok
agrees x (restore c n st) ok = restore_agrees ok (restore_due (session_of x.sessions c) x.sheet st n)

-- ACCEPTED STAYS ACCEPTED
pub stays : (x : State) (e : Event) → Accepted x.sheet → Accepted (after x e).sheet
stays x e ok = (both_or_neither (agrees x e ok)).0 ok
