-- THE CONVERSION OF AN OLD SHEET ANSWERS EVERY EVENT AS THE OLD SHEET DID in the release before, as `Before` models it, along every run; and what was saved from it is given back. Assumes nothing.
use Rattle.octets.proofs.Kit.{ℕ, ◌≡◌, refl, sym, ap, ap₂, cond, List, eqb}
use Rattle.sheet.{specs.{Rules.{Old, refusal_of, refusal_before}, Convert.conversion_of}, proofs.promises.Verdicts.refused_none}
use Rattle.judge.specs.{Judge.judge_of, declared.Session.Session}
use Rattle.device.{specs.{declared.Sessions.Sessions, Step.step_of, Events.{State, button_outcome, button_sheet, request_of}}, proofs.apart.Renewing.{renews, let_be, is_conversion}}
use Rattle.versions.specs.{Settings.settings_of, Saving.{saved, save_by, number_by, store_by, save_outcome, save_number, save_store}, Restoring.{restore_by, left_by, restore_outcome, restore_sheet}}
use Rattle.events.specs.{Events.{Event, connect, disconnect, button, request, restore, event_with, event_of, run}, Before.{refusing, event_before, run_before, AsBefore}}
use Rattle.events.proofs.Renewing.{Succeeds, event_alike, run_alike, restore_same, restore_renews, settings_same}

-- THIS RELEASE is the one that refuses a sheet by `refusal_of`. The model of the release before is made in the same way from `refusal_before`
pub by_refusal : (x : State) (e : Event) → event_of x e ≡ event_with (refusing refusal_of) x e
unfolding event_of request_of step_of judge_of button_outcome button_sheet restore_outcome restore_sheet
by_refusal x (connect c) = refl
by_refusal x (disconnect c) = refl
by_refusal x (button on) = refl
by_refusal x (request mode c group a out) = refl
by_refusal x (restore c n st) = refl

-- an old sheet and its conversion with the same sessions
start : (q : Sessions) (s : List ℕ) → Old s → Succeeds (record { sessions = q; sheet = s }) (record { sessions = q; sheet = conversion_of s })
start q s o = record { sessions = refl; sheet = renews s o }

-- EVERY EVENT'S OUTCOME AND ANSWER, SESSIONS AND SHEET, whatever went before
pub answers_as_before :
    (q : Sessions) (s : List ℕ) → Old s → (es : List Event) (e : Event) →
    AsBefore (event_before (run_before (record { sessions = q; sheet = s }) es) e) (event_of (run (record { sessions = q; sheet = conversion_of s }) es) e)
answers_as_before q s o es e =
    let k = event_alike _ _ e (run_alike _ _ es (start q s o)) in
    record { outcome = k.outcome; answer = k.answer; sessions = k.next.sessions; sheet = is_conversion k.next.sheet }

-- AND WHAT A RUN LEAVES
pub runs_as_before :
    (q : Sessions) (s : List ℕ) → Old s → (es : List Event) →
    run (record { sessions = q; sheet = conversion_of s }) es
    ≡ (let x = run_before (record { sessions = q; sheet = s }) es in record { sessions = x.sessions; sheet = conversion_of x.sheet })
runs_as_before q s o es =
    let k = run_alike _ _ es (start q s o) in
    ap₂ (λ (p : Sessions) (t : List ℕ). record { sessions = p; sheet = t }) k.sessions (is_conversion k.sheet)

-- the outcome of a save
outcome_before : (s : List ℕ) → Old s → (st : List ℕ) → save_outcome (conversion_of s) st ≡ save_by (refusal_before s) s st
unfolding save_outcome
outcome_before s o st =
    let r = renews s o in
    let e = sym (settings_same r) in
    rw (refused_none (conversion_of s) r.accepted, let_be r, e)

-- A VERSION SURVIVES: what any store gives back to the conversion is what it gave back to the old sheet
pub version_survives :
    (s : List ℕ) → Old s → (q : Session) (st : List ℕ) (n : ℕ) →
    (restore_outcome q (conversion_of s) st n ≡ restore_by (refusal_before s) q s st n)
    × (restore_sheet q (conversion_of s) st n ≡ conversion_of (left_by (restore_by (refusal_before s) q s st n) s st n))
version_survives s o q st n = (sym (restore_same (renews s o) q st n), is_conversion (restore_renews (renews s o) q st n))

-- and a save of the conversion gives the outcome and the number and leaves the store that one of the old sheet did, with the same bytes for a body
pub saved_as_before :
    (s : List ℕ) → Old s → (st : List ℕ) →
    (let r = save_by (refusal_before s) s st in
    (save_outcome (conversion_of s) st ≡ r) × (save_number (conversion_of s) st ≡ number_by r st) × (save_store (conversion_of s) st ≡ store_by r s st)
    × (settings_of (conversion_of s) ≡ settings_of s))
unfolding save_number save_store
saved_as_before s o st =
    let e = outcome_before s o st in
    let d = sym (settings_same (renews s o)) in
    (e, ap (λ (n : ℕ). number_by n st) e, ap₂ (λ (n : ℕ) (b : List ℕ). cond (eqb n 0) (saved st b) st) e d, d)
