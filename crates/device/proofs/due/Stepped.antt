-- The step of a request, from what is known before its service decides.
use Rattle.octets.proofs.Kit.{ℕ, ◌≡◌, refl, sym, ap, ap₂, ◌∙◌, inl, inr, Bool, true, false, not, ◌&&◌, List, length, eqb, arith, lt-ltb, le-ltb, eq-eqb, eqb-true}
use Rattle.std.proofs.Common.{Option, Some, None, Result, Err}
use Rattle.pdu.specs.declared.ReadRefusal.{ReadRefusal}
use Rattle.pdu.specs.declared.ReadRefusal.TheVariants as unread
use Rattle.octets.proofs.Truths.{must_fail}
use Rattle.sheet.specs.{Head.rules_of, Rules.verdict_of}
use Rattle.pdu.specs.{Table.service_at, Pdus.service_of, Rules.code_of, Read.read_pdu, declared.{Service.Service, Pdu.Pdu}}
use Rattle.pdu.proofs.promises.Readings.{reading}
use Rattle.judge.specs.{declared.Decision.Decision, Session.level_in, Modes.{reach_of, reaches, takes}, Judge.{decide_of, read_of, reached_of, found_of, is_shut, judge_of, data_in}}
use Rattle.judge.proofs.SheetCases.{old_refused, bad_refused}
use Rattle.judge.specs.Decisions as decisions
use Rattle.device.specs.Step.{Step, step_by, step_of}
use Rattle.device.specs.Asked.{Asked, quiet, Takes, Names, Served, Refusal, no_room, bad_sheet, old_sheet, bad_length, bad_mode, no_session, Ready, Reads, given}
use Rattle.device.proofs.due.{Taking.{takes_is, served_is}, RequestCases.{names_found, found_names}}

module _ (x : Asked) where
  abbrev rules : ℕ
  rules = rules_of x.sheet

  abbrev judgement : Decision
  judgement = judge_of x.room x.sheet x.session x.mode x.group x.apdu

  abbrev pub step : Step
  step = step_of x.room x.sheet x.session x.mode x.group x.apdu

  quietly : (n : ℕ) → judgement ≡ decisions.refused n → quiet x n ≡ step
  unfolding step_of step_by
  quietly n e = sym (ap (step_by x.sheet x.session (data_in (read_pdu x.apdu) x.apdu)) e)

  -- 3 to 7
  pub step_refused : {n : ℕ} → Refusal x n → quiet x n ≡ step
  unfolding judge_of is_shut
  step_refused (no_room h) = quietly 3 (simp (lt-ltb x.room 16 h))
  step_refused (bad_sheet b h) = quietly 4 (bad_refused x.room x.sheet x.session x.mode x.group x.apdu b h)
  step_refused (old_sheet b h) = quietly 14 (old_refused x.room x.sheet x.session x.mode x.group x.apdu b h)
  step_refused (bad_length b s (inl h)) =
      quietly 5 (simp (le-ltb x.room 16 b, eq-eqb (verdict_of x.sheet) 0 s, lt-ltb (length x.apdu) 2 h))
  step_refused (bad_length b s (inr h)) =
      quietly 5
      (simp (le-ltb x.room 16 b, eq-eqb (verdict_of x.sheet) 0 s, le-ltb (length x.apdu) 2 (omega arith), lt-ltb 16 (length x.apdu) h))
  step_refused (bad_mode b s l m h) =
      quietly 6
      (simp (le-ltb x.room 16 b, eq-eqb (verdict_of x.sheet) 0 s, le-ltb (length x.apdu) 2 l, le-ltb 16 (length x.apdu) m, lt-ltb 3 x.mode h))
  step_refused (no_session b s l m c o) =
      quietly 7
      (simp (le-ltb x.room 16 b, eq-eqb (verdict_of x.sheet) 0 s, le-ltb (length x.apdu) 2 l, le-ltb 16 (length x.apdu) m, le-ltb 3 x.mode (omega arith), eq-eqb x.mode 3 c, o))

  not_shut : Ready x → eqb x.mode 3 && not x.session.opened ≡ false
  not_shut r = go (eqb x.mode 3) refl
    where
      go : (t : Bool) → eqb x.mode 3 ≡ t → t && not x.session.opened ≡ false
      go true e = ap not (r.session (eqb-true _ 3 e))
      go false e = refl

  ready_judged : Ready x → judgement ≡ found_of x.sheet x.session x.mode x.group x.apdu (service_at (code_of x.apdu))
  unfolding judge_of is_shut
  ready_judged r =
      let n : ℕ = length x.apdu in
      simp (le-ltb x.room 16 r.buffer, eq-eqb (verdict_of x.sheet) 0 r.sheet, le-ltb n 2 r.least, le-ltb 16 n r.most, le-ltb 3 x.mode r.mode, not_shut r)

  -- 8
  pub step_unknown : Ready x → ((k : Service) → Names x k → Served rules k → ⊥) → quiet x 8 ≡ step
  unfolding reached_of
  step_unknown r f = quietly 8 (ready_judged r ∙ go (service_at (code_of x.apdu)) refl)
    where
      go : (z : Option Service) → service_at (code_of x.apdu) ≡ z →
          found_of x.sheet x.session x.mode x.group x.apdu z ≡ decisions.refused 8
      go None e = refl
      go (Some k) e =
          simp (must_fail (reaches (reach_of rules k)) (λ h. f k (found_names x k e) ((served_is rules k).0 h)))

  module _ (k : Service) (r : Ready x) (n : Names x k) where
    named_judged : judgement ≡ reached_of x.sheet x.session x.mode x.group x.apdu (reach_of rules k)
    named_judged = ready_judged r ∙ ap (found_of x.sheet x.session x.mode x.group x.apdu) (names_found x k n)

    -- 9
    pub step_other : Served rules k → (Takes rules k x.mode → ⊥) → quiet x 9 ≡ step
    unfolding reached_of
    step_other v t =
        quietly 9
        (named_judged
        ∙ simp
        ((served_is rules k).1 v, must_fail (takes (reach_of rules k) x.mode) (λ h. t ((takes_is rules x.mode k).0 h))))

    taken_judged : Takes rules k x.mode → judgement ≡ read_of x.sheet (level_in x.session x.mode) x.group x.apdu (read_pdu x.apdu)
    unfolding reached_of
    taken_judged t =
        named_judged
        ∙ simp ((served_is rules k).1 (record { mode = x.mode; takes = t }), (takes_is rules x.mode k).1 t)

    -- 10
    pub step_unfit : Takes rules k x.mode → read_pdu x.apdu ≡ Err unread.Fields → quiet x 10 ≡ step
    step_unfit t e =
        quietly 10
        (taken_judged t ∙ ap (read_of x.sheet (level_in x.session x.mode) x.group x.apdu) e)

  -- a request that reads is decided by its service
  module _ (p : Pdu) (r : Reads x p) where
    reads_judged : judgement ≡ decide_of x.sheet (level_in x.session x.mode) x.group (given x p) p
    reads_judged =
        taken_judged (service_of p) r.ready (found_names x (service_of p) (reading x.apdu p r.reads).names) r.takes
        ∙ ap (read_of x.sheet (level_in x.session x.mode) x.group x.apdu) r.reads

    pub step_read :
        (k : Decision) → decide_of x.sheet (level_in x.session x.mode) x.group (given x p) p ≡ k →
        step_by x.sheet x.session (given x p) k ≡ step
    unfolding step_of
    step_read k e =
        sym
        (ap₂ (λ (d : List ℕ) (j : Decision). step_by x.sheet x.session d j) (ap (λ (z : Result Pdu ReadRefusal). data_in z x.apdu) r.reads) (reads_judged ∙ e))
