-- What is decided about a request, case by case: refused before its service, or as its service decides.
use Rattle.octets.proofs.Kit.{ℕ, ◌≤◌, ◌≡◌, refl, sym, subst, subst⁻¹, ◌∙◌, ◌⊎◌, inl, inr, Bool, true, false, not, ◌&&◌, length, eqb, eq-eqb, eqb-true, eqb-false, not-true, not-false}
use Rattle.std.proofs.Common.{Option, Some, None, Result, Ok, Err}
use Rattle.pdu.specs.declared.ReadRefusal.{ReadRefusal}
use Rattle.pdu.specs.declared.ReadRefusal.TheVariants as unread
use Rattle.octets.proofs.{Truths.{never, and_is}, Walks.{by_test, by_not, by_lt}}
use Rattle.sheet.{specs.{Head.rules_of, Rules.{Accepted, Old, Bad, refusal_of}}, proofs.promises.Verdicts.{one_of_three, refused_old, refused_bad, refused_none, unrefused}}
use Rattle.pdu.specs.{Table.{row_of, service_at}, Pdus.service_of, Rules.code_of, Read.read_pdu, declared.{Service.Service, Pdu.Pdu}}
use Rattle.pdu.proofs.promises.{Codes.{has_is, found, named, unknown}, Readings.{reading, refused_row}}
use Rattle.judge.specs.{declared.Decision.Decision, Decisions.refused, Session.level_in, Modes.{reach_of, reaches, takes}, Judge.{decide_of, read_of, reached_of, found_of, is_shut, judge_of}}
use Rattle.device.specs.Asked.{Asked, Takes, Names, Served, Refusal, no_room, bad_sheet, old_sheet, bad_length, bad_mode, no_session, Ready, Reads, given}
use Rattle.device.proofs.due.Taking.{takes_is, served_is}

-- a connection is needed and there
open_then : (a b : Bool) → a && not b ≡ false → a ≡ true → b ≡ true
open_then true b e h = not-false b e
open_then false b e h = never h

module _ (x : Asked) where
  abbrev rules : ℕ
  rules = rules_of x.sheet

  -- the code names a service exactly if it is one of the service's
  pub names_found : (k : Service) → Names x k → service_at (code_of x.apdu) ≡ Some k
  names_found k n = found k (code_of x.apdu) ((has_is (row_of k) _).1 (n.from, n.to))

  pub found_names : (k : Service) → service_at (code_of x.apdu) ≡ Some k → Names x k
  found_names k e = let h = (has_is (row_of k) _).0 (named k _ e) in record { from = h.0; to = h.1 }

  pub names_once : (j k : Service) → Names x j → Names x k → j ≡ k
  names_once j k a b = let e = names_found j a in let f = names_found k b in cc

  module _ (P : Decision → Type 0)
      (other : (k : Service) → Ready x → Names x k → Served rules k → (Takes rules k x.mode → ⊥) → P (refused 9))
      (none : Ready x → ((k : Service) → Names x k → Served rules k → ⊥) → P (refused 8))
      (unfit : (k : Service) → Ready x → Names x k → Takes rules k x.mode → read_pdu x.apdu ≡ Err unread.Fields → P (refused 10))
      (reads : (p : Pdu) → Reads x p → P (decide_of x.sheet (level_in x.session x.mode) x.group (given x p) p)) where
    by_reading :
        (k : Service) → Ready x → Names x k → Takes rules k x.mode → (z : Result Pdu ReadRefusal) → read_pdu x.apdu ≡ z →
        P (read_of x.sheet (level_in x.session x.mode) x.group x.apdu z)
    by_reading k r n t (Ok p) e =
        let f = names_found k n in
        let g = (reading x.apdu p e).names in
        let q : k ≡ service_of p = cc in
        reads p (record { ready = r; takes = subst (λ (j : Service). Takes rules j x.mode) q t; reads = e })
    by_reading k r n t (Err m) e =
        let q : m ≡ unread.Fields = refused_row x.apdu k m r.least r.most (names_found k n) e in
        rw q (unfit k r n t (rw q at e))

    by_code :
        Ready x → (f : Option Service) → service_at (code_of x.apdu) ≡ f →
        P (found_of x.sheet x.session x.mode x.group x.apdu f)
    unfolding reached_of
    by_code r None e =
        none r (λ k n s. let h = (unknown (code_of x.apdu)).0 e k in never (sym h ∙ (has_is (row_of k) _).1 (n.from, n.to)))
    by_code r (Some k) e =
        let n = found_names k e in
        by_not P (reaches (reach_of rules k)) _ _
        (λ h. none r (λ j m s. never (sym h ∙ (served_is rules k).1 (subst (Served rules) (names_once j k m n) s))))
        (λ h.
        by_not P (takes (reach_of rules k) x.mode) _ _
        (λ t. other k r n ((served_is rules k).0 h) (λ m. never (sym t ∙ (takes_is rules x.mode k).1 m)))
        (λ t. by_reading k r n ((takes_is rules x.mode k).0 t) (read_pdu x.apdu) refl))

    -- THE JUDGEMENT, CASE BY CASE
    pub request_cases :
        ((n : ℕ) → Refusal x n → P (refused n)) →
        P (judge_of x.room x.sheet x.session x.mode x.group x.apdu)
    unfolding judge_of is_shut
    request_cases refuse =
        by_lt P x.room 16 _ _ (λ b. refuse 3 (no_room b))
        (λ b. by_not P (eqb (refusal_of x.sheet) 0) _ _ (λ e. by_sheet b (eqb-false _ 0 e) (one_of_three x.sheet))
        (λ e.
        let s : Accepted x.sheet = unrefused x.sheet (eqb-true _ 0 e) in
        by_lt P (length x.apdu) 2 _ _ (λ l. refuse 5 (bad_length b s (inl l)))
        (λ l. by_lt P 16 (length x.apdu) _ _ (λ m. refuse 5 (bad_length b s (inr m)))
        (λ m. by_lt P 3 x.mode _ _ (λ h. refuse 6 (bad_mode b s l m h))
        (λ h. by_test P (eqb x.mode 3 && not x.session.opened) _ _
        (λ o. let u = (and_is (eqb x.mode 3) (not x.session.opened)).0 o in refuse 7 (no_session b s l m (eqb-true _ 3 u.0) (not-true _ u.1)))
        (λ o.
        by_code
        (record { buffer = b; sheet = s; least = l; most = m; mode = h; session = λ c. open_then _ x.session.opened o (eq-eqb _ 3 c) })
        (service_at (code_of x.apdu)) refl))))))
      where
        by_sheet :
            16 ≤ x.room → (refusal_of x.sheet ≡ 0 → ⊥) → Accepted x.sheet ⊎ (Old x.sheet ⊎ Bad x.sheet) → P (refused (refusal_of x.sheet))
        by_sheet b n (inl a) = absurd (n (refused_none x.sheet a))
        by_sheet b n (inr (inl o)) = subst⁻¹ (λ (k : ℕ). P (refused k)) (refused_old x.sheet o) (refuse 14 (old_sheet b o))
        by_sheet b n (inr (inr h)) = subst⁻¹ (λ (k : ℕ). P (refused k)) (refused_bad x.sheet h) (refuse 4 (bad_sheet b h))
