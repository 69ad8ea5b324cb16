-- What is refused before its service, and what a history is not concerned with, is not heard.
use Rattle.octets.proofs.Kit.{ℕ, ◌≡◌, sym, subst, ◌∙◌, inl, inr, Bool, false, List, arith}
use Rattle.std.proofs.Common.{Err}
use Rattle.octets.proofs.Truths.{never}
use Rattle.sheet.{specs.{Head.rules_of, Rules.Accepted}, proofs.rules.Good.no_rule}
use Rattle.pdu.{specs.{Pdus.service_of, Read.read_pdu, declared.{Service.Service, Pdu.Pdu, ReadRefusal.ReadRefusal}}, proofs.promises.Readings.reading}
use Rattle.device.specs.{Events.State, Asked.{Asked, Takes, Names, Served, Refusal, no_room, bad_sheet, old_sheet, bad_length, bad_mode, no_session, Ready, Reads}, Due.asked}
use Rattle.device.proofs.due.RequestCases.{found_names, names_once}
use Rattle.history.specs.{Wish.{nothing, asks}, Permit.heard}
use Rattle.history.proofs.{spans.Bools.must_fail, heard.Hearing.{ready_is, heard_reads, refused_asks}}

-- a refusal is not due where the request is ready
refusal_ready : {x : Asked} {n : ℕ} → Refusal x n → Ready x → ⊥
refusal_ready (no_room p) r = omega (arith, r.buffer)
refusal_ready {x} (bad_sheet p q) r = q (no_rule x.sheet r.sheet)
refusal_ready (old_sheet p q) r = omega (arith, q, r.sheet)
refusal_ready (bad_length p q (inl l)) r = omega (arith, r.least)
refusal_ready (bad_length p q (inr l)) r = omega (arith, r.most)
refusal_ready (bad_mode p q l m t) r = omega (arith, r.mode)
refusal_ready (no_session p q l m t u) r = never (sym u ∙ r.session t)

module _ (x : State) (mode c g : ℕ) (a out : List ℕ) (accepted : Accepted x.sheet) where
  abbrev X : Asked
  X = asked x mode c g a out

  abbrev Ok : Bool
  Ok = heard (rules_of x.sheet) X.session.opened mode a out (asks a)

  pub refusal_unheard : {n : ℕ} → Refusal X n → Ok ≡ false
  refusal_unheard r = must_fail Ok (λ e. refusal_ready r ((ready_is x mode c g a out accepted (asks a)).0 e).0)

  pub nothing_unheard : asks a ≡ nothing → Ok ≡ false
  nothing_unheard q =
      must_fail Ok (λ e. never (rw q at ((ready_is x mode c g a out accepted (asks a)).0 e).1))

  pub unread_unheard : (n : ReadRefusal) → read_pdu a ≡ Err n → Ok ≡ false
  unread_unheard n e = nothing_unheard (refused_asks a n e)

  -- what is heard has the code of a service that is served
  names_so : (p : Pdu) → Reads X p → Names X (service_of p)
  names_so p r = found_names X (service_of p) (reading a p r.reads).names

  pub unknown_unheard : ((k : Service) → Names X k → Served (rules_of x.sheet) k → ⊥) → Ok ≡ false
  unknown_unheard none =
      must_fail Ok
      (λ e.
      let q = heard_reads x mode c g a out accepted e in
      none (service_of q.0) (names_so q.0 q.1) (record { mode = mode; takes = q.1.takes }))

  pub mode_unheard : (k : Service) → Names X k → (Takes (rules_of x.sheet) k mode → ⊥) → Ok ≡ false
  mode_unheard k n not_taken =
      must_fail Ok
      (λ e.
      let q = heard_reads x mode c g a out accepted e in
      not_taken
      (subst (λ (j : Service). Takes (rules_of x.sheet) j mode) (names_once X (service_of q.0) k (names_so q.0 q.1) n) q.1.takes))
