-- A request is heard exactly if it is ready, reads, and its mode takes it.
use Rattle.octets.proofs.Kit.{ℕ, ◌≡◌, refl, ◌∙◌, ◌⊎◌, inl, inr, ⊎_elim, ◌↔◌, Bool, true, false, ◌||◌, ◌&&◌, not, List, eqb, leb-true, le-leb, eqb-true, eq-eqb}
use Rattle.std.proofs.Common.{Result, Ok, Err}
use Rattle.pdu.specs.declared.ReadRefusal.{ReadRefusal}
use Rattle.octets.proofs.Truths.{never, decided, and_is, or_is}
use Rattle.sheet.specs.{Head.{rules_of, later}, Rules.Accepted}
use Rattle.pdu.specs.{Read.{read_pdu, data_of}, Pdus.service_of, declared.Pdu.{Pdu, TheVariants.{GroupValueRead, GroupValueResponse}}}
use Rattle.pdu.specs.declared.Pdu.TheVariants.{GroupValueWrite, IndividualAddressWrite, IndividualAddressRead, SerialNumberRead, SerialNumberWrite, DeviceDescriptorRead, PropertyValueRead}
use Rattle.pdu.specs.declared.Pdu.TheVariants.{PropertyValueWrite, PropertyDescriptionRead, MemoryRead, MemoryWrite, MemoryBitWrite, AuthorizeRequest, KeyWrite, Restart}
use Rattle.pdu.specs.declared.Pdu.TheVariants.{IndividualAddressResponse, SerialNumberResponse, DeviceDescriptorResponse, PropertyValueResponse, PropertyDescriptionResponse, MemoryResponse}
use Rattle.pdu.specs.declared.Pdu.TheVariants.{AuthorizeResponse, KeyResponse, UserMemoryRead, UserMemoryResponse, UserMemoryWrite}
use Rattle.judge.specs.Session.{connected}
use Rattle.device.{specs.{Events.State, Asked.{Asked, Takes, Ready, Reads}, Due.asked}, proofs.due.Taking.{takes_is, restart_is}}
use Rattle.history.specs.{Wish.{Wish, wish_of, restart, nothing, asks, brings, taken}, Permit.{checks, heard}}
use Rattle.history.proofs.spans.Bools.{all_at}

-- what reads as p asks what p asks
module _ (a : List ℕ) (p : Pdu) (e : read_pdu a ≡ Ok p) where
  pub asks_is : asks a ≡ wish_of p
  unfolding asks
  asks_is = rw e

  pub brings_is : brings a ≡ data_of p a
  unfolding brings
  brings_is = rw e

pub refused_asks : (a : List ℕ) (n : ReadRefusal) → read_pdu a ≡ Err n → asks a ≡ nothing
unfolding asks
refused_asks a n e = rw e

-- what a PDU asks for, if a history is concerned with it, is taken as its service is
abbrev pub Idle : Pdu → Type 0
Idle p = wish_of p ≡ nothing

restart_taken : (rules m : ℕ) → (taken rules restart m ≡ true) ↔ ((m ≡ 3) ⊎ ((rules ≡ later) × (m ≡ 2)))
restart_taken rules m = (
  λ e.
      ⊎_elim (λ h. inl (eqb-true m 3 h)) (λ h. let q = (and_is (eqb rules later) (eqb m 2)).0 h in inr (eqb-true rules later q.0, eqb-true m 2 q.1))
      ((or_is (eqb m 3) (eqb rules later && eqb m 2)).0 e),
  λ h.
      (or_is (eqb m 3) (eqb rules later && eqb m 2)).1
      (⊎_elim (λ e. inl (eq-eqb m 3 e)) (λ q. inr ((and_is (eqb rules later) (eqb m 2)).1 (eq-eqb rules later q.0, eq-eqb m 2 q.1))) h),
)

taken_is : (rules : ℕ) (p : Pdu) (m : ℕ) → Idle p ⊎ ((taken rules (wish_of p) m ≡ true) ↔ Takes rules (service_of p) m)
taken_is rules GroupValueRead m = inl refl
taken_is rules (GroupValueResponse v) m = inr (takes_is rules m _)
taken_is rules (GroupValueWrite v) m = inr (takes_is rules m _)
taken_is rules (IndividualAddressWrite v) m = inr (takes_is rules m _)
taken_is rules IndividualAddressRead m = inl refl
taken_is rules (SerialNumberRead n) m = inl refl
taken_is rules (SerialNumberWrite n v) m = inr (takes_is rules m _)
taken_is rules (DeviceDescriptorRead t) m = inl refl
taken_is rules (PropertyValueRead o i n s) m = inl refl
taken_is rules (PropertyValueWrite o i n s) m = inr (takes_is rules m _)
taken_is rules (PropertyDescriptionRead o i n) m = inl refl
taken_is rules (MemoryRead n y) m = inl refl
taken_is rules (MemoryWrite n y) m = inr (takes_is rules m _)
taken_is rules (MemoryBitWrite n y) m = inr (takes_is rules m _)
taken_is rules (AuthorizeRequest n) m = inr (takes_is rules m _)
taken_is rules (KeyWrite l n) m = inr (takes_is rules m _)
taken_is rules Restart m = let t = restart_taken rules m in let r = restart_is rules m in inr (λ e. r.1 (t.0 e), λ h. t.1 (r.0 h))
taken_is rules IndividualAddressResponse m = inl refl
taken_is rules (SerialNumberResponse n d) m = inl refl
taken_is rules (DeviceDescriptorResponse t) m = inl refl
taken_is rules (PropertyValueResponse o i n s) m = inl refl
taken_is rules (PropertyDescriptionResponse o i n k x l) m = inl refl
taken_is rules (MemoryResponse n y) m = inl refl
taken_is rules (AuthorizeResponse l) m = inl refl
taken_is rules (KeyResponse l) m = inl refl
taken_is rules (UserMemoryRead n y) m = inl refl
taken_is rules (UserMemoryResponse n y) m = inl refl
taken_is rules (UserMemoryWrite n y) m = inr (takes_is rules m _)

module _ (x : State) (mode c g : ℕ) (a out : List ℕ) (accepted : Accepted x.sheet) where
  abbrev rules : ℕ
  rules = rules_of x.sheet

  abbrev R : Asked
  R = asked x mode c g a out

  abbrev Tests : Wish → List Bool
  Tests = checks rules R.session.opened mode a out

  -- connected only while open
  while_open : (m : ℕ) (live : Bool) → (not (eqb m 3) || live) ≡ true → m ≡ connected → live ≡ true
  while_open m live e h = rw (eq-eqb m 3 h) at e

  open_test : (m : ℕ) (live : Bool) → (m ≡ connected → live ≡ true) → (not (eqb m 3) || live) ≡ true
  open_test m live f = go (decided (eqb m 3))
    where
      go : (eqb m 3 ≡ true) ⊎ (eqb m 3 ≡ false) → (not (eqb m 3) || live) ≡ true
      go (inl e) = rw e (f (eqb-true m 3 e))
      go (inr e) = rw e

  -- the checks before the rights, but for the mode
  pub ready_is :
      (w : Wish) → (heard rules R.session.opened mode a out w ≡ true) ↔ (Ready R × (taken rules w mode ≡ true))
  unfolding heard
  ready_is w = (
    λ e. (
      record {
        buffer = leb-true _ _ (all_at (Tests w) e 0);
        sheet = accepted;
        least = leb-true _ _ (all_at (Tests w) e 1);
        most = leb-true _ _ (all_at (Tests w) e 2);
        mode = leb-true _ _ (all_at (Tests w) e 3);
        session = while_open mode R.session.opened (all_at (Tests w) e 4);
      },
      all_at (Tests w) e 5,
    ),
    λ h.
        simp
        (le-leb _ _ h.0.buffer, le-leb _ _ h.0.least, le-leb _ _ h.0.most, le-leb _ _ h.0.mode, open_test mode R.session.opened h.0.session, h.1),
  )

  -- A REQUEST THAT READS IS HEARD EXACTLY IF IT IS READY AND ITS MODE TAKES IT
  pub heard_is :
      (p : Pdu) → read_pdu a ≡ Ok p → (Idle p → ⊥) →
      (heard rules R.session.opened mode a out (asks a) ≡ true) ↔ (Ready R × Takes rules (service_of p) mode)
  heard_is p e concerned = go (taken_is rules p mode)
    where
      go : Idle p ⊎ ((taken rules (wish_of p) mode ≡ true) ↔ Takes rules (service_of p) mode)
          → (heard rules R.session.opened mode a out (asks a) ≡ true) ↔ (Ready R × Takes rules (service_of p) mode)
      go (inl i) = absurd (concerned i)
      go (inr t) =
          rw (asks_is a p e)
          (λ h. let r = (ready_is (wish_of p)).0 h in (r.0, t.0 r.1), λ h. (ready_is (wish_of p)).1 (h.0, t.1 h.1))

  -- what is heard reads as a PDU that a history is concerned with
  pub heard_reads : heard rules R.session.opened mode a out (asks a) ≡ true → (p : Pdu) × Reads R p
  heard_reads h = go (read_pdu a) refl
    where
      of_none : asks a ≡ nothing → ⊥
      of_none e = never (rw e at ((ready_is (asks a)).0 h).1)

      go : (q : Result Pdu ReadRefusal) → read_pdu a ≡ q → (p : Pdu) × Reads R p
      go (Ok p) e =
          let r = (heard_is p e (λ i. of_none (asks_is a p e ∙ i))).0 h in
          (p, record { ready = r.0; takes = r.1; reads = e })
      go (Err n) e = absurd (of_none (refused_asks a n e))

  pub reads_heard : (p : Pdu) → Reads R p → (Idle p → ⊥) → heard rules R.session.opened mode a out (asks a) ≡ true
  reads_heard p r n = (heard_is p r.reads n).1 (r.ready, r.takes)
