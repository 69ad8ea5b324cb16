-- PERMITTED, of a state: as the test that a history makes, and as the propositions of the services.
use Rattle.octets.proofs.Kit.{ℕ, ◌≡◌, sym, ◌↔◌, Bool, true, ◌&&◌, List, arith}
use Rattle.octets.proofs.Truths.{never, and_is}
use Rattle.sheet.{specs.{Head.rules_of, Rules.Accepted, declared.Memory.TheVariants.{Device, User}}, proofs.rules.Good.{Good, good}}
use Rattle.pdu.specs.declared.Pdu.{Pdu, TheVariants.{GroupValueRead, GroupValueResponse, GroupValueWrite, IndividualAddressWrite, IndividualAddressRead, SerialNumberRead}}
use Rattle.pdu.specs.declared.Pdu.TheVariants.{SerialNumberWrite, DeviceDescriptorRead, PropertyValueRead, PropertyValueWrite, PropertyDescriptionRead, MemoryRead, MemoryWrite}
use Rattle.pdu.specs.declared.Pdu.TheVariants.{MemoryBitWrite, AuthorizeRequest, KeyWrite, Restart, IndividualAddressResponse, SerialNumberResponse, DeviceDescriptorResponse}
use Rattle.pdu.specs.declared.Pdu.TheVariants.{PropertyValueResponse, PropertyDescriptionResponse, MemoryResponse, AuthorizeResponse, KeyResponse, UserMemoryRead, UserMemoryResponse}
use Rattle.pdu.specs.declared.Pdu.TheVariants.{UserMemoryWrite}
use Rattle.judge.specs.{Session.connected, declared.Session.Session}
use Rattle.device.specs.{Octets.Octets, Sessions.session_of, Events.State, Asked.{Asked, Reads, given}, Due.asked, MemoryDue.{Write, bytes, bits, writing, MemoryWritable}}
use Rattle.device.specs.{PropertiesDue.WriteAllowed, KeysDue.KeyWritable}
use Rattle.events.specs.Events.{request}
use Rattle.history.specs.{Wish.{nothing, wish_of, asks, brings}, Permit.{level_for, heard, allowed}, History.permits}
use Rattle.history.proofs.{spans.RequestFields.property_id, heard.{Hearing.{asks_is, brings_is, heard_reads, reads_heard}, Meets.{meets, heard_met, level_met}}}
use Rattle.history.proofs.heard.Permits.{memory_is, property_is, key_is}

pub data Permitted (x : Asked) : Type 0 where
  by_memory : (w : Write) (n y o : ℕ) → Reads x (writing w n y) → MemoryWritable x w n y o → Permitted x
  by_property :
      (object id n s : ℕ) → Reads x (PropertyValueWrite object id n s) →
      WriteAllowed x object id n s (given x (PropertyValueWrite object id n s)) → Permitted x
  by_key : (named number : ℕ) → Reads x (KeyWrite named number) → KeyWritable x named → Permitted x

module _ (x : State) (mode c g : ℕ) (a out : List ℕ) (accepted : Accepted x.sheet) (small : Octets x.sheet) (octets : Octets a) where
  abbrev X : Asked
  X = asked x mode c g a out

  abbrev L : ℕ
  L = level_for mode X.session.level

  fine : Good x.sheet
  fine = good x.sheet accepted

  -- allowed, of the PDU that it reads as
  by_pdu : (p : Pdu) → Reads X p → allowed x.sheet L (given X p) (wish_of p) ≡ true → Permitted X
  unfolding allowed
  by_pdu GroupValueRead r e = never e
  by_pdu (GroupValueResponse v) r e = never e
  by_pdu (GroupValueWrite v) r e = never e
  by_pdu (IndividualAddressWrite v) r e = never e
  by_pdu IndividualAddressRead r e = never e
  by_pdu (SerialNumberRead n) r e = never e
  by_pdu (SerialNumberWrite n v) r e = never e
  by_pdu (DeviceDescriptorRead t) r e = never e
  by_pdu (PropertyValueRead o i n s) r e = never e
  by_pdu (PropertyValueWrite o i n s) r e =
      by_property o i n s r ((property_is X fine o i n s _ small (property_id a octets r.reads)).0 e)
  by_pdu (PropertyDescriptionRead o i n) r e = never e
  by_pdu (MemoryRead n y) r e = never e
  by_pdu (MemoryWrite n y) r e =
      let w = (memory_is X fine (bytes Device) n y (given X (MemoryWrite n y))).0 e in by_memory (bytes Device) n y w.0 r w.1
  by_pdu (MemoryBitWrite n y) r e =
      let w = (memory_is X fine bits n y (given X (MemoryBitWrite n y))).0 e in by_memory bits n y w.0 r w.1
  by_pdu (AuthorizeRequest n) r e = never e
  by_pdu (KeyWrite l n) r e = by_key l n r ((key_is X fine l n (given X (KeyWrite l n))).0 e)
  by_pdu Restart r e = never e
  by_pdu IndividualAddressResponse r e = never e
  by_pdu (SerialNumberResponse n d) r e = never e
  by_pdu (DeviceDescriptorResponse t) r e = never e
  by_pdu (PropertyValueResponse o i n s) r e = never e
  by_pdu (PropertyDescriptionResponse o i n k m l) r e = never e
  by_pdu (MemoryResponse n y) r e = never e
  by_pdu (AuthorizeResponse l) r e = never e
  by_pdu (KeyResponse l) r e = never e
  by_pdu (UserMemoryRead n y) r e = never e
  by_pdu (UserMemoryResponse n y) r e = never e
  by_pdu (UserMemoryWrite n y) r e =
      let w = (memory_is X fine (bytes User) n y (given X (UserMemoryWrite n y))).0 e in by_memory (bytes User) n y w.0 r w.1

  -- A WRITE IS PERMITTED EXACTLY IF THE PROPOSITIONS OF ITS SERVICE HOLD
  pub permitted_is :
      (permits x.sheet (λ d. (session_of x.sessions d).opened) (λ d. (session_of x.sessions d).level) (request mode c g a out) ≡ true) ↔ Permitted X
  permitted_is = rw (heard_met mode Q X.session met (rules_of x.sheet) a out (asks a), level_met mode Q X.session met) (on, back)
    where
      Q : Session
      Q = session_of x.sessions c

      met : mode ≡ connected → session_of x.sessions c ≡ X.session
      met m = sym (meets x.sessions mode c m)

      H : Bool
      H = heard (rules_of x.sheet) X.session.opened mode a out (asks a)

      A : Bool
      A = allowed x.sheet L (brings a) (asks a)

      of_pdu : (p : Pdu) → Reads X p → A ≡ true → Permitted X
      of_pdu p r e = by_pdu p r (rw (asks_is a p r.reads, brings_is a p r.reads) at e)

      on : (H && A) ≡ true → Permitted X
      on e =
          let b = (and_is H A).0 e in
          let q = heard_reads x mode c g a out accepted b.0 in
          of_pdu q.0 q.1 b.1

      so : (p : Pdu) → Reads X p → (wish_of p ≡ nothing → ⊥) → allowed x.sheet L (given X p) (wish_of p) ≡ true → (H && A) ≡ true
      so p r n e =
          (and_is H A).1
          (reads_heard x mode c g a out accepted p r n, rw (asks_is a p r.reads, brings_is a p r.reads) e)

      back : Permitted X → (H && A) ≡ true
      back (by_memory (bytes Device) n y o r w) =
          so (MemoryWrite n y) r (λ e. let z : ◌≡◌ {A = ℕ} 0 1 = cc in omega arith) ((memory_is X fine (bytes Device) n y _).1 (o, w))
      back (by_memory (bytes User) n y o r w) =
          so (UserMemoryWrite n y) r (λ e. let z : ◌≡◌ {A = ℕ} 0 1 = cc in omega arith) ((memory_is X fine (bytes User) n y _).1 (o, w))
      back (by_memory bits n y o r w) =
          so (MemoryBitWrite n y) r (λ e. let z : ◌≡◌ {A = ℕ} 0 1 = cc in omega arith) ((memory_is X fine bits n y _).1 (o, w))
      back (by_property o i n s r w) =
          so (PropertyValueWrite o i n s) r (λ e. let z : ◌≡◌ {A = ℕ} 0 1 = cc in omega arith)
          ((property_is X fine o i n s _ small (property_id a octets r.reads)).1 w)
      back (by_key l n r w) =
          so (KeyWrite l n) r (λ e. let z : ◌≡◌ {A = ℕ} 0 1 = cc in omega arith) ((key_is X fine l n _).1 w)
