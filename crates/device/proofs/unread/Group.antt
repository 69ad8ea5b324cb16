-- No service that another mode than multicast takes asks for the group address.
use Rattle.octets.proofs.Kit.{ℕ, ◌≡◌, refl, subst, Bool, true, false, cond, not, List}
use Rattle.std.proofs.Common.{Option, Some, None, Result, Ok, Err}
use Rattle.pdu.specs.declared.ReadRefusal.{ReadRefusal}
use Rattle.octets.proofs.Truths.{equal_is}
use Rattle.sheet.specs.Head.{rules_of}
use Rattle.pdu.specs.{Table.service_at, Rules.code_of, Pdus.service_of, Read.{read_pdu, data_of}, declared.Service.Service}
use Rattle.pdu.specs.declared.Pdu.{Pdu, TheVariants.{GroupValueRead, GroupValueResponse, GroupValueWrite, IndividualAddressWrite}}
use Rattle.pdu.specs.declared.Pdu.TheVariants.{IndividualAddressRead, SerialNumberRead, SerialNumberWrite, DeviceDescriptorRead, PropertyValueRead, PropertyValueWrite}
use Rattle.pdu.specs.declared.Pdu.TheVariants.{PropertyDescriptionRead, MemoryRead, MemoryWrite, MemoryBitWrite, AuthorizeRequest, KeyWrite, Restart, IndividualAddressResponse}
use Rattle.pdu.specs.declared.Pdu.TheVariants.{SerialNumberResponse, DeviceDescriptorResponse, PropertyValueResponse, PropertyDescriptionResponse, MemoryResponse, AuthorizeResponse}
use Rattle.pdu.{specs.declared.Pdu.TheVariants.{KeyResponse, UserMemoryRead, UserMemoryResponse, UserMemoryWrite}, proofs.promises.Readings.reading}
use Rattle.judge.specs.{declared.{Session.Session, Decision.Decision}, Session.{multicast, level_in}, Modes.{reach_of, reaches, takes}, Judge.{decide_of, read_of, reached_of, found_of, judge_of}}
use Rattle.device.specs.Asked.{Takes}
use Rattle.device.proofs.due.Taking.{takes_is, taken}

-- what is decided where a test holds is the same if it is under that test
if_holds : (t : Bool) (x y z : Decision) → (t ≡ true → x ≡ y) → cond (not t) z x ≡ cond (not t) z y
if_holds true x y z f = f refl
if_holds false x y z f = refl

module _ (room : ℕ) (s : List ℕ) (q : Session) (mode : ℕ) (a : List ℕ) (g g' : ℕ) (other : mode ≡ multicast → ⊥) where
  -- no service that another mode takes asks for the group address
  decide_other : (l : ℕ) (d : List ℕ) (p : Pdu) → Takes (rules_of s) (service_of p) mode → decide_of s l g d p ≡ decide_of s l g' d p
  decide_other l d GroupValueRead t = absurd (other ((equal_is mode 0).0 (taken t)))
  decide_other l d (GroupValueResponse v) t = absurd (other ((equal_is mode 0).0 (taken t)))
  decide_other l d (GroupValueWrite v) t = absurd (other ((equal_is mode 0).0 (taken t)))
  decide_other l d (IndividualAddressWrite address) t = refl
  decide_other l d IndividualAddressRead t = refl
  decide_other l d (SerialNumberRead serial) t = refl
  decide_other l d (SerialNumberWrite serial address) t = refl
  decide_other l d (DeviceDescriptorRead n) t = refl
  decide_other l d (PropertyValueRead object id n z) t = refl
  decide_other l d (PropertyValueWrite object id n z) t = refl
  decide_other l d (PropertyDescriptionRead object id index) t = refl
  decide_other l d (MemoryRead n address) t = refl
  decide_other l d (MemoryWrite n address) t = refl
  decide_other l d (MemoryBitWrite n address) t = refl
  decide_other l d (AuthorizeRequest key) t = refl
  decide_other l d (KeyWrite named key) t = refl
  decide_other l d Restart t = refl
  decide_other l d IndividualAddressResponse t = refl
  decide_other l d (SerialNumberResponse serial domain) t = refl
  decide_other l d (DeviceDescriptorResponse n) t = refl
  decide_other l d (PropertyValueResponse object id n z) t = refl
  decide_other l d (PropertyDescriptionResponse object id index kind maximum access) t = refl
  decide_other l d (MemoryResponse n address) t = refl
  decide_other l d (AuthorizeResponse named) t = refl
  decide_other l d (KeyResponse named) t = refl
  decide_other l d (UserMemoryRead n address) t = refl
  decide_other l d (UserMemoryResponse n address) t = refl
  decide_other l d (UserMemoryWrite n address) t = refl

  read_other :
      (l : ℕ) (k : Service) → service_at (code_of a) ≡ Some k → Takes (rules_of s) k mode → (z : Result Pdu ReadRefusal) → read_pdu a ≡ z →
      read_of s l g a z ≡ read_of s l g' a z
  read_other l k e t (Ok p) r =
      let n = (reading a p r).names in
      let i : k ≡ service_of p = cc in
      decide_other l (data_of p a) p (subst (λ (j : Service). Takes (rules_of s) j mode) i t)
  read_other l k e t (Err n) r = refl

  found_other : (f : Option Service) → service_at (code_of a) ≡ f → found_of s q mode g a f ≡ found_of s q mode g' a f
  unfolding reached_of
  found_other None e = refl
  found_other (Some k) e =
      let rules = rules_of s in
      if_holds (reaches (reach_of rules k)) _ _ _
      (λ h.
      if_holds (takes (reach_of rules k) mode) _ _ _
      (λ t. read_other (level_in q mode) k e ((takes_is rules mode k).0 t) (read_pdu a) refl))

  pub judge_other : judge_of room s q mode g a ≡ judge_of room s q mode g' a
  unfolding judge_of
  judge_other = rw (found_other (service_at (code_of a)) refl)
