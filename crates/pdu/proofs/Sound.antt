-- The enum and the table say the same: of each service, one line.
use Rattle.octets.proofs.Kit.{ℕ, ◌≡◌, refl, sym, ap, ◌∙◌, true, List, [], ◌∷◌}
use Rattle.pdu.specs.{Item.{Item, low, num, cap, duo, skip, Value, ◌≔◌, the}, Table.row_of, Pdus.{service_of, values_of, pdu_of}, Rules.values_at, declared.{Service.Service, Pdu.Pdu}}
use Rattle.pdu.specs.declared.Pdu.TheVariants.{GroupValueRead, GroupValueResponse, GroupValueWrite, IndividualAddressWrite, IndividualAddressRead, SerialNumberRead, SerialNumberWrite}
use Rattle.pdu.specs.declared.Pdu.TheVariants.{DeviceDescriptorRead, PropertyValueRead, PropertyValueWrite, PropertyDescriptionRead, MemoryRead, MemoryWrite, MemoryBitWrite}
use Rattle.pdu.specs.declared.Pdu.TheVariants.{AuthorizeRequest, KeyWrite, Restart, IndividualAddressResponse, SerialNumberResponse, DeviceDescriptorResponse, PropertyValueResponse}
use Rattle.pdu.specs.declared.Pdu.TheVariants.{PropertyDescriptionResponse, MemoryResponse, AuthorizeResponse, KeyResponse, UserMemoryRead, UserMemoryResponse, UserMemoryWrite}
use Rattle.pdu.specs.declared.Service.TheVariants as svc
use Rattle.pdu.proofs.Formed.{formed}

-- the fields of the items, out of these
abbrev pub chosen : List Item → List Value → List Value
chosen [] x = []
chosen (low f m ∷ is) x = f ≔ the x f ∷ chosen is x
chosen (num f w ∷ is) x = f ≔ the x f ∷ chosen is x
chosen (cap f w m ∷ is) x = f ≔ the x f ∷ chosen is x
chosen (duo f g ∷ is) x = f ≔ the x f ∷ g ≔ the x g ∷ chosen is x
chosen (skip w ∷ is) x = chosen is x

-- the row is well formed; the PDU made of a service has this service and the fields of its row; no two fields of a row have one name
pub record Sound (k : Service) : Type 0 where
  pub form : formed (row_of k) ≡ true
  pub serves : (x : List Value) → service_of (pdu_of k x) ≡ k
  pub values : (x : List Value) → values_of (pdu_of k x) ≡ chosen (row_of k).items x
  pub distinct : (b : List ℕ) → chosen (row_of k).items (values_at (row_of k).items 2 b) ≡ values_at (row_of k).items 2 b

pub sound : (k : Service) → Sound k
sound svc.GroupValueRead = record { form = refl; serves = λ x. refl; values = λ x. refl; distinct = λ b. refl }
sound svc.GroupValueResponse = record { form = refl; serves = λ x. refl; values = λ x. refl; distinct = λ b. refl }
sound svc.GroupValueWrite = record { form = refl; serves = λ x. refl; values = λ x. refl; distinct = λ b. refl }
sound svc.IndividualAddressWrite = record { form = refl; serves = λ x. refl; values = λ x. refl; distinct = λ b. refl }
sound svc.IndividualAddressRead = record { form = refl; serves = λ x. refl; values = λ x. refl; distinct = λ b. refl }
sound svc.SerialNumberRead = record { form = refl; serves = λ x. refl; values = λ x. refl; distinct = λ b. refl }
sound svc.SerialNumberWrite = record { form = refl; serves = λ x. refl; values = λ x. refl; distinct = λ b. refl }
sound svc.DeviceDescriptorRead = record { form = refl; serves = λ x. refl; values = λ x. refl; distinct = λ b. refl }
sound svc.PropertyValueRead = record { form = refl; serves = λ x. refl; values = λ x. refl; distinct = λ b. refl }
sound svc.PropertyValueWrite = record { form = refl; serves = λ x. refl; values = λ x. refl; distinct = λ b. refl }
sound svc.PropertyDescriptionRead = record { form = refl; serves = λ x. refl; values = λ x. refl; distinct = λ b. refl }
sound svc.MemoryRead = record { form = refl; serves = λ x. refl; values = λ x. refl; distinct = λ b. refl }
sound svc.MemoryWrite = record { form = refl; serves = λ x. refl; values = λ x. refl; distinct = λ b. refl }
sound svc.MemoryBitWrite = record { form = refl; serves = λ x. refl; values = λ x. refl; distinct = λ b. refl }
sound svc.AuthorizeRequest = record { form = refl; serves = λ x. refl; values = λ x. refl; distinct = λ b. refl }
sound svc.KeyWrite = record { form = refl; serves = λ x. refl; values = λ x. refl; distinct = λ b. refl }
sound svc.Restart = record { form = refl; serves = λ x. refl; values = λ x. refl; distinct = λ b. refl }
sound svc.IndividualAddressResponse = record { form = refl; serves = λ x. refl; values = λ x. refl; distinct = λ b. refl }
sound svc.SerialNumberResponse = record { form = refl; serves = λ x. refl; values = λ x. refl; distinct = λ b. refl }
sound svc.DeviceDescriptorResponse = record { form = refl; serves = λ x. refl; values = λ x. refl; distinct = λ b. refl }
sound svc.PropertyValueResponse = record { form = refl; serves = λ x. refl; values = λ x. refl; distinct = λ b. refl }
sound svc.PropertyDescriptionResponse = record { form = refl; serves = λ x. refl; values = λ x. refl; distinct = λ b. refl }
sound svc.MemoryResponse = record { form = refl; serves = λ x. refl; values = λ x. refl; distinct = λ b. refl }
sound svc.AuthorizeResponse = record { form = refl; serves = λ x. refl; values = λ x. refl; distinct = λ b. refl }
sound svc.KeyResponse = record { form = refl; serves = λ x. refl; values = λ x. refl; distinct = λ b. refl }
sound svc.UserMemoryRead = record { form = refl; serves = λ x. refl; values = λ x. refl; distinct = λ b. refl }
sound svc.UserMemoryResponse = record { form = refl; serves = λ x. refl; values = λ x. refl; distinct = λ b. refl }
sound svc.UserMemoryWrite = record { form = refl; serves = λ x. refl; values = λ x. refl; distinct = λ b. refl }

-- a PDU is the one of its service and its fields
pub again : (p : Pdu) → pdu_of (service_of p) (values_of p) ≡ p
again GroupValueRead = refl
again (GroupValueResponse a) = refl
again (GroupValueWrite a) = refl
again (IndividualAddressWrite a) = refl
again IndividualAddressRead = refl
again (SerialNumberRead a) = refl
again (SerialNumberWrite a b) = refl
again (DeviceDescriptorRead a) = refl
again (PropertyValueRead a b c d) = refl
again (PropertyValueWrite a b c d) = refl
again (PropertyDescriptionRead a b c) = refl
again (MemoryRead a b) = refl
again (MemoryWrite a b) = refl
again (MemoryBitWrite a b) = refl
again (AuthorizeRequest a) = refl
again (KeyWrite a b) = refl
again Restart = refl
again IndividualAddressResponse = refl
again (SerialNumberResponse a b) = refl
again (DeviceDescriptorResponse a) = refl
again (PropertyValueResponse a b c d) = refl
again (PropertyDescriptionResponse a b c d e f) = refl
again (MemoryResponse a b) = refl
again (AuthorizeResponse a) = refl
again (KeyResponse a) = refl
again (UserMemoryRead a b) = refl
again (UserMemoryResponse a b) = refl
again (UserMemoryWrite a b) = refl

-- so its fields are those of its row
pub shown : (p : Pdu) → chosen (row_of (service_of p)).items (values_of p) ≡ values_of p
shown p = sym ((sound (service_of p)).values (values_of p)) ∙ ap values_of (again p)
