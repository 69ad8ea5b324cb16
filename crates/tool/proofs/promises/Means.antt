-- A PDU laid flat means that PDU, and its kind is its place in the table. Assumes nothing.
use Rattle.octets.proofs.Kit.{◌≡◌, refl, List, some, ℕ, get_elem?}
use Rattle.pdu.specs.{Table.services, declared.{Service.Service, Pdu.{Pdu, TheVariants.{GroupValueRead, GroupValueResponse, GroupValueWrite, IndividualAddressWrite}}}}
use Rattle.pdu.specs.declared.Pdu.TheVariants.{IndividualAddressRead, SerialNumberRead, SerialNumberWrite, DeviceDescriptorRead, PropertyValueRead, PropertyValueWrite}
use Rattle.pdu.specs.declared.Pdu.TheVariants.{PropertyDescriptionRead, MemoryRead, MemoryWrite, MemoryBitWrite, AuthorizeRequest, KeyWrite, Restart, IndividualAddressResponse}
use Rattle.pdu.specs.declared.Pdu.TheVariants.{SerialNumberResponse, DeviceDescriptorResponse, PropertyValueResponse, PropertyDescriptionResponse, MemoryResponse, AuthorizeResponse}
use Rattle.pdu.specs.declared.Pdu.TheVariants.{KeyResponse, UserMemoryRead, UserMemoryResponse, UserMemoryWrite}
use Rattle.pdu.specs.declared.Service.TheVariants as svc
use Rattle.std.proofs.Common.{Some, None}
use Rattle.tool.specs.Flat.{place_in, kind_of, flat_of, refusal, meant_by}

-- THE SERVICE AT THE PLACE OF ITS KIND
pub kind_is : (k : Service) → get_elem? services (kind_of k) ≡ some k
unfolding kind_of place_in
kind_is svc.GroupValueRead = refl
kind_is svc.GroupValueResponse = refl
kind_is svc.GroupValueWrite = refl
kind_is svc.IndividualAddressWrite = refl
kind_is svc.IndividualAddressRead = refl
kind_is svc.SerialNumberRead = refl
kind_is svc.SerialNumberWrite = refl
kind_is svc.DeviceDescriptorRead = refl
kind_is svc.PropertyValueRead = refl
kind_is svc.PropertyValueWrite = refl
kind_is svc.PropertyDescriptionRead = refl
kind_is svc.MemoryRead = refl
kind_is svc.MemoryWrite = refl
kind_is svc.MemoryBitWrite = refl
kind_is svc.AuthorizeRequest = refl
kind_is svc.KeyWrite = refl
kind_is svc.Restart = refl
kind_is svc.IndividualAddressResponse = refl
kind_is svc.SerialNumberResponse = refl
kind_is svc.DeviceDescriptorResponse = refl
kind_is svc.PropertyValueResponse = refl
kind_is svc.PropertyDescriptionResponse = refl
kind_is svc.MemoryResponse = refl
kind_is svc.AuthorizeResponse = refl
kind_is svc.KeyResponse = refl
kind_is svc.UserMemoryRead = refl
kind_is svc.UserMemoryResponse = refl
kind_is svc.UserMemoryWrite = refl

-- THERE AND BACK
pub means : (p : Pdu) (l : List ℕ) → meant_by (flat_of p l) ≡ Some p
unfolding meant_by kind_of place_in
means GroupValueRead l = refl
means (GroupValueResponse a) l = refl
means (GroupValueWrite a) l = refl
means (IndividualAddressWrite a) l = refl
means IndividualAddressRead l = refl
means (SerialNumberRead a) l = refl
means (SerialNumberWrite a b) l = refl
means (DeviceDescriptorRead a) l = refl
means (PropertyValueRead a b c d) l = refl
means (PropertyValueWrite a b c d) l = refl
means (PropertyDescriptionRead a b c) l = refl
means (MemoryRead a b) l = refl
means (MemoryWrite a b) l = refl
means (MemoryBitWrite a b) l = refl
means (AuthorizeRequest a) l = refl
means (KeyWrite a b) l = refl
means Restart l = refl
means IndividualAddressResponse l = refl
means (SerialNumberResponse a b) l = refl
means (DeviceDescriptorResponse a) l = refl
means (PropertyValueResponse a b c d) l = refl
means (PropertyDescriptionResponse a b c d e f) l = refl
means (MemoryResponse a b) l = refl
means (AuthorizeResponse a) l = refl
means (KeyResponse a) l = refl
means (UserMemoryRead a b) l = refl
means (UserMemoryResponse a b) l = refl
means (UserMemoryWrite a b) l = refl

-- WHAT WAS REFUSED MEANS NO PDU: written, it gives 3 or 13
pub refused_means_nothing : (n : ℕ) → meant_by (refusal n) ≡ None
unfolding meant_by
refused_means_nothing n = refl
