-- The PDUs: the service and the named fields of each.
use Rattle.std.specs.Prelude.{List, [], ◌∷◌}
use Rattle.pdu.specs.Item.{Value, ◌≔◌, the, V6, Address, Serial, Domain, T, Object, Id, N, S, Index, Typ, Maximum, Access, Level, Key}
use Rattle.pdu.specs.declared.Service.{Service}
use Rattle.pdu.specs.declared.Service.TheVariants as svc
use Rattle.pdu.specs.declared.Pdu.{Pdu}
use Rattle.pdu.specs.declared.Pdu.TheVariants.{GroupValueRead, GroupValueResponse, GroupValueWrite, IndividualAddressWrite, IndividualAddressRead, SerialNumberRead, SerialNumberWrite}
use Rattle.pdu.specs.declared.Pdu.TheVariants.{DeviceDescriptorRead, PropertyValueRead, PropertyValueWrite, PropertyDescriptionRead, MemoryRead, MemoryWrite, MemoryBitWrite}
use Rattle.pdu.specs.declared.Pdu.TheVariants.{AuthorizeRequest, KeyWrite, Restart, IndividualAddressResponse, SerialNumberResponse, DeviceDescriptorResponse, PropertyValueResponse}
use Rattle.pdu.specs.declared.Pdu.TheVariants.{PropertyDescriptionResponse, MemoryResponse, AuthorizeResponse, KeyResponse, UserMemoryRead, UserMemoryResponse, UserMemoryWrite}

pub record Content : Type 0 where
  pub service : Service
  pub values : List Value

infix 20 ◌having◌
abbrev pub ◌having◌ : Service → List Value → Content
k having x = record { service = k; values = x }

-- THE SERVICE OF A PDU, and the fields that it has, by name
abbrev pub content_of : Pdu → Content
content_of GroupValueRead = svc.GroupValueRead having []
content_of (GroupValueResponse v) = svc.GroupValueResponse having V6 ≔ v ∷ []
content_of (GroupValueWrite v) = svc.GroupValueWrite having V6 ≔ v ∷ []
content_of (IndividualAddressWrite address) = svc.IndividualAddressWrite having Address ≔ address ∷ []
content_of IndividualAddressRead = svc.IndividualAddressRead having []
content_of (SerialNumberRead serial) = svc.SerialNumberRead having Serial ≔ serial ∷ []
content_of (SerialNumberWrite serial address) = svc.SerialNumberWrite having Serial ≔ serial ∷ Address ≔ address ∷ []
content_of (DeviceDescriptorRead t) = svc.DeviceDescriptorRead having T ≔ t ∷ []
content_of (PropertyValueRead object id n s) = svc.PropertyValueRead having Object ≔ object ∷ Id ≔ id ∷ N ≔ n ∷ S ≔ s ∷ []
content_of (PropertyValueWrite object id n s) = svc.PropertyValueWrite having Object ≔ object ∷ Id ≔ id ∷ N ≔ n ∷ S ≔ s ∷ []
content_of (PropertyDescriptionRead object id index) = svc.PropertyDescriptionRead having Object ≔ object ∷ Id ≔ id ∷ Index ≔ index ∷ []
content_of (MemoryRead n address) = svc.MemoryRead having N ≔ n ∷ Address ≔ address ∷ []
content_of (MemoryWrite n address) = svc.MemoryWrite having N ≔ n ∷ Address ≔ address ∷ []
content_of (MemoryBitWrite n address) = svc.MemoryBitWrite having N ≔ n ∷ Address ≔ address ∷ []
content_of (AuthorizeRequest key) = svc.AuthorizeRequest having Key ≔ key ∷ []
content_of (KeyWrite level key) = svc.KeyWrite having Level ≔ level ∷ Key ≔ key ∷ []
content_of Restart = svc.Restart having []
content_of IndividualAddressResponse = svc.IndividualAddressResponse having []
content_of (SerialNumberResponse serial domain) = svc.SerialNumberResponse having Serial ≔ serial ∷ Domain ≔ domain ∷ []
content_of (DeviceDescriptorResponse t) = svc.DeviceDescriptorResponse having T ≔ t ∷ []
content_of (PropertyValueResponse object id n s) = svc.PropertyValueResponse having Object ≔ object ∷ Id ≔ id ∷ N ≔ n ∷ S ≔ s ∷ []
content_of (PropertyDescriptionResponse object id index typ maximum access) =
    svc.PropertyDescriptionResponse having Object ≔ object ∷ Id ≔ id ∷ Index ≔ index ∷ Typ ≔ typ ∷ Maximum ≔ maximum ∷ Access ≔ access ∷ []
content_of (MemoryResponse n address) = svc.MemoryResponse having N ≔ n ∷ Address ≔ address ∷ []
content_of (AuthorizeResponse level) = svc.AuthorizeResponse having Level ≔ level ∷ []
content_of (KeyResponse level) = svc.KeyResponse having Level ≔ level ∷ []
content_of (UserMemoryRead n address) = svc.UserMemoryRead having N ≔ n ∷ Address ≔ address ∷ []
content_of (UserMemoryResponse n address) = svc.UserMemoryResponse having N ≔ n ∷ Address ≔ address ∷ []
content_of (UserMemoryWrite n address) = svc.UserMemoryWrite having N ≔ n ∷ Address ≔ address ∷ []

abbrev pub service_of : Pdu → Service
service_of p = (content_of p).service

abbrev pub values_of : Pdu → List Value
values_of p = (content_of p).values

-- the PDU of a service with these fields
abbrev pub pdu_of : Service → List Value → Pdu
pdu_of svc.GroupValueRead x = GroupValueRead
pdu_of svc.GroupValueResponse x = GroupValueResponse (the x V6)
pdu_of svc.GroupValueWrite x = GroupValueWrite (the x V6)
pdu_of svc.IndividualAddressWrite x = IndividualAddressWrite (the x Address)
pdu_of svc.IndividualAddressRead x = IndividualAddressRead
pdu_of svc.SerialNumberRead x = SerialNumberRead (the x Serial)
pdu_of svc.SerialNumberWrite x = SerialNumberWrite (the x Serial) (the x Address)
pdu_of svc.DeviceDescriptorRead x = DeviceDescriptorRead (the x T)
pdu_of svc.PropertyValueRead x = PropertyValueRead (the x Object) (the x Id) (the x N) (the x S)
pdu_of svc.PropertyValueWrite x = PropertyValueWrite (the x Object) (the x Id) (the x N) (the x S)
pdu_of svc.PropertyDescriptionRead x = PropertyDescriptionRead (the x Object) (the x Id) (the x Index)
pdu_of svc.MemoryRead x = MemoryRead (the x N) (the x Address)
pdu_of svc.MemoryWrite x = MemoryWrite (the x N) (the x Address)
pdu_of svc.MemoryBitWrite x = MemoryBitWrite (the x N) (the x Address)
pdu_of svc.AuthorizeRequest x = AuthorizeRequest (the x Key)
pdu_of svc.KeyWrite x = KeyWrite (the x Level) (the x Key)
pdu_of svc.Restart x = Restart
pdu_of svc.IndividualAddressResponse x = IndividualAddressResponse
pdu_of svc.SerialNumberResponse x = SerialNumberResponse (the x Serial) (the x Domain)
pdu_of svc.DeviceDescriptorResponse x = DeviceDescriptorResponse (the x T)
pdu_of svc.PropertyValueResponse x = PropertyValueResponse (the x Object) (the x Id) (the x N) (the x S)
pdu_of svc.PropertyDescriptionResponse x =
    PropertyDescriptionResponse (the x Object) (the x Id) (the x Index) (the x Typ) (the x Maximum) (the x Access)
pdu_of svc.MemoryResponse x = MemoryResponse (the x N) (the x Address)
pdu_of svc.AuthorizeResponse x = AuthorizeResponse (the x Level)
pdu_of svc.KeyResponse x = KeyResponse (the x Level)
pdu_of svc.UserMemoryRead x = UserMemoryRead (the x N) (the x Address)
pdu_of svc.UserMemoryResponse x = UserMemoryResponse (the x N) (the x Address)
pdu_of svc.UserMemoryWrite x = UserMemoryWrite (the x N) (the x Address)
