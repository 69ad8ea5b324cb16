-- DEMAND 2: the step that is done is the step that is due, and no other is due.
use Rattle.octets.proofs.Kit.{◌≡◌, refl, sym, subst}
use Rattle.std.proofs.Common.{Result}
use Rattle.pdu.specs.declared.ReadRefusal.{ReadRefusal}
use Rattle.octets.proofs.Truths.{never}
use Rattle.sheet.specs.declared.Memory.TheVariants.{Device, User}
use Rattle.pdu.specs.{Read.read_pdu, declared.Pdu.{Pdu, TheVariants.{GroupValueRead, GroupValueResponse, GroupValueWrite, IndividualAddressWrite, IndividualAddressRead, SerialNumberRead}}}
use Rattle.pdu.specs.declared.Pdu.TheVariants.{SerialNumberWrite, DeviceDescriptorRead, PropertyValueRead, PropertyValueWrite, PropertyDescriptionRead, MemoryRead, MemoryWrite}
use Rattle.pdu.specs.declared.Pdu.TheVariants.{MemoryBitWrite, AuthorizeRequest, KeyWrite, Restart, IndividualAddressResponse, SerialNumberResponse, DeviceDescriptorResponse}
use Rattle.pdu.specs.declared.Pdu.TheVariants.{PropertyValueResponse, PropertyDescriptionResponse, MemoryResponse, AuthorizeResponse, KeyResponse, UserMemoryRead, UserMemoryResponse}
use Rattle.pdu.specs.declared.Pdu.TheVariants.{UserMemoryWrite}
use Rattle.judge.specs.{declared.Decision.Decision, Session.level_in, Judge.{decide_of, data_in}}
use Rattle.device.specs.{Octets.Octets, Demand2.{Serves, done}, Step.{Step, step_by, step_of}, Asked.{Asked, Reads, given}, GroupsDue.Brings, Right.Right}
use Rattle.device.specs.Right as due
use Rattle.device.specs.GroupsDue as groups
use Rattle.device.specs.AddressesDue as addresses
use Rattle.device.specs.PropertiesDue as properties
use Rattle.device.specs.MemoryDue as memory
use Rattle.device.specs.KeysDue as keys
use Rattle.device.proofs.due.{Taking.taken, RequestCases.request_cases, Stepped.{step_refused, step_unknown, step_other, step_unfit}, RightGroups.{right_group_read, right_group_put}}
use Rattle.device.proofs.due.RightGroups.{only_group_read0, only_group_read, only_no_group_read, only_group_put0, only_group_put, only_group_length, only_no_group_put}
use Rattle.device.proofs.due.RightAddresses.{right_address_write, right_address_read, right_serial_read, right_serial_write, right_descriptor, only_address_write}
use Rattle.device.proofs.due.RightAddresses.{only_no_address_write, only_address_read, only_no_address_read, only_serial_read, only_no_serial_read, only_serial_write}
use Rattle.device.proofs.due.{RightAddresses.{only_no_serial_write, only_descriptor, only_no_descriptor, only_descriptor_denied}, RightProperties.right_property_read}
use Rattle.device.proofs.due.RightProperties.{right_property_write, only_property_count, only_property_read, only_no_property_read, only_property_clear, only_property_write}
use Rattle.device.proofs.due.{RightProperties.only_no_property_write, RightDescriptions.{right_description, only_description, only_no_description}}
use Rattle.device.proofs.due.Changes.{change_of_lem, right_memory_write, only_verified, only_stored, only_denied, only_refused}
use Rattle.device.proofs.due.RightMemory.{right_memory_read, only_memory_read, only_no_memory_read}
use Rattle.device.proofs.due.RightKeys.{right_authorize, right_key_write, right_restart, only_authorize, only_key_write, only_no_key_write, only_restart}

module _ (x : Asked) (hs : Octets x.sheet) (ha : Octets x.apdu) where
  -- of a request that reads
  right_read :
      (p : Pdu) → Reads x p →
      Right x (step_by x.sheet x.session (given x p) (decide_of x.sheet (level_in x.session x.mode) x.group (given x p) p))
  right_read GroupValueRead r = due.groups (right_group_read x r)
  right_read (GroupValueResponse v) r = due.groups (right_group_put x (GroupValueResponse v) v 4 r (Brings.response v))
  right_read (GroupValueWrite v) r = due.groups (right_group_put x (GroupValueWrite v) v 2 r (Brings.write v))
  right_read (IndividualAddressWrite address) r = due.addresses (right_address_write x address r)
  right_read IndividualAddressRead r = due.addresses (right_address_read x r)
  right_read (SerialNumberRead serial) r = due.addresses (right_serial_read x serial r)
  right_read (SerialNumberWrite serial address) r = due.addresses (right_serial_write x serial address r)
  right_read (DeviceDescriptorRead t) r = due.addresses (right_descriptor x t r)
  right_read (PropertyValueRead object id n s) r = due.properties (right_property_read x object id n s r hs ha)
  right_read (PropertyValueWrite object id n s) r = due.properties (right_property_write x object id n s r hs ha)
  right_read (PropertyDescriptionRead object id index) r = due.properties (right_description x object id index r hs ha)
  right_read (MemoryRead n address) r = due.memory (right_memory_read x Device n address r)
  right_read (MemoryWrite n address) r = due.memory (right_memory_write x (memory.bytes Device) n address r)
  right_read (MemoryBitWrite n address) r = due.memory (right_memory_write x memory.bits n address r)
  right_read (AuthorizeRequest key) r = due.keys (right_authorize x key r)
  right_read (KeyWrite named key) r = due.keys (right_key_write x named key r)
  right_read Restart r = due.keys (right_restart x r)
  right_read IndividualAddressResponse r = never (taken r.takes)
  right_read (SerialNumberResponse serial domain) r = never (taken r.takes)
  right_read (DeviceDescriptorResponse t) r = never (taken r.takes)
  right_read (PropertyValueResponse object id n s) r = never (taken r.takes)
  right_read (PropertyDescriptionResponse object id index kind maximum access) r = never (taken r.takes)
  right_read (MemoryResponse n address) r = never (taken r.takes)
  right_read (AuthorizeResponse level) r = never (taken r.takes)
  right_read (KeyResponse level) r = never (taken r.takes)
  right_read (UserMemoryRead n address) r = due.memory (right_memory_read x User n address r)
  right_read (UserMemoryResponse n address) r = never (taken r.takes)
  right_read (UserMemoryWrite n address) r = due.memory (right_memory_write x (memory.bytes User) n address r)

  -- WHAT IS DONE IS DUE
  pub right : Right x (step_of x.room x.sheet x.session x.mode x.group x.apdu)
  unfolding step_of step_by
  right =
      request_cases x (λ (k : Decision). Right x (step_by x.sheet x.session (data_in (read_pdu x.apdu) x.apdu) k))
      (λ k r n v t. due.other_mode k r n v t) (λ r f. due.unknown r f) (λ k r n t e. due.unfit k r n t e)
      (λ p r.
      subst
      (λ (z : Result Pdu ReadRefusal). Right x (step_by x.sheet x.session (data_in z x.apdu) (decide_of x.sheet (level_in x.session x.mode) x.group (given x p) p)))
      (sym r.reads) (right_read p r))
      (λ n r. due.before_service r)

  -- AND NOTHING ELSE IS
  pub right_only : (r : Step) → Right x r → r ≡ step_of x.room x.sheet x.session x.mode x.group x.apdu
  right_only r (due.before_service h) = step_refused x h
  right_only r (due.unknown h f) = step_unknown x h f
  right_only r (due.other_mode k h n v t) = step_other x k h n v t
  right_only r (due.unfit k h n t e) = step_unfit x k h n t e
  right_only r (due.groups (groups.group_read0 i h g f z)) = only_group_read0 x h i g f z
  right_only r (due.groups (groups.group_read i h g f z)) = only_group_read x h i g f z
  right_only r (due.groups (groups.no_group_read h f)) = only_no_group_read x h f
  right_only r (due.groups (groups.group_put0 p v w i h b g f z d)) = only_group_put0 x p v w h b i g f z d
  right_only r (due.groups (groups.group_put p v w i h b g f z d)) = only_group_put x p v w h b i g f z d
  right_only r (due.groups (groups.group_length p v w i h b g f d)) = only_group_length x p v w h b i g f d
  right_only r (due.groups (groups.no_group_put p v w h b f)) = only_no_group_put x p v w h b f
  right_only r (due.addresses (addresses.address_write address h m)) = only_address_write x address h m
  right_only r (due.addresses (addresses.no_address_write address h m)) = only_no_address_write x address h m
  right_only r (due.addresses (addresses.address_read h m)) = only_address_read x h m
  right_only r (due.addresses (addresses.no_address_read h m)) = only_no_address_read x h m
  right_only r (due.addresses (addresses.serial_read serial h e)) = only_serial_read x serial h e
  right_only r (due.addresses (addresses.no_serial_read serial h e)) = only_no_serial_read x serial h e
  right_only r (due.addresses (addresses.serial_write serial address h e)) = only_serial_write x serial address h e
  right_only r (due.addresses (addresses.no_serial_write serial address h e)) = only_no_serial_write x serial address h e
  right_only r (due.addresses (addresses.descriptor h)) = only_descriptor x h
  right_only r (due.addresses (addresses.no_descriptor t h l k)) = only_no_descriptor x t h l k
  right_only r (due.addresses (addresses.descriptor_denied t h l k)) = only_descriptor_denied x t h l k
  right_only r (due.properties (properties.property_count object id i h p)) = only_property_count x object id 1 0 h i p refl refl
  right_only r (due.properties (properties.property_read object id n s i h p m l)) = only_property_read x object id n s h i p m l
  right_only r (due.properties (properties.no_property_read object id n s h f)) = only_no_property_read x object id n s h hs ha f
  right_only r (due.properties (properties.property_clear object id i h w e)) = only_property_clear x object id 1 0 h i w refl refl e
  right_only r (due.properties (properties.property_write object id n s i d h w e m l)) = rw e (only_property_write x object id n s h i w m (rw e at l))
  right_only r (due.properties (properties.no_property_write object id n s h f)) = only_no_property_write x object id n s h hs ha f
  right_only r (due.properties (properties.description object id index i h e)) = only_description x object id index h i e
  right_only r (due.properties (properties.no_description object id index h f)) = only_no_description x object id index h hs ha f
  right_only r (due.memory (memory.memory_read m n address o h p)) = only_memory_read x m n address h o p
  right_only r (due.memory (memory.no_memory_read m n address h f)) = only_no_memory_read x m n address h f
  right_only r (due.memory (memory.memory_write_verified w n address o d h p e v)) = rw ((change_of_lem x w n address h).only o d e) (only_verified x w n address h o p v)
  right_only r (due.memory (memory.memory_write w n address o d h p e v)) = rw ((change_of_lem x w n address h).only o d e) (only_stored x w n address h o p v)
  right_only r (due.memory (memory.no_memory_write_verified w n address h f v)) = only_denied x w n address h f v
  right_only r (due.memory (memory.no_memory_write w n address h f v)) = only_refused x w n address h f v
  right_only r (due.keys (keys.authorize key level h g)) = only_authorize x key h level g
  right_only r (due.keys (keys.key_write named key h w)) = only_key_write x named key h w
  right_only r (due.keys (keys.no_key_write named key h f)) = only_no_key_write x named key h f
  right_only r (due.keys (keys.restart h)) = only_restart x h

-- SO OUR DEVICE MEETS DEMAND 2
pub serves_ours : Serves done
serves_ours x hs ha = right x hs ha
