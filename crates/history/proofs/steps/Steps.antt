-- Every step that is due does what the history says.
use Rattle.octets.proofs.Kit.{ℕ, ◌≡◌, refl, sym, ap, subst, ◌∙◌, false, List, [], length, arith}
use Rattle.sheet.specs.{Head.rules_of, Rules.Accepted, declared.Memory.TheVariants.{Device, User}}
use Rattle.pdu.specs.declared.Pdu.{Pdu, TheVariants.{GroupValueRead, IndividualAddressRead, SerialNumberRead, DeviceDescriptorRead, PropertyValueRead, PropertyDescriptionRead, MemoryRead}}
use Rattle.pdu.specs.declared.Pdu.TheVariants.{UserMemoryRead}
use Rattle.device.{specs.{Octets.Octets, Step.Step, Events.State, Asked.{Asked, Reads}, Due.asked, Right.Right}, proofs.due.WasReady.late}
use Rattle.pdu.specs.declared.ReadRefusal.TheVariants as unread
use Rattle.device.specs.Right as right
use Rattle.device.specs.GroupsDue as groups
use Rattle.device.specs.AddressesDue as addresses
use Rattle.device.specs.PropertiesDue as properties
use Rattle.device.specs.MemoryDue as memory
use Rattle.device.specs.KeysDue as keys
use Rattle.events.specs.Events.{Event, request}
use Rattle.history.specs.{Wish.asks, Permit.heard, History.First, Keeps.{Begins, Writing, CarriedOut}}
use Rattle.history.proofs.{heard.Hearing.{Idle, asks_is}, steps.{Invariant.{Inv, now_accepted}, Requests.{ends, Ok, heard_so, Done, unheard_same, unheard_forbidden, left}}}
use Rattle.history.proofs.{heard.Unheard.{refusal_unheard, nothing_unheard, unread_unheard, unknown_unheard, mode_unheard}, steps.MemorySteps.{memory_written, memory_denied}}
use Rattle.history.proofs.steps.{KeySteps.{key_written, key_denied, authorized}, PropertySteps.{property_denied, property_cleared, property_written}}
use Rattle.history.proofs.steps.OtherSteps.{address_written, address_unwritten, serial_written, serial_unwritten, restarted}
use Rattle.history.proofs.steps.GroupSteps.{value_left, unfit, bits_stored, bytes_stored}

module _ (f : First) (b : Begins f) (h : List Event) (x : State) (inv : Inv f h x) (mode c g : ℕ) (a out : List ℕ) (octets : Octets a) where
  abbrev R : Asked
  R = asked x mode c g a out

  accepted : Accepted x.sheet
  accepted = now_accepted inv b

  -- what is not heard
  unheard :
      heard (rules_of x.sheet) R.session.opened mode a out (asks a) ≡ false → (n : ℕ) (d : List ℕ) → (CarriedOut (request mode c g a out) n → ⊥) →
      Done f h mode c g a out (ends R n d x.sheet)
  unheard e n d none =
      let o : Ok f h mode c g a out ≡ false = heard_so f h mode c g a out x inv ∙ e in
      left f h mode c g a out x inv (unheard_same f h mode c g a out o) (unheard_forbidden f h mode c g a out o) n d none

  idle : (p : Pdu) → Idle p → Reads R p → (n : ℕ) (d : List ℕ) → Done f h mode c g a out (ends R n d x.sheet)
  idle p i r n d =
      let e = asks_is a p r.reads ∙ i in
      unheard (nothing_unheard x mode c g a out accepted e) n d (λ z. subst Writing e z.writing)

  -- EVERY STEP THAT IS DUE
  pub due : {r : Step} → Right R r → Done f h mode c g a out r
  due (right.before_service {n} q) =
      unheard (refusal_unheard x mode c g a out accepted q) n [] (λ z. omega (arith, z.outcome, late q))
  due (right.unknown r q) = unheard (unknown_unheard x mode c g a out accepted q) 8 [] (λ z. omega (arith, z.outcome))
  due (right.other_mode k r n s q) = unheard (mode_unheard x mode c g a out accepted k n q) 9 [] (λ z. omega (arith, z.outcome))
  due (right.unfit k r n t q) = unheard (unread_unheard x mode c g a out accepted unread.Fields q) 10 [] (λ z. omega (arith, z.outcome))
  due (right.groups (groups.group_read0 i r m n o)) = idle GroupValueRead refl r 0 _
  due (right.groups (groups.group_read i r m n o)) = idle GroupValueRead refl r 0 _
  due (right.groups (groups.no_group_read r q)) = idle GroupValueRead refl r 2 []
  due (right.groups (groups.group_put0 p v k i r q m n o d)) = bits_stored f b h x inv mode c g a out octets p v k r q i m n (ap length d ∙ sym o) o 1 []
  due (right.groups (groups.group_put p v k i r q m n o d)) = bytes_stored f b h x inv mode c g a out octets p v k r q i m n d o 1 []
  due (right.groups (groups.group_length p v k i r q m n o)) = value_left f b h x inv mode c g a out octets p v k r q (unfit f b h x inv mode c g a out octets p v k r q i m o) 10 []
  due (right.groups (groups.no_group_put p v k r q o)) = value_left f b h x inv mode c g a out octets p v k r q (λ i m n l. o i m n) 2 []
  due (right.addresses (addresses.address_write v r o)) = address_written f b h x inv mode c g a out v octets r o 1 []
  due (right.addresses (addresses.no_address_write v r o)) = address_unwritten f b h x inv mode c g a out v r o 2 []
  due (right.addresses (addresses.address_read r o)) = idle IndividualAddressRead refl r 0 _
  due (right.addresses (addresses.no_address_read r o)) = idle IndividualAddressRead refl r 2 []
  due (right.addresses (addresses.serial_read n r o)) = idle (SerialNumberRead n) refl r 0 _
  due (right.addresses (addresses.no_serial_read n r o)) = idle (SerialNumberRead n) refl r 2 []
  due (right.addresses (addresses.serial_write n v r o)) = serial_written f b h x inv mode c g a out n v octets r o 1 []
  due (right.addresses (addresses.no_serial_write n v r o)) = serial_unwritten f b h x inv mode c g a out n v r o 2 []
  due (right.addresses (addresses.descriptor r)) = idle (DeviceDescriptorRead 0) refl r 0 _
  due (right.addresses (addresses.no_descriptor t r o l)) = idle (DeviceDescriptorRead t) refl r 2 []
  due (right.addresses (addresses.descriptor_denied t r o l)) = idle (DeviceDescriptorRead t) refl r 11 _
  due (right.properties (properties.property_count o d i r q)) = idle (PropertyValueRead o d 1 0) refl r 0 _
  due (right.properties (properties.property_read o d n z i r q e l)) = idle (PropertyValueRead o d n z) refl r 0 _
  due (right.properties (properties.no_property_read o d n z r q)) = idle (PropertyValueRead o d n z) refl r 11 _
  due (right.properties (properties.property_clear o d i r w e)) = property_cleared f b h x inv mode c g a out octets o d i w r e 0 _ (omega arith)
  due (right.properties (properties.property_write o d n z i ds r w e el size)) =
      property_written f b h x inv mode c g a out octets o d i w n z ds r e el size 0 _ (omega arith)
  due (right.properties (properties.no_property_write o d n z r q)) = property_denied f b h x inv mode c g a out octets o d n z r q 11 _ (λ z. omega arith)
  due (right.properties (properties.description o d n i r q)) = idle (PropertyDescriptionRead o d n) refl r 0 _
  due (right.properties (properties.no_description o d n r q)) = idle (PropertyDescriptionRead o d n) refl r 11 _
  due (right.memory (memory.memory_read Device n y o r q)) = idle (MemoryRead n y) refl r 0 _
  due (right.memory (memory.no_memory_read Device n y r q)) = idle (MemoryRead n y) refl r 11 _
  due (right.memory (memory.memory_read User n y o r q)) = idle (UserMemoryRead n y) refl r 0 _
  due (right.memory (memory.no_memory_read User n y r q)) = idle (UserMemoryRead n y) refl r 11 _
  due (right.memory (memory.memory_write_verified w n y o d r q e v)) = memory_written f b h x inv mode c g a out octets w n y o d r q e 0 _ (omega arith)
  due (right.memory (memory.memory_write w n y o d r q e v)) = memory_written f b h x inv mode c g a out octets w n y o d r q e 1 [] (omega arith)
  due (right.memory (memory.no_memory_write_verified w n y r q v)) = memory_denied f b h x inv mode c g a out octets w n y r q 11 _ (λ z. omega arith)
  due (right.memory (memory.no_memory_write w n y r q v)) = memory_denied f b h x inv mode c g a out octets w n y r q 12 [] (λ z. omega arith)
  due (right.keys (keys.authorize n l r q)) = authorized f b h x inv mode c g a out n l r q 0 _
  due (right.keys (keys.key_write l n r w)) = key_written f b h x inv mode c g a out l n r w 0 _ (omega arith)
  due (right.keys (keys.no_key_write l n r q)) = key_denied f b h x inv mode c g a out l n r q 11 _ (λ z. omega arith)
  due (right.keys (keys.restart r)) = restarted f b h x inv mode c g a out r 1 []
