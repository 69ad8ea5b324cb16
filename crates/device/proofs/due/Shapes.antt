-- The shapes of a decision: refused, denied, answered, done, a restart.
use Rattle.octets.proofs.Kit.{ℕ, ◌≤◌, ◌≡◌, refl, inl, inr, false, List, length, arith}
use Rattle.std.proofs.Common.{Ok}
use Rattle.octets.proofs.Walks.{by_eq}
use Rattle.sheet.specs.{Layout.◌of◌, declared.Memory.TheVariants.{Device, User}}
use Rattle.sheet.specs.Head as head
use Rattle.pdu.specs.{Read.read_pdu, declared.Pdu.{Pdu, TheVariants.{GroupValueRead, GroupValueResponse, GroupValueWrite, IndividualAddressWrite, IndividualAddressRead, SerialNumberRead}}}
use Rattle.pdu.specs.declared.Pdu.TheVariants.{SerialNumberWrite, DeviceDescriptorRead, PropertyValueRead, PropertyValueWrite, PropertyDescriptionRead, MemoryRead, MemoryWrite}
use Rattle.pdu.specs.declared.Pdu.TheVariants.{MemoryBitWrite, AuthorizeRequest, KeyWrite, Restart, IndividualAddressResponse, SerialNumberResponse, DeviceDescriptorResponse}
use Rattle.pdu.specs.declared.Pdu.TheVariants.{PropertyValueResponse, PropertyDescriptionResponse, MemoryResponse, AuthorizeResponse, KeyResponse, UserMemoryRead, UserMemoryResponse}
use Rattle.pdu.specs.declared.Pdu.TheVariants.{UserMemoryWrite}
use Rattle.judge.specs.declared.{Store.Store, Access.TheVariants.{Write, Change}, Turn.{Turn, TheVariants.{Stays, Closes}}, Answer.Answer, Decision.Decision}
use Rattle.judge.specs.{Decisions.{decision, refused, denied}, Addresses.{address_write_of, address_read_of, serial_read_of, serial_write_of, descriptor_of}, Memory.{memory_write_of, bit_write_of}}
use Rattle.judge.{specs.{Keys.{authorize_of, restart_of}, Judge.{decide_of, judge_of}}, proofs.{GroupCases.{group_read_cases, group_put_cases}, DescriptorCases.descriptor_cases}}
use Rattle.judge.proofs.{PropertyCases.{property_read_cases, property_write_cases, description_cases}, MemoryCases.{memory_read_cases, change_cases}, KeyCases.key_write_cases}
use Rattle.judge.specs.declared.Store.TheVariants as store
use Rattle.judge.specs.declared.Answer.TheVariants as answer
use Rattle.device.specs.{Carry.closes, Asked.{Asked, Refusal, no_room, bad_sheet, old_sheet, bad_length, bad_mode, no_session}, Demand1.OneOf}
use Rattle.device.specs.Replies.{Negative, of_read, of_write, of_description, of_memory_read, of_memory_write, of_user_read, of_user_write, of_bit_write, of_descriptor, of_key_write}
use Rattle.device.proofs.due.RequestCases.{request_cases}

-- about a request a
pub data Shape (a : List ℕ) : Decision → Type 0 where
  refuse : (n : ℕ) → 2 ≤ n → OneOf n → (n ≡ 11 → ⊥) → Shape a (refused n)
  deny : (p m : Pdu) → read_pdu a ≡ Ok p → Negative p m → Shape a (denied m)
  reply : (f g : Store) (t : Turn) (r : Answer) → closes t ≡ false → Shape a (decision 0 f g t r)
  done : (f : Store) → Shape a (decision 1 f store.Nothing Stays answer.Silence)
  restart : (f : Store) → read_pdu a ≡ Ok Restart → Shape a (decision 1 f store.Nothing Closes answer.Silence)

not_ours : (a : List ℕ) → Shape a (refused 2)
not_ours a = refuse 2 (omega arith) (inl (omega arith)) (λ e. omega arith)

unfit : (a : List ℕ) → Shape a (refused 10)
unfit a = refuse 10 (omega arith) (inl (omega arith)) (λ e. omega arith)

unknown : (a : List ℕ) → Shape a (refused 8)
unknown a = refuse 8 (omega arith) (inl (omega arith)) (λ e. omega arith)

unanswered : (a : List ℕ) → Shape a (refused 12)
unanswered a = refuse 12 (omega arith) (inl (omega arith)) (λ e. omega arith)

module _ (a s : List ℕ) (level group : ℕ) (d : List ℕ) where
  shaped : (p : Pdu) → read_pdu a ≡ Ok p → Shape a (decide_of s level group d p)
  unfolding address_write_of address_read_of serial_read_of serial_write_of descriptor_of memory_write_of bit_write_of authorize_of restart_of
  shaped GroupValueRead e =
      group_read_cases s group (Shape a) (λ i t z. reply _ _ _ _ refl) (λ i t z. reply _ _ _ _ refl) (not_ours a)
  shaped (GroupValueResponse v) e =
      group_put_cases s group (Shape a) 4 v (length d) (λ i t z l. done _) (λ i t z l. done _) (λ i t l. unfit a) (not_ours a)
  shaped (GroupValueWrite v) e =
      group_put_cases s group (Shape a) 2 v (length d) (λ i t z l. done _) (λ i t z l. done _) (λ i t l. unfit a) (not_ours a)
  shaped (IndividualAddressWrite address) e = by_eq (Shape a) (head.programming s) 1 _ _ (λ h. done _) (λ h. not_ours a)
  shaped IndividualAddressRead e = by_eq (Shape a) (head.programming s) 1 _ _ (λ h. reply _ _ _ _ refl) (λ h. not_ours a)
  shaped (SerialNumberRead serial) e = by_eq (Shape a) serial (head.serial of s) _ _ (λ h. reply _ _ _ _ refl) (λ h. not_ours a)
  shaped (SerialNumberWrite serial address) e =
      by_eq (Shape a) serial (head.serial of s) _ _ (λ h. done _) (λ h. not_ours a)
  shaped (DeviceDescriptorRead t) e =
      descriptor_cases s t (Shape a) (λ z. reply _ _ _ _ refl) (λ h l. deny _ _ e (of_descriptor t h)) (λ h l. not_ours a)
  shaped (PropertyValueRead object id n t) e =
      property_read_cases s level object id n t (Shape a) (λ i k l z o. reply _ _ _ _ refl) (λ i k l m b. reply _ _ _ _ refl)
      (deny _ _ e (of_read object id n t))
  shaped (PropertyValueWrite object id n t) e =
      property_write_cases s level object id n t (Shape a) d (λ i k w z o l v. reply _ _ _ _ refl) (λ i k w m l. reply _ _ _ _ refl)
      (deny _ _ e (of_write object id n t))
  shaped (PropertyDescriptionRead object id index) e =
      description_cases s object id index (Shape a) (λ i z k. reply _ _ _ _ refl) (λ i z k. reply _ _ _ _ refl)
      (deny _ _ e (of_description object id index))
  shaped (MemoryRead n address) e =
      memory_read_cases s Device level n address (Shape a) (λ i p. reply _ _ _ _ refl) (deny _ _ e (of_memory_read n address))
  shaped (MemoryWrite n address) e =
      change_cases Write 12 (store.Data 0) s Device level n address (Shape a) (λ i p v. reply _ _ _ _ refl) (λ i p v. done _)
      (λ v. deny _ _ e (of_memory_write n address)) (λ v. unanswered a)
  shaped (MemoryBitWrite n address) e =
      change_cases Change 5 (λ o. store.Bits o n) s Device level n address (Shape a) (λ i p v. reply _ _ _ _ refl) (λ i p v. done _)
      (λ v. deny _ _ e (of_bit_write n address)) (λ v. unanswered a)
  shaped (AuthorizeRequest key) e = reply _ _ _ _ refl
  shaped (KeyWrite named key) e =
      key_write_cases level named key (Shape a) (λ h l. reply _ _ _ _ refl) (deny _ _ e (of_key_write named key))
  shaped Restart e = restart _ e
  shaped IndividualAddressResponse e = unknown a
  shaped (SerialNumberResponse serial domain) e = unknown a
  shaped (DeviceDescriptorResponse t) e = unknown a
  shaped (PropertyValueResponse object id n t) e = unknown a
  shaped (PropertyDescriptionResponse object id index kind maximum access) e = unknown a
  shaped (MemoryResponse n address) e = unknown a
  shaped (AuthorizeResponse named) e = unknown a
  shaped (KeyResponse named) e = unknown a
  shaped (UserMemoryRead n address) e =
      memory_read_cases s User level n address (Shape a) (λ i p. reply _ _ _ _ refl) (deny _ _ e (of_user_read n address))
  shaped (UserMemoryResponse n address) e = unknown a
  shaped (UserMemoryWrite n address) e =
      change_cases Write 11 (store.Data 0) s User level n address (Shape a) (λ i p v. reply _ _ _ _ refl) (λ i p v. done _)
      (λ v. deny _ _ e (of_user_write n address)) (λ v. unanswered a)

early : {x : Asked} (n : ℕ) → Refusal x n → Shape x.apdu (refused n)
early n (no_room b) = refuse 3 (omega arith) (inl (omega arith)) (λ e. omega arith)
early n (bad_sheet b s) = refuse 4 (omega arith) (inl (omega arith)) (λ e. omega arith)
early n (old_sheet b s) = refuse 14 (omega arith) (inr refl) (λ e. omega arith)
early n (bad_length b s l) = refuse 5 (omega arith) (inl (omega arith)) (λ e. omega arith)
early n (bad_mode b s l m h) = refuse 6 (omega arith) (inl (omega arith)) (λ e. omega arith)
early n (no_session b s l m c o) = refuse 7 (omega arith) (inl (omega arith)) (λ e. omega arith)

-- EVERY DECISION HAS ONE OF THEM
pub shape : (x : Asked) → Shape x.apdu (judge_of x.room x.sheet x.session x.mode x.group x.apdu)
shape x =
    request_cases x (Shape x.apdu) (λ k r n v t. refuse 9 (omega arith) (inl (omega arith)) (λ e. omega arith)) (λ r f. unknown x.apdu)
    (λ k r n t e. unfit x.apdu) (λ p r. shaped x.apdu x.sheet _ x.group _ p r.reads) early
