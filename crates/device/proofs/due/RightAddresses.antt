-- The individual address, the serial number and the descriptor: what is due is what is done.
use Rattle.octets.proofs.Kit.{ℕ, ◌≤◌, ◌≡◌, refl, [], arith, eq-eqb, ne_eqb}
use Rattle.octets.{specs.{Bytes.bytes_of, Splice.splice}, proofs.Walks.by_eq}
use Rattle.sheet.specs.{Layout.◌of◌, Head.{rules_of, later}}
use Rattle.sheet.specs.Head as head
use Rattle.pdu.specs.declared.Pdu.TheVariants.{IndividualAddressWrite, IndividualAddressRead, SerialNumberRead, SerialNumberWrite, DeviceDescriptorRead, IndividualAddressResponse}
use Rattle.pdu.specs.declared.Pdu.TheVariants.{SerialNumberResponse, DeviceDescriptorResponse}
use Rattle.judge.specs.{declared.Decision.Decision, Addresses.{new_address, address_write_of, address_read_of, serial_read_of, serial_write_of, descriptor_of}}
use Rattle.judge.proofs.DescriptorCases.{descriptor_cases}
use Rattle.judge.specs.declared.Answer.TheVariants as answer
use Rattle.judge.specs.Decisions as decisions
use Rattle.device.specs.{Step.step_by, Asked.{Asked, quiet, says, stores, Reads, given}, AddressesDue.{AddressesDue, Programming, address_write, no_address_write, address_read}}
use Rattle.device.specs.AddressesDue.{no_address_read, serial_read, no_serial_read, serial_write, no_serial_write, descriptor, no_descriptor, descriptor_denied}
use Rattle.device.proofs.due.Stepped.{step, step_read}

module _ (x : Asked) where
  module _ (address : ℕ) (r : Reads x (IndividualAddressWrite address)) where
    pub only_address_write : Programming x → stores x (splice x.sheet (head.address).at (bytes_of 2 address)) ≡ step x
    unfolding step_by address_write_of
    only_address_write h = step_read x _ r (decisions.stored (new_address address)) (simp (eq-eqb (head.programming x.sheet) 1 h))

    pub only_no_address_write : (Programming x → ⊥) → quiet x 2 ≡ step x
    unfolding step_by address_write_of
    only_no_address_write h = step_read x _ r (decisions.refused 2) (simp (ne_eqb (head.programming x.sheet) 1 h))

    pub right_address_write :
        AddressesDue x (step_by x.sheet x.session (given x (IndividualAddressWrite address)) (address_write_of x.sheet address))
    unfolding step_by address_write_of
    right_address_write =
        by_eq (λ (k : Decision). AddressesDue x (step_by x.sheet x.session (given x (IndividualAddressWrite address)) k))
        (head.programming x.sheet) 1 _ _ (λ h. address_write address r h) (λ h. no_address_write address r h)

  module _ (r : Reads x IndividualAddressRead) where
    pub only_address_read : Programming x → says x 0 IndividualAddressResponse [] ≡ step x
    unfolding step_by address_read_of
    only_address_read h = step_read x _ r (decisions.answered (answer.Plain IndividualAddressResponse)) (simp (eq-eqb (head.programming x.sheet) 1 h))

    pub only_no_address_read : (Programming x → ⊥) → quiet x 2 ≡ step x
    unfolding step_by address_read_of
    only_no_address_read h = step_read x _ r (decisions.refused 2) (simp (ne_eqb (head.programming x.sheet) 1 h))

    pub right_address_read : AddressesDue x (step_by x.sheet x.session (given x IndividualAddressRead) (address_read_of x.sheet))
    unfolding step_by address_read_of
    right_address_read =
        by_eq (λ (k : Decision). AddressesDue x (step_by x.sheet x.session (given x IndividualAddressRead) k))
        (head.programming x.sheet) 1 _ _ (λ h. address_read r h) (λ h. no_address_read r h)

  module _ (serial : ℕ) (r : Reads x (SerialNumberRead serial)) where
    pub only_serial_read : serial ≡ head.serial of x.sheet → says x 0 (SerialNumberResponse serial 0) [] ≡ step x
    unfolding step_by serial_read_of
    only_serial_read h = step_read x _ r (decisions.answered (answer.Plain (SerialNumberResponse serial 0))) (simp (eq-eqb serial (head.serial of x.sheet) h))

    pub only_no_serial_read : (serial ≡ head.serial of x.sheet → ⊥) → quiet x 2 ≡ step x
    unfolding step_by serial_read_of
    only_no_serial_read h = step_read x _ r (decisions.refused 2) (simp (ne_eqb serial (head.serial of x.sheet) h))

    pub right_serial_read :
        AddressesDue x (step_by x.sheet x.session (given x (SerialNumberRead serial)) (serial_read_of x.sheet serial))
    unfolding step_by serial_read_of
    right_serial_read =
        by_eq (λ (k : Decision). AddressesDue x (step_by x.sheet x.session (given x (SerialNumberRead serial)) k))
        serial (head.serial of x.sheet) _ _ (λ h. serial_read serial r h) (λ h. no_serial_read serial r h)

  module _ (serial address : ℕ) (r : Reads x (SerialNumberWrite serial address)) where
    pub only_serial_write :
        serial ≡ head.serial of x.sheet → stores x (splice x.sheet (head.address).at (bytes_of 2 address)) ≡ step x
    unfolding step_by serial_write_of
    only_serial_write h = step_read x _ r (decisions.stored (new_address address)) (simp (eq-eqb serial (head.serial of x.sheet) h))

    pub only_no_serial_write : (serial ≡ head.serial of x.sheet → ⊥) → quiet x 2 ≡ step x
    unfolding step_by serial_write_of
    only_no_serial_write h = step_read x _ r (decisions.refused 2) (simp (ne_eqb serial (head.serial of x.sheet) h))

    pub right_serial_write :
        AddressesDue x
        (step_by x.sheet x.session (given x (SerialNumberWrite serial address)) (serial_write_of x.sheet serial address))
    unfolding step_by serial_write_of
    right_serial_write =
        by_eq (λ (k : Decision). AddressesDue x (step_by x.sheet x.session (given x (SerialNumberWrite serial address)) k))
        serial (head.serial of x.sheet) _ _ (λ h. serial_write serial address r h) (λ h. no_serial_write serial address r h)

  pub only_descriptor :
      Reads x (DeviceDescriptorRead 0) → says x 0 (DeviceDescriptorResponse 0) (bytes_of 2 (head.mask of x.sheet)) ≡ step x
  unfolding step_by descriptor_of
  only_descriptor r = step_read x _ r _ refl

  module _ (t : ℕ) (r : Reads x (DeviceDescriptorRead t)) (h : 1 ≤ t) where
    pub only_no_descriptor : (rules_of x.sheet ≡ later → ⊥) → quiet x 2 ≡ step x
    unfolding step_by descriptor_of
    only_no_descriptor l = step_read x _ r (decisions.refused 2) (simp (ne_eqb t 0 (omega arith), ne_eqb (rules_of x.sheet) later l))

    pub only_descriptor_denied : rules_of x.sheet ≡ later → says x 11 (DeviceDescriptorResponse 63) [] ≡ step x
    unfolding step_by descriptor_of
    only_descriptor_denied l =
        step_read x _ r (decisions.denied (DeviceDescriptorResponse 63)) (simp (ne_eqb t 0 (omega arith), eq-eqb (rules_of x.sheet) later l))

  pub right_descriptor :
      (t : ℕ) → Reads x (DeviceDescriptorRead t) →
      AddressesDue x (step_by x.sheet x.session (given x (DeviceDescriptorRead t)) (descriptor_of x.sheet t))
  unfolding step_by
  right_descriptor t r =
      descriptor_cases x.sheet t (λ (k : Decision). AddressesDue x (step_by x.sheet x.session (given x (DeviceDescriptorRead t)) k))
      (λ h. descriptor (rw h at r)) (descriptor_denied t r) (no_descriptor t r)
