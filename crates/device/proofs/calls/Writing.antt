-- The answers of the device can be written.
use Rattle.octets.proofs.Kit.{ℕ, ◌+◌, ◌≤◌, ◌<◌, ◌≡◌, refl, inr, true, List, [], arith, eqb, length}
use Rattle.octets.proofs.Truths.{and_is, or_is, below_is, at_most_is, equal_is}
use Rattle.pdu.specs.{Read.data_at, Write.{writable, fits_in}, declared.Pdu.{Pdu, TheVariants.{GroupValueResponse, IndividualAddressResponse, SerialNumberResponse, DeviceDescriptorResponse}}}
use Rattle.pdu.specs.declared.Pdu.TheVariants.{PropertyValueResponse, PropertyDescriptionResponse, MemoryResponse, AuthorizeResponse, KeyResponse, UserMemoryResponse}

-- a PDU whose row lets it stand with data that leave room for it
stands : (p : Pdu) (d : List ℕ) → data_at p + length d ≤ 16 → fits_in p (data_at p + length d) ≡ true → writable p d ≡ true
unfolding writable
stands p d h f = (and_is _ _).1 ((at_most_is _ 16).1 h, f)

pub writes_six : (v : ℕ) → v < 64 → writable (GroupValueResponse v) [] ≡ true
writes_six v h =
    stands (GroupValueResponse v) [] (omega arith) ((and_is _ _).1 ((below_is v 64).1 h, refl))

module _ (d : List ℕ) where
  pub writes_value : length d ≤ 14 → writable (GroupValueResponse 0) d ≡ true
  writes_value h =
      stands (GroupValueResponse 0) d (omega arith) ((or_is (eqb (2 + length d) 2) true).1 (inr refl))

  pub writes_descriptor : (t : ℕ) → t < 64 → length d ≤ 14 → writable (DeviceDescriptorResponse t) d ≡ true
  writes_descriptor t l h =
      stands (DeviceDescriptorResponse t) d (omega arith)
      ((and_is _ _).1 ((below_is t 64).1 l, (and_is _ _).1 ((at_most_is 2 (2 + length d)).1 (omega arith), (at_most_is (2 + length d) 16).1 (omega arith))))

  pub writes_property :
      (object id n s : ℕ) → n < 16 → s < 4096 → length d ≤ 10 → writable (PropertyValueResponse object id n s) d ≡ true
  writes_property object id n s h k l =
      stands (PropertyValueResponse object id n s) d (omega arith)
      ((and_is _ _).1 ((below_is n 16).1 h, (and_is _ _).1 ((below_is s 4096).1 k, (and_is _ _).1 ((at_most_is 6 (6 + length d)).1 (omega arith), (at_most_is (6 + length d) 16).1 (omega arith)))))

  pub writes_memory : (n address : ℕ) → n ≤ 12 → length d ≡ n → writable (MemoryResponse n address) d ≡ true
  writes_memory n address h e =
      stands (MemoryResponse n address) d (omega arith)
      ((and_is _ _).1 ((below_is n 16).1 (omega arith), (equal_is _ (4 + n)).1 (omega arith)))

  pub writes_user : (n address : ℕ) → n ≤ 11 → length d ≡ n → writable (UserMemoryResponse n address) d ≡ true
  writes_user n address h e = stands (UserMemoryResponse n address) d (omega arith) ((equal_is _ (5 + n)).1 (omega arith))

pub writes_address : writable IndividualAddressResponse [] ≡ true
writes_address = stands IndividualAddressResponse [] (omega arith) refl

pub writes_serial : (serial : ℕ) → serial < 281474976710656 → writable (SerialNumberResponse serial 0) [] ≡ true
writes_serial serial h =
    stands (SerialNumberResponse serial 0) [] (omega arith) ((and_is _ _).1 ((below_is serial _).1 h, refl))

pub writes_description :
    (object id index kind maximum access : ℕ) → maximum < 4096 → writable (PropertyDescriptionResponse object id index kind maximum access) [] ≡ true
writes_description object id index kind maximum access h =
    stands (PropertyDescriptionResponse object id index kind maximum access) [] (omega arith)
    ((and_is _ _).1 ((below_is maximum 4096).1 h, refl))

pub writes_level : (level : ℕ) → writable (AuthorizeResponse level) [] ≡ true
writes_level level = stands (AuthorizeResponse level) [] (omega arith) refl

pub writes_key : (level : ℕ) → writable (KeyResponse level) [] ≡ true
writes_key level = stands (KeyResponse level) [] (omega arith) refl
