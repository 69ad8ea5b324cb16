-- What is known of the fields and the data of a request that reads, its bytes being below 256.
use Rattle.octets.proofs.Kit.{ℕ, ◌<◌, ◌≡◌, List}
use Rattle.std.proofs.Common.{Ok}
use Rattle.pdu.specs.{Read.read_pdu, Allows.Carries, declared.Pdu.Pdu}
use Rattle.pdu.{specs.declared.Pdu.TheVariants.{GroupValueResponse, GroupValueWrite, IndividualAddressWrite, SerialNumberWrite, PropertyValueWrite}, proofs.promises.Outcomes.read_carries}
use Rattle.device.specs.Octets.{Octets}

module _ (a : List ℕ) (small : Octets a) where
  carries : {p : Pdu} → read_pdu a ≡ Ok p → Carries a p
  carries {p} e = read_carries a p small e

  pub property_id : {object id n s : ℕ} → read_pdu a ≡ Ok (PropertyValueWrite object id n s) → id < 256
  property_id e = (carries e).allowed.fields.1.0

  pub write_value : {v : ℕ} → read_pdu a ≡ Ok (GroupValueWrite v) → v < 64
  write_value e = (carries e).allowed.fields.0

  pub response_value : {v : ℕ} → read_pdu a ≡ Ok (GroupValueResponse v) → v < 64
  response_value e = (carries e).allowed.fields.0

  pub address_field : {v : ℕ} → read_pdu a ≡ Ok (IndividualAddressWrite v) → v < 65536
  address_field e = (carries e).allowed.fields.0

  pub serial_address : {n v : ℕ} → read_pdu a ≡ Ok (SerialNumberWrite n v) → v < 65536
  serial_address e = (carries e).allowed.fields.1.0
