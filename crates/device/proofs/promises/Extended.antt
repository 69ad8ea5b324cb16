-- A request of the later standard, whose number has an address extension in its high four bits, reads and changes no byte.
use Rattle.octets.proofs.Kit.{ℕ, ◌+◌, ◌*◌, ◌≤◌, ◌≡◌, sym, [], length-drop, arith}
use Rattle.sheet.specs.declared.Memory.TheVariants.{User}
use Rattle.pdu.{specs.{Read.data_of, declared.Pdu.TheVariants.{UserMemoryRead, UserMemoryWrite, UserMemoryResponse}}, proofs.promises.Readings.reading}
use Rattle.device.specs.{Asked.{Asked, says, Reads}, Demand2.done}
use Rattle.device.proofs.due.{Given.user_data, RightMemory.only_no_memory_read}

module _ (x : Asked) (e n address : ℕ) (some : 1 ≤ e) where
  -- A READ IS DENIED
  pub extended_read : Reads x (UserMemoryRead (16 * e + n) address) → done x ≡ says x 11 (UserMemoryResponse 0 address) []
  extended_read r = sym (only_no_memory_read x User (16 * e + n) address r (λ o w. omega (arith, w.few)))

  -- A WRITE IS NONE: no APDU is so long
  pub extended_write : Reads x (UserMemoryWrite (16 * e + n) address) → ⊥
  unfolding data_of
  extended_write r =
      omega (arith, user_data x.apdu (16 * e + n) address (reading x.apdu _ r.reads), length-drop 5 x.apdu, r.ready.most)
