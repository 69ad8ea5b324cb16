-- The individual address, by programming mode and by serial number, and the descriptor.
use Rattle.std.specs.Prelude.{ℕ, List, Bool, cond, eqb}
use Rattle.sheet.specs.Layout.{◌of◌}
use Rattle.sheet.specs.Head as head
use Rattle.sheet.specs.Head.{rules_of, later}
use Rattle.pdu.specs.declared.Pdu.TheVariants.{IndividualAddressResponse, SerialNumberResponse, DeviceDescriptorResponse}
use Rattle.judge.specs.declared.Store.{Store}
use Rattle.judge.specs.declared.Store.TheVariants as store
use Rattle.judge.specs.declared.Answer.TheVariants as answer
use Rattle.judge.specs.declared.Decision.{Decision}
use Rattle.judge.specs.Decisions.{refused, denied, answered, stored}

abbrev pub in_programming : List ℕ → Bool
in_programming s = eqb (head.programming s) 1

abbrev pub new_address : ℕ → Store
new_address a = store.Number (head.address).at (head.address).width a

unfoldable pub address_write_of : List ℕ → ℕ → Decision
address_write_of s a = cond (in_programming s) (stored (new_address a)) (refused 2)

unfoldable pub address_read_of : List ℕ → Decision
address_read_of s = cond (in_programming s) (answered (answer.Plain IndividualAddressResponse)) (refused 2)

-- the domain address that we send is 0
unfoldable pub serial_read_of : List ℕ → ℕ → Decision
serial_read_of s serial =
    cond (eqb serial (head.serial of s)) (answered (answer.Plain (SerialNumberResponse serial 0))) (refused 2)

unfoldable pub serial_write_of : List ℕ → ℕ → ℕ → Decision
serial_write_of s serial a = cond (eqb serial (head.serial of s)) (stored (new_address a)) (refused 2)

-- what is answered for a type that the device has not
abbrev pub no_type : ℕ
no_type = 63

-- the mask version is type 0; any other is denied under the later rules, and not for us under those before
unfoldable pub descriptor_of : List ℕ → ℕ → Decision
descriptor_of s t =
    cond (eqb t 0) (answered (answer.Number (DeviceDescriptorResponse 0) (head.mask).width (head.mask of s)))
    (cond (eqb (rules_of s) later) (denied (DeviceDescriptorResponse no_type)) (refused 2))
