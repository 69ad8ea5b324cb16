-- `plain::order::is_taken` meets its contract.
use Rattle.octets.proofs.Kit.{rules, arith}
use Rattle.octets.proofs.Tests.{tests}
use Rattle.pdu.specs.declared.Service.TheVariants.{Restart}
use Rattle.plain.proofs.{Arms.{via_taken, restart_connected, restart_without, restart_never}}
use Rattle.plain.proofs.order.is_taken.Goals as goal

pub returns-in-GroupValueRead : goal.returns-in-GroupValueRead
returns-in-GroupValueRead c = search via_taken

pub returns-in-GroupValueResponse : goal.returns-in-GroupValueResponse
returns-in-GroupValueResponse c = search via_taken

pub returns-in-GroupValueWrite : goal.returns-in-GroupValueWrite
returns-in-GroupValueWrite c = search via_taken

pub returns-in-IndividualAddressWrite : goal.returns-in-IndividualAddressWrite
returns-in-IndividualAddressWrite c = search via_taken

pub returns-in-IndividualAddressRead : goal.returns-in-IndividualAddressRead
returns-in-IndividualAddressRead c = search via_taken

pub returns-in-SerialNumberRead : goal.returns-in-SerialNumberRead
returns-in-SerialNumberRead c = search via_taken

pub returns-in-SerialNumberWrite : goal.returns-in-SerialNumberWrite
returns-in-SerialNumberWrite c = search via_taken

pub returns-then-mode-eq2 : goal.returns-then-mode-eq2
returns-then-mode-eq2 c = search (via_taken, tests, arith)

pub returns-else-mode-eq2 : goal.returns-else-mode-eq2
returns-else-mode-eq2 c = search (via_taken, tests, arith)

pub returns-then-mode-eq2-2 : goal.returns-then-mode-eq2-2
returns-then-mode-eq2-2 c = search (via_taken, tests, arith)

pub returns-else-mode-eq2-2 : goal.returns-else-mode-eq2-2
returns-else-mode-eq2-2 c = search (via_taken, tests, arith)

pub returns-then-mode-eq2-3 : goal.returns-then-mode-eq2-3
returns-then-mode-eq2-3 c = search (via_taken, tests, arith)

pub returns-else-mode-eq2-3 : goal.returns-else-mode-eq2-3
returns-else-mode-eq2-3 c = search (via_taken, tests, arith)

pub returns-then-mode-eq2-4 : goal.returns-then-mode-eq2-4
returns-then-mode-eq2-4 c = search (via_taken, tests, arith)

pub returns-else-mode-eq2-4 : goal.returns-else-mode-eq2-4
returns-else-mode-eq2-4 c = search (via_taken, tests, arith)

pub returns-in-MemoryRead : goal.returns-in-MemoryRead
returns-in-MemoryRead c = search via_taken

pub returns-in-MemoryWrite : goal.returns-in-MemoryWrite
returns-in-MemoryWrite c = search via_taken

pub returns-in-MemoryBitWrite : goal.returns-in-MemoryBitWrite
returns-in-MemoryBitWrite c = search via_taken

pub returns-in-AuthorizeRequest : goal.returns-in-AuthorizeRequest
returns-in-AuthorizeRequest c = search via_taken

pub returns-in-KeyWrite : goal.returns-in-KeyWrite
returns-in-KeyWrite c = search via_taken

pub returns-then-mode-eq3 : goal.returns-then-mode-eq3
returns-then-mode-eq3 c = let a = c.args in via_taken a.service Restart a.rules a.mode _ (search rules) (restart_connected a.rules a.mode (search rules))

pub returns-then-mode-eq2-5 : goal.returns-then-mode-eq2-5
returns-then-mode-eq2-5 c = let a = c.args in via_taken a.service Restart a.rules a.mode _ (search rules) (restart_without a.rules a.mode (search rules) (search rules))

pub returns-else-mode-eq2-5 : goal.returns-else-mode-eq2-5
returns-else-mode-eq2-5 c = let a = c.args in via_taken a.service Restart a.rules a.mode _ (search rules) (restart_never a.rules a.mode (search rules) (search rules))

pub returns-in-IndividualAddressResponse : goal.returns-in-IndividualAddressResponse
returns-in-IndividualAddressResponse c = search via_taken

pub returns-in-SerialNumberResponse : goal.returns-in-SerialNumberResponse
returns-in-SerialNumberResponse c = search via_taken

pub returns-in-DeviceDescriptorResponse : goal.returns-in-DeviceDescriptorResponse
returns-in-DeviceDescriptorResponse c = search via_taken

pub returns-in-PropertyValueResponse : goal.returns-in-PropertyValueResponse
returns-in-PropertyValueResponse c = search via_taken

pub returns-in-PropertyDescriptionResponse : goal.returns-in-PropertyDescriptionResponse
returns-in-PropertyDescriptionResponse c = search via_taken

pub returns-in-MemoryResponse : goal.returns-in-MemoryResponse
returns-in-MemoryResponse c = search via_taken

pub returns-in-AuthorizeResponse : goal.returns-in-AuthorizeResponse
returns-in-AuthorizeResponse c = search via_taken

pub returns-in-KeyResponse : goal.returns-in-KeyResponse
returns-in-KeyResponse c = search via_taken

pub returns-in-UserMemoryRead : goal.returns-in-UserMemoryRead
returns-in-UserMemoryRead c = search via_taken

pub returns-in-UserMemoryResponse : goal.returns-in-UserMemoryResponse
returns-in-UserMemoryResponse c = search via_taken

pub returns-in-UserMemoryWrite : goal.returns-in-UserMemoryWrite
returns-in-UserMemoryWrite c = search via_taken
