-- WHICH MODE TAKES WHICH SERVICE, by the number of the rules.
use Rattle.std.specs.Prelude.{ℕ, Bool, true, false, cond, ◌||◌, eqb}
use Rattle.sheet.specs.Head.{later}
use Rattle.pdu.specs.declared.Service.{Service}
use Rattle.pdu.specs.declared.Service.TheVariants.{GroupValueRead, GroupValueResponse, GroupValueWrite, IndividualAddressWrite, IndividualAddressRead, SerialNumberRead, SerialNumberWrite}
use Rattle.pdu.specs.declared.Service.TheVariants.{DeviceDescriptorRead, PropertyValueRead, PropertyValueWrite, PropertyDescriptionRead, MemoryRead, MemoryWrite, MemoryBitWrite}
use Rattle.pdu.specs.declared.Service.TheVariants.{AuthorizeRequest, KeyWrite, Restart, IndividualAddressResponse, SerialNumberResponse, DeviceDescriptorResponse, PropertyValueResponse}
use Rattle.pdu.specs.declared.Service.TheVariants.{PropertyDescriptionResponse, MemoryResponse, AuthorizeResponse, KeyResponse, UserMemoryRead, UserMemoryResponse, UserMemoryWrite}
use Rattle.judge.specs.Session as mode
use Rattle.judge.specs.declared.Reach.{Reach}
use Rattle.judge.specs.declared.Reach.TheVariants.{Multicast, Broadcast, PointToPoint, Connected, Never}

-- an answer to a tool never reaches the device; under the later rules a restart needs no connection
abbrev pub reach_of : ℕ → Service → Reach
reach_of rules GroupValueRead = Multicast
reach_of rules GroupValueResponse = Multicast
reach_of rules GroupValueWrite = Multicast
reach_of rules IndividualAddressWrite = Broadcast
reach_of rules IndividualAddressRead = Broadcast
reach_of rules SerialNumberRead = Broadcast
reach_of rules SerialNumberWrite = Broadcast
reach_of rules DeviceDescriptorRead = PointToPoint
reach_of rules PropertyValueRead = PointToPoint
reach_of rules PropertyValueWrite = PointToPoint
reach_of rules PropertyDescriptionRead = PointToPoint
reach_of rules MemoryRead = Connected
reach_of rules MemoryWrite = Connected
reach_of rules MemoryBitWrite = Connected
reach_of rules AuthorizeRequest = Connected
reach_of rules KeyWrite = Connected
reach_of rules Restart = cond (eqb rules later) PointToPoint Connected
reach_of rules IndividualAddressResponse = Never
reach_of rules SerialNumberResponse = Never
reach_of rules DeviceDescriptorResponse = Never
reach_of rules PropertyValueResponse = Never
reach_of rules PropertyDescriptionResponse = Never
reach_of rules MemoryResponse = Never
reach_of rules AuthorizeResponse = Never
reach_of rules KeyResponse = Never
reach_of rules UserMemoryRead = Connected
reach_of rules UserMemoryResponse = Never
reach_of rules UserMemoryWrite = Connected

abbrev pub takes : Reach → ℕ → Bool
takes Multicast m = eqb m mode.multicast
takes Broadcast m = eqb m mode.broadcast
takes PointToPoint m = eqb m mode.connectionless || eqb m mode.connected
takes Connected m = eqb m mode.connected
takes Never m = false

-- some mode takes it
abbrev pub reaches : Reach → Bool
reaches Multicast = true
reaches Broadcast = true
reaches PointToPoint = true
reaches Connected = true
reaches Never = false
