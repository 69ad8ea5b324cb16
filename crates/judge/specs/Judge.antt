-- WHAT IS DECIDED ABOUT A REQUEST, in the order of the outcomes.
use Rattle.std.specs.Prelude.{ℕ, List, [], Bool, cond, ◌&&◌, not, length, ltb, eqb}
use Rattle.std.specs.Prelude.{Option, Some, None, Result, Ok, Err}
use Rattle.pdu.specs.declared.Service.{Service}
use Rattle.pdu.specs.declared.ReadRefusal.{ReadRefusal}
use Rattle.sheet.specs.Head.{rules_of}
use Rattle.sheet.specs.declared.Memory.TheVariants.{Device, User}
use Rattle.sheet.specs.Rules.{refusal_of}
use Rattle.pdu.specs.Rules.{code_of}
use Rattle.pdu.specs.Table.{service_at}
use Rattle.pdu.specs.Read.{read_number, read_pdu, data_of}
use Rattle.pdu.specs.declared.Pdu.{Pdu}
use Rattle.pdu.specs.declared.Pdu.TheVariants.{GroupValueRead, GroupValueResponse, GroupValueWrite, IndividualAddressWrite, IndividualAddressRead, SerialNumberRead, SerialNumberWrite}
use Rattle.pdu.specs.declared.Pdu.TheVariants.{DeviceDescriptorRead, PropertyValueRead, PropertyValueWrite, PropertyDescriptionRead, MemoryRead, MemoryWrite, MemoryBitWrite}
use Rattle.pdu.specs.declared.Pdu.TheVariants.{AuthorizeRequest, KeyWrite, Restart, IndividualAddressResponse, SerialNumberResponse, DeviceDescriptorResponse, PropertyValueResponse}
use Rattle.pdu.specs.declared.Pdu.TheVariants.{PropertyDescriptionResponse, MemoryResponse, AuthorizeResponse, KeyResponse, UserMemoryRead, UserMemoryResponse, UserMemoryWrite}
use Rattle.judge.specs.declared.Session.{Session}
use Rattle.judge.specs.declared.Reach.{Reach}
use Rattle.judge.specs.declared.Decision.{Decision}
use Rattle.judge.specs.Decisions.{refused}
use Rattle.judge.specs.Session.{level_in, connected}
use Rattle.judge.specs.Modes.{reach_of, reaches, takes}
use Rattle.judge.specs.Groups.{group_read_of, group_put_of, write, response}
use Rattle.judge.specs.Addresses.{address_write_of, address_read_of, serial_read_of, serial_write_of, descriptor_of}
use Rattle.judge.specs.Properties.{property_read_of, property_write_of, description_of}
use Rattle.judge.specs.Memory.{memory_read_of, memory_write_of, bit_write_of}
use Rattle.judge.specs.Keys.{authorize_of, key_write_of, restart_of}

-- the data of a request that reads, and none of any other
abbrev pub data_in : Result Pdu ReadRefusal → List ℕ → List ℕ
data_in (Ok p) a = data_of p a
data_in (Err e) a = []

-- a request of its service, with data d, at a level
abbrev pub decide_of : List ℕ → ℕ → ℕ → List ℕ → Pdu → Decision
decide_of s level group d GroupValueRead = group_read_of s group
decide_of s level group d (GroupValueResponse v) = group_put_of response s group v (length d)
decide_of s level group d (GroupValueWrite v) = group_put_of write s group v (length d)
decide_of s level group d (IndividualAddressWrite address) = address_write_of s address
decide_of s level group d IndividualAddressRead = address_read_of s
decide_of s level group d (SerialNumberRead serial) = serial_read_of s serial
decide_of s level group d (SerialNumberWrite serial address) = serial_write_of s serial address
decide_of s level group d (DeviceDescriptorRead t) = descriptor_of s t
decide_of sheet level group d (PropertyValueRead object id n s) = property_read_of sheet level object id n s
decide_of sheet level group d (PropertyValueWrite object id n s) = property_write_of sheet level object id n s d
decide_of s level group d (PropertyDescriptionRead object id index) = description_of s object id index
decide_of s level group d (MemoryRead n address) = memory_read_of s Device level n address
decide_of s level group d (MemoryWrite n address) = memory_write_of s Device level n address
decide_of s level group d (MemoryBitWrite n address) = bit_write_of s level n address
decide_of s level group d (AuthorizeRequest key) = authorize_of s key
decide_of s level group d (KeyWrite named key) = key_write_of level named key
decide_of s level group d Restart = restart_of s
decide_of s level group d IndividualAddressResponse = refused 8
decide_of s level group d (SerialNumberResponse serial domain) = refused 8
decide_of s level group d (DeviceDescriptorResponse t) = refused 8
decide_of sheet level group d (PropertyValueResponse object id n s) = refused 8
decide_of s level group d (PropertyDescriptionResponse object id index kind maximum access) = refused 8
decide_of s level group d (MemoryResponse n address) = refused 8
decide_of s level group d (AuthorizeResponse named) = refused 8
decide_of s level group d (KeyResponse named) = refused 8
decide_of s level group d (UserMemoryRead n address) = memory_read_of s User level n address
decide_of s level group d (UserMemoryResponse n address) = refused 8
decide_of s level group d (UserMemoryWrite n address) = memory_write_of s User level n address

-- what reads is decided; what doesn't is refused by the reader's number
abbrev pub read_of : List ℕ → ℕ → ℕ → List ℕ → Result Pdu ReadRefusal → Decision
read_of s level group a (Ok p) = decide_of s level group (data_of p a) p
read_of s level group a (Err e) = refused (read_number e)

-- 8, then 9, then the reading
unfoldable pub reached_of : List ℕ → Session → ℕ → ℕ → List ℕ → Reach → Decision
reached_of s q mode group a r =
    cond (not (reaches r)) (refused 8)
    (cond (not (takes r mode)) (refused 9) (read_of s (level_in q mode) group a (read_pdu a)))

abbrev pub found_of : List ℕ → Session → ℕ → ℕ → List ℕ → Option Service → Decision
found_of s q mode group a None = refused 8
found_of s q mode group a (Some k) = reached_of s q mode group a (reach_of (rules_of s) k)

-- connected mode with no connection
unfoldable pub is_shut : Session → ℕ → Bool
is_shut q mode = eqb mode connected && not q.opened

-- on a sheet that is not refused: 5, 6 and 7, then by what the code names
abbrev pub checked_of : List ℕ → Session → ℕ → ℕ → List ℕ → Decision
checked_of s q mode group a =
    cond (ltb (length a) 2) (refused 5)
    (cond (ltb 16 (length a)) (refused 5)
    (cond (ltb 3 mode) (refused 6)
    (cond (is_shut q mode) (refused 7)
    (found_of s q mode group a (service_at (code_of a))))))

-- n is what the sheet is refused by, 0 if it is not; room is the length of the answer buffer
abbrev pub judge_by : ℕ → ℕ → List ℕ → Session → ℕ → ℕ → List ℕ → Decision
judge_by n room s q mode group a =
    cond (ltb room 16) (refused 3)
    (cond (not (eqb n 0)) (refused n) (checked_of s q mode group a))

-- THE JUDGEMENT: 14 on an old sheet, 4 on a bad one
unfoldable pub judge_of : ℕ → List ℕ → Session → ℕ → ℕ → List ℕ → Decision
judge_of room s q mode group a = judge_by (refusal_of s) room s q mode group a
