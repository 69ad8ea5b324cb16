-- WHAT THE RUNS OF THE TRIALS ARE MADE OF: events, stores and first states by a name.
use Rattle.octets.proofs.Kit.{ℕ, List, [], ◌∷◌, false, replicate}
use Rattle.octets.specs.Splice.{splice}
use Rattle.device.specs.{Sessions.{closed, fresh_of}, Marked.sample}
use Rattle.versions.specs.Example.{once}
use Rattle.events.specs.Events.{Event, connect, request, restore}
use Rattle.history.specs.History.{First}

abbrev pub buffer : List ℕ
buffer = replicate 16 0

-- a connected request, on a connection, and on connection 0
abbrev pub sent_on : ℕ → List ℕ → Event
sent_on c a = request 3 c 0 a buffer

abbrev pub sent : List ℕ → Event
sent = sent_on 0

-- the keys of levels 0 and 1, the public one of level 2, and none
abbrev pub offering_on : ℕ → ℕ → Event
offering_on c b = sent_on c (0x03 ∷ 0xD1 ∷ 0x00 ∷ b ∷ b ∷ b ∷ b ∷ [])

abbrev pub offering : ℕ → Event
offering = offering_on 0

-- 55 to address 0100 and then 66, 66 to 0101, 55 and 66 to both at once; 77777777 as the key of level 0
abbrev pub first_write : Event
first_write = sent (0x02 ∷ 0x81 ∷ 0x01 ∷ 0x00 ∷ 0x55 ∷ [])

abbrev pub again_write : Event
again_write = sent (0x02 ∷ 0x81 ∷ 0x01 ∷ 0x00 ∷ 0x66 ∷ [])

abbrev pub second_write : Event
second_write = sent (0x02 ∷ 0x81 ∷ 0x01 ∷ 0x01 ∷ 0x66 ∷ [])

abbrev pub both_bytes : Event
both_bytes = sent (0x02 ∷ 0x82 ∷ 0x01 ∷ 0x00 ∷ 0x55 ∷ 0x66 ∷ [])

abbrev pub new_key0 : Event
new_key0 = sent (0x03 ∷ 0xD3 ∷ 0x00 ∷ 0x77 ∷ 0x77 ∷ 0x77 ∷ 0x77 ∷ [])

-- 55 to user address 0100
abbrev pub user_write : Event
user_write = sent (0x02 ∷ 0xC2 ∷ 0x01 ∷ 0x01 ∷ 0x00 ∷ 0x55 ∷ [])

-- 55 66 to user addresses 0103 and 0104: the last of one region and the first of the next
abbrev pub across_write : Event
across_write = sent (0x02 ∷ 0xC2 ∷ 0x02 ∷ 0x01 ∷ 0x03 ∷ 0x55 ∷ 0x66 ∷ [])

-- 0384 to element 1 of property 51 of object 1, in a mode
abbrev pub element_write : ℕ → Event
element_write mode = request mode 0 0 (0x03 ∷ 0xD7 ∷ 0x01 ∷ 0x33 ∷ 0x10 ∷ 0x01 ∷ 0x03 ∷ 0x84 ∷ []) buffer

-- its count cleared; 0384 to its element 2
abbrev pub clear : Event
clear = sent (0x03 ∷ 0xD7 ∷ 0x01 ∷ 0x33 ∷ 0x10 ∷ 0x00 ∷ 0x00 ∷ 0x00 ∷ [])

abbrev pub jump : Event
jump = sent (0x03 ∷ 0xD7 ∷ 0x01 ∷ 0x33 ∷ 0x10 ∷ 0x02 ∷ 0x03 ∷ 0x84 ∷ [])

-- a restart
abbrev pub restarting : Event
restarting = sent (0x03 ∷ 0x80 ∷ [])

-- version 1 restored on connection 0, from a store that keeps the sample's properties:
-- as they are, with another write level, with another value, and with a property that is not writable, of another value
abbrev pub given : List ℕ → Event
given st = restore 0 1 st

abbrev pub other_levels : List ℕ
other_levels = splice once 28 (0x30 ∷ [])

abbrev pub other_height : List ℕ
other_height = splice once 30 (0x07 ∷ 0xD0 ∷ [])

abbrev pub read_only : List ℕ
read_only = splice (splice once 20 (0x04 ∷ [])) 30 (0x07 ∷ 0xD0 ∷ [])

abbrev pub fresh_read_only : First
fresh_read_only = record { sheet = splice sample 42 (0x04 ∷ []); sessions = fresh_of }

-- connection 0 closed, though at level 0
abbrev pub closed_at_zero : First
closed_at_zero = record { sheet = sample; sessions = record { first = record { opened = false; level = 0 }; second = closed } }

-- connected, the key of level 0 offered
abbrev pub authorized : List Event
authorized = offering 0x11 ∷ connect 0 ∷ []

-- both connected, and on connection 0 the key of level 0 offered
abbrev pub both_on : List Event
both_on = connect 1 ∷ authorized
