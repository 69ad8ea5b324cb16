-- WHAT IS DUE FOR MEMORY: read, written, bits written.
use Rattle.std.specs.Prelude.{ℕ, ◌+◌, ◌/◌, ◌%◌, ◌≤◌, ◌<◌, ◌≡◌, List, [], length, get_or}
use Rattle.std.specs.Int.Bits.{bit_and, bit_xor}
use Rattle.octets.specs.Splice.{splice}
use Rattle.sheet.specs.Head as head
use Rattle.sheet.specs.Places.{Stands}
use Rattle.sheet.specs.declared.Memory.{Memory}
use Rattle.sheet.specs.declared.Memory.TheVariants.{Device, User}
use Rattle.pdu.specs.declared.Pdu.{Pdu}
use Rattle.pdu.specs.declared.Pdu.TheVariants.{MemoryRead, MemoryWrite, MemoryBitWrite, MemoryResponse, UserMemoryRead, UserMemoryWrite, UserMemoryResponse}
use Rattle.device.specs.Step.{Step}
use Rattle.device.specs.Asked.{Asked, quiet, says, says_after, stores, Reads, given, Acts, part}

-- the services of a memory, and how many bytes a read or write may name
abbrev pub reading : Memory → ℕ → ℕ → Pdu
reading Device n address = MemoryRead n address
reading User n address = UserMemoryRead n address

abbrev pub response : Memory → ℕ → ℕ → Pdu
response Device n address = MemoryResponse n address
response User n address = UserMemoryResponse n address

abbrev pub most_of : Memory → ℕ
most_of Device = 12
most_of User = 11

-- the writes: of bytes of a memory, of bits of the device's memory
pub data Write : Type 0 where
  bytes : Memory → Write
  bits : Write

abbrev pub into : Write → Memory
into (bytes m) = m
into bits = Device

abbrev pub writing : Write → ℕ → ℕ → Pdu
writing (bytes Device) n address = MemoryWrite n address
writing (bytes User) n address = UserMemoryWrite n address
writing bits n address = MemoryBitWrite n address

abbrev pub most_in : Write → ℕ
most_in (bytes m) = most_of m
most_in bits = 5

-- a level suffices, by the levels of what is read or written; a bit write shows old bits, so it needs both rights
abbrev pub ToRead : ℕ → ℕ → Type 0
ToRead level levels = level ≤ levels / 16

abbrev pub ToWrite : Write → ℕ → ℕ → Type 0
ToWrite (bytes m) level levels = level ≤ levels % 16
ToWrite bits level levels = (level ≤ levels / 16) × (level ≤ levels % 16)

-- THESE n ADDRESSES of a memory, 1 to `most`, stand side by side from place o on, each under levels for which the level of the request suffices
pub record Open (x : Asked) (m : Memory) (most : ℕ) (Suffices : ℕ → ℕ → Type 0) (n address o : ℕ) : Type 0 where
  pub some : 1 ≤ n
  pub few : n ≤ most
  pub level : ℕ
  pub acts : Acts x level
  pub each : (i : ℕ) → i < n → (levels : ℕ) × Stands x.sheet m (address + i) (o + i) levels × Suffices level levels

abbrev pub MemoryReadable : Asked → Memory → ℕ → ℕ → ℕ → Type 0
MemoryReadable x m n address o = Open x m (most_of m) ToRead n address o

abbrev pub MemoryWritable : Asked → Write → ℕ → ℕ → ℕ → Type 0
MemoryWritable x w n address o = Open x (into w) (most_in w) (ToWrite w) n address o

-- d is what a bit write leaves of the n bytes from place o on: (old AND a) XOR x for each, the data being n AND bytes a and then n XOR bytes x
pub record Combined (s : List ℕ) (o n : ℕ) (given d : List ℕ) : Type 0 where
  pub long : length d ≡ n
  pub each : (i : ℕ) → i < n → get_or d i 0 ≡ bit_xor (bit_and (get_or s (o + i) 0) (get_or given i 0)) (get_or given (n + i) 0)

-- d is what a write leaves of them
abbrev pub Leaves : Asked → Write → ℕ → ℕ → ℕ → List ℕ → Type 0
Leaves x (bytes m) n address o d = d ≡ given x (writing (bytes m) n address)
Leaves x bits n address o d = Combined x.sheet o n (given x (MemoryBitWrite n address)) d

abbrev pub Verify : Asked → Type 0
Verify x = head.verify x.sheet ≡ 1

-- THE STEP THAT IS DUE
pub data MemoryDue (x : Asked) : Step → Type 0 where
  memory_read : (m : Memory) (n address o : ℕ) → Reads x (reading m n address) → MemoryReadable x m n address o →
      MemoryDue x (says x 0 (response m n address) (part x.sheet o n))
  no_memory_read : (m : Memory) (n address : ℕ) → Reads x (reading m n address) → ((o : ℕ) → MemoryReadable x m n address o → ⊥) →
      MemoryDue x (says x 11 (response m 0 address) [])
  memory_write_verified : (w : Write) (n address o : ℕ) (d : List ℕ) → Reads x (writing w n address) → MemoryWritable x w n address o →
      Leaves x w n address o d → Verify x → MemoryDue x (says_after x (splice x.sheet o d) (response (into w) n address) d)
  memory_write : (w : Write) (n address o : ℕ) (d : List ℕ) → Reads x (writing w n address) → MemoryWritable x w n address o →
      Leaves x w n address o d → (Verify x → ⊥) → MemoryDue x (stores x (splice x.sheet o d))
  no_memory_write_verified : (w : Write) (n address : ℕ) → Reads x (writing w n address) → ((o : ℕ) → MemoryWritable x w n address o → ⊥) →
      Verify x → MemoryDue x (says x 11 (response (into w) 0 address) [])
  no_memory_write : (w : Write) (n address : ℕ) → Reads x (writing w n address) → ((o : ℕ) → MemoryWritable x w n address o → ⊥) →
      (Verify x → ⊥) → MemoryDue x (quiet x 12)
