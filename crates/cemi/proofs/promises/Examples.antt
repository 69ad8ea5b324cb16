-- Worked examples: what frames read as and mean, and the bytes of one, by computation. Fields exchanged in table, reader and writer at once would show here. Assumes nothing.
use Rattle.octets.proofs.Kit.{◌≡◌, refl, List, [], ◌∷◌, map, ℕ}
use Rattle.std.specs.Prelude.{Result, Ok, Err}
use Rattle.octets.specs.Bytes.{num_at, bytes_of}
use Rattle.cemi.specs.{Layout.bytes_in, Read.{frame_in, standard_of, refusal_of, read_frame, read_outcome}}
use Rattle.cemi.specs.{Meaning.{to_group, numbered, to_one, control, meaning_of, meaning_number, multicast, broadcast, connectionless, connected}, Write.{under, encoded}}
use Rattle.cemi.specs.{Answering.answering, declared.{Fields.Fields, Frame.Frame, ReadRefusal.ReadRefusal, NoMeaning.TheVariants.Transport, Meaning.TheVariants.{Data, Connect, Disconnect}}}
use Rattle.cemi.specs.Refusal.{read_number}

-- L_Data.ind from 1105h to group 0801h: a group value write
group : Frame
group =
    record {
      fields = record { code = 0x29; control1 = 0xBC; control2 = 0xE0; source = 0x1105; destination = 0x0801; transport = 0 };
      low = 0;
      info = 0;
      stated = 1;
    }

group_reads : read_frame (0x29 ∷ 0 ∷ 0xBC ∷ 0xE0 ∷ 0x11 ∷ 0x05 ∷ 0x08 ∷ 0x01 ∷ 1 ∷ 0x00 ∷ 0x81 ∷ []) ≡ Ok group
unfolding group read_frame refusal_of standard_of num_at
group_reads = refl

group_means : meaning_of group ≡ Ok (Data multicast)
unfolding group meaning_of to_group
group_means = refl

-- L_Data.req from 11FFh to 1105h with two bytes of additional information: connected data, sequence number 1, a memory read
numbered_one : Frame
numbered_one =
    record {
      fields = record { code = 0x11; control1 = 0xB0; control2 = 0x60; source = 0x11FF; destination = 0x1105; transport = 17 };
      low = 2;
      info = 2;
      stated = 3;
    }

numbered_bytes : List ℕ
numbered_bytes = 0x11 ∷ 2 ∷ 0xAA ∷ 0xBB ∷ 0xB0 ∷ 0x60 ∷ 0x11 ∷ 0xFF ∷ 0x11 ∷ 0x05 ∷ 3 ∷ 0x46 ∷ 0x04 ∷ 0x01 ∷ 0x00 ∷ []

numbered_reads : read_frame numbered_bytes ≡ Ok numbered_one
unfolding numbered_one numbered_bytes read_frame refusal_of standard_of num_at
numbered_reads = refl

numbered_means : meaning_of numbered_one ≡ Ok (Data connected)
unfolding numbered_one meaning_of to_one numbered
numbered_means = refl

numbered_written : encoded numbered_one.fields (0xAA ∷ 0xBB ∷ []) (0x02 ∷ 0x04 ∷ 0x01 ∷ 0x00 ∷ []) ≡ numbered_bytes
unfolding numbered_one numbered_bytes encoded bytes_in bytes_of under
numbered_written = refl

-- BY NUMBER, as the device numbers its modes: multicast, broadcast, connectionless, connected, connect, disconnect, acknowledged twice, all else; and each refusal of reading
abbrev event : Result Frame ReadRefusal → ℕ
event (Ok f) = meaning_number (meaning_of f)
event (Err e) = read_number e

pub events :
    map (λ (b : List ℕ). event (read_frame b))
    ((0x29 ∷ 0 ∷ 0xBC ∷ 0xE0 ∷ 0x11 ∷ 0x05 ∷ 0x08 ∷ 0x01 ∷ 1 ∷ 0x00 ∷ 0x81 ∷ []) ∷
    (0x29 ∷ 0 ∷ 0xB0 ∷ 0xE0 ∷ 0x11 ∷ 0xFF ∷ 0x00 ∷ 0x00 ∷ 1 ∷ 0x01 ∷ 0x00 ∷ []) ∷
    (0x29 ∷ 0 ∷ 0xB0 ∷ 0x60 ∷ 0x11 ∷ 0xFF ∷ 0x11 ∷ 0x05 ∷ 1 ∷ 0x03 ∷ 0x00 ∷ []) ∷
    (0x29 ∷ 0 ∷ 0xB0 ∷ 0x60 ∷ 0x11 ∷ 0xFF ∷ 0x11 ∷ 0x05 ∷ 1 ∷ 0x7F ∷ 0x80 ∷ []) ∷
    (0x29 ∷ 0 ∷ 0xB0 ∷ 0x60 ∷ 0x11 ∷ 0xFF ∷ 0x11 ∷ 0x05 ∷ 0 ∷ 0x80 ∷ []) ∷
    (0x29 ∷ 0 ∷ 0xB0 ∷ 0x60 ∷ 0x11 ∷ 0xFF ∷ 0x11 ∷ 0x05 ∷ 0 ∷ 0x81 ∷ []) ∷
    (0x29 ∷ 0 ∷ 0xB0 ∷ 0x60 ∷ 0x11 ∷ 0xFF ∷ 0x11 ∷ 0x05 ∷ 0 ∷ 0xC2 ∷ []) ∷
    (0x29 ∷ 0 ∷ 0xB0 ∷ 0x60 ∷ 0x11 ∷ 0xFF ∷ 0x11 ∷ 0x05 ∷ 0 ∷ 0xFF ∷ []) ∷
    (0x29 ∷ 0 ∷ 0xB0 ∷ 0xE0 ∷ 0x11 ∷ 0xFF ∷ 0x08 ∷ 0x01 ∷ 0 ∷ 0x80 ∷ []) ∷
    (0x29 ∷ 0 ∷ 0xB0 ∷ 0x60 ∷ 0x11 ∷ 0xFF ∷ 0x11 ∷ 0x05 ∷ 1 ∷ 0x80 ∷ 0x00 ∷ []) ∷
    (0x10 ∷ 0 ∷ []) ∷
    (0x2E ∷ 0 ∷ 0x3C ∷ 0xE0 ∷ 0x11 ∷ 0x05 ∷ 0x08 ∷ 0x01 ∷ 1 ∷ 0x00 ∷ 0x81 ∷ []) ∷
    (0x29 ∷ 0 ∷ 0x3C ∷ 0xE0 ∷ 0x11 ∷ 0x05 ∷ 0x08 ∷ 0x01 ∷ 2 ∷ 0x00 ∷ 0x81 ∷ []) ∷
    (0x29 ∷ 0 ∷ 0xBC ∷ 0xE0 ∷ 0x11 ∷ 0x05 ∷ 0x08 ∷ 0x01 ∷ 2 ∷ 0x00 ∷ 0x81 ∷ []) ∷ [])
    ≡ 0 ∷ 1 ∷ 2 ∷ 3 ∷ 4 ∷ 5 ∷ 45 ∷ 45 ∷ 44 ∷ 44 ∷ 40 ∷ 41 ∷ 42 ∷ 43 ∷ []
unfolding read_frame refusal_of standard_of num_at meaning_of to_group to_one numbered control
events = refl

-- connect and disconnect by their names
pub controls :
    meaning_of (frame_in (0x29 ∷ 0 ∷ 0xB0 ∷ 0x60 ∷ 0x11 ∷ 0xFF ∷ 0x11 ∷ 0x05 ∷ 0 ∷ 0x80 ∷ [])) ∷ meaning_of (frame_in (0x29 ∷ 0 ∷ 0xB0 ∷ 0x60 ∷ 0x11 ∷ 0xFF ∷ 0x11 ∷ 0x05 ∷ 0 ∷ 0x81 ∷ [])) ∷ []
    ≡ Ok Connect ∷ Ok Disconnect ∷ []
unfolding num_at meaning_of to_one numbered control
controls = refl

-- from 11FFh to 1105h, with any control 2 and any octet 6, and one octet more
abbrev between : ℕ → ℕ → List ℕ
between c octet = 0x29 ∷ 0 ∷ 0xB0 ∷ c ∷ 0x11 ∷ 0xFF ∷ 0x11 ∷ 0x05 ∷ 1 ∷ octet ∷ 0x00 ∷ []

-- CONNECTED DATA AT ITS EDGES: sequence numbers 0 and 15, and the transport controls on both sides
pub numbered_edges :
    map (λ (octet : ℕ). meaning_of (frame_in (between 0x60 octet))) (0x3F ∷ 0x40 ∷ 0x43 ∷ 0x7C ∷ 0x7F ∷ 0x80 ∷ [])
    ≡ Err Transport ∷ Ok (Data connected) ∷ Ok (Data connected) ∷ Ok (Data connected) ∷ Ok (Data connected) ∷ Err Transport ∷ []
unfolding num_at meaning_of to_one numbered control
numbered_edges = refl

-- NO STANDARD FRAME: each of the low four bits of control 2 alone; and with the others it is one
pub extended_edges :
    map (λ (c : ℕ). read_outcome (read_frame (between c 0x43))) (0x61 ∷ 0x62 ∷ 0x64 ∷ 0x68 ∷ 0xE8 ∷ 0x00 ∷ 0xF0 ∷ []) ≡ 42 ∷ 42 ∷ 42 ∷ 42 ∷ 42 ∷ 0 ∷ 0 ∷ []
unfolding read_frame refusal_of standard_of num_at
extended_edges = refl

-- WHO ANSWERS WHOM, 11FFh having asked and 1105h being the device's own address: a group, repeated and with five hops left; all; one device; one device connected, with the number 18 for the answer
abbrev asked : ℕ → ℕ → ℕ → ℕ → Fields
asked c₁ c₂ d t = record { code = 0x29; control1 = c₁; control2 = c₂; source = 0x11FF; destination = d; transport = t }

abbrev answer : ℕ → ℕ → ℕ → ℕ → Fields
answer c₁ c₂ d t = record { code = 0x11; control1 = c₁; control2 = c₂; source = 0x1105; destination = d; transport = t }

pub answers :
    answering (asked 0x9C 0xD0 0x0801 0) 0x1105 multicast 7 ∷
    answering (asked 0xB8 0xE0 0 0) 0x1105 broadcast 7 ∷
    answering (asked 0xB4 0x60 0x1105 0) 0x1105 connectionless 7 ∷
    answering (asked 0x90 0x50 0x1105 17) 0x1105 connected 18 ∷
    []
    ≡ answer 0xBC 0xE0 0x0801 0 ∷ answer 0xB8 0xE0 0 0 ∷ answer 0xB4 0x60 0x11FF 0 ∷ answer 0xB0 0x60 0x11FF 18 ∷ []
unfolding answering
answers = refl
