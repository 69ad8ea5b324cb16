-- Worked examples: frames to the device 1105h whose connection 0 is open to 11FFh and whose connection 1 was 1203h's, or is, or both are closed; and what they are to it. Assumes nothing.
use Rattle.octets.proofs.Kit.{ℕ, ◌≡◌, refl, true, false, List, [], ◌∷◌}
use Rattle.octets.specs.Bytes.{num_at}
use Rattle.cemi.specs.{Read.{standard_of, refusal_of, read_frame}, Meaning.{to_group, control, numbered, to_one, meaning_of}}
use Rattle.judge.specs.declared.Session.{Session}
use Rattle.link.specs.{Partners.{place_of, free_of, place_for}, Hearing.{for_us, to_itself, on_place, connects, disconnects, meant, from_other, judged, heard_got, heard_of}, declared.Link.Link}
use Rattle.link.specs.declared.Arrived.{Arrived, TheVariants.{Request, Connect, Disconnect, Nothing}}

abbrev at : Session
at = record { opened = true; level = 2 }

abbrev shut : Session
shut = record { opened = false; level = 3 }

-- one partner; none; and two
abbrev one : Link
one = record { sessions = record { first = at; second = shut }; first = 0x11FF; second = 0x1203 }

abbrev none : Link
none = record { sessions = record { first = shut; second = shut }; first = 0x11FF; second = 0x1203 }

abbrev two : Link
two = record { sessions = record { first = at; second = at }; first = 0x11FF; second = 0x1203 }

-- a control or data of one octet to an individual address, and to a group
abbrev to : ℕ → ℕ → ℕ → ℕ → ℕ → List ℕ
to s t d e octet = 0x29 ∷ 0 ∷ 0xB0 ∷ 0x60 ∷ s ∷ t ∷ d ∷ e ∷ 0 ∷ octet ∷ []

abbrev group : ℕ → ℕ → ℕ → List ℕ
group d e octet = 0x29 ∷ 0 ∷ 0xB0 ∷ 0xE0 ∷ 0x11 ∷ 0xFF ∷ d ∷ e ∷ 0 ∷ octet ∷ []

-- with any control bytes c and e, and any additional information
abbrev by : ℕ → ℕ → ℕ → ℕ → ℕ → ℕ → ℕ → List ℕ
by c e s t d f octet = 0x29 ∷ 0 ∷ c ∷ e ∷ s ∷ t ∷ d ∷ f ∷ 0 ∷ octet ∷ []

abbrev hears : Link → List ℕ → Arrived
hears k b = heard_of k 0x1105 b

pub heard_examples :
    (hears one (to 0x11 0xFF 0x11 0x05 0x80) ≡ Connect 0)
    × (hears one (to 0x12 0x03 0x11 0x05 0x80) ≡ Connect 1)
    × (hears two (to 0x12 0x03 0x11 0x05 0x80) ≡ Connect 1)
    × (hears two (to 0x12 0x04 0x11 0x05 0x80) ≡ Nothing 62 255)
    × (hears two (to 0x12 0x03 0x11 0x05 0x81) ≡ Disconnect 1)
    × (hears one (to 0x12 0x03 0x11 0x05 0x81) ≡ Nothing 63 255)
    × (hears two (to 0x12 0x03 0x11 0x05 0x44) ≡ Request 3 1 0x1105)
    × (hears one (to 0x12 0x03 0x11 0x05 0x44) ≡ Nothing 61 255)
    × (hears one (to 0x12 0x03 0x11 0x05 0x03) ≡ Request 2 255 0x1105)
    × (hears two (to 0x11 0xFF 0x11 0x05 0xC2) ≡ Nothing 45 0)
    × (hears two (to 0x12 0x03 0x11 0x05 0xC0) ≡ Nothing 44 1)
    × (hears two (group 0x08 0x01 0x00) ≡ Request 0 255 0x0801)
    × (hears two (group 0x00 0x00 0x00) ≡ Request 1 255 0)
    × (hears two (group 0x08 0x01 0x80) ≡ Nothing 44 0)
unfolding heard_of heard_got judged for_us from_other to_itself meant on_place connects disconnects place_of place_for free_of read_frame refusal_of standard_of meaning_of to_group to_one control numbered num_at
heard_examples = (refl, refl, refl, refl, refl, refl, refl, refl, refl, refl, refl, refl, refl, refl)

-- to the addresses below and above its own
pub neighbours_examples :
    (hears two (to 0x11 0xFF 0x11 0x04 0x80) ≡ Nothing 60 255)
    × (hears two (to 0x11 0xFF 0x11 0x06 0x80) ≡ Nothing 60 255)
    × (hears two (to 0x11 0xFF 0x11 0x06 0xC2) ≡ Nothing 60 255)
unfolding heard_of heard_got judged for_us read_frame refusal_of standard_of num_at
neighbours_examples = (refl, refl, refl)

-- connection 0 as connection 1: its partner's data, with whatever sequence number, and its disconnect; and with the second place alone free or none
pub first_examples :
    (hears two (to 0x11 0xFF 0x11 0x05 0x40) ≡ Request 3 0 0x1105)
    × (hears one (to 0x11 0xFF 0x11 0x05 0x40) ≡ Request 3 0 0x1105)
    × (hears two (to 0x11 0xFF 0x11 0x05 0x7F) ≡ Request 3 0 0x1105)
    × (hears two (to 0x12 0x03 0x11 0x05 0x40) ≡ Request 3 1 0x1105)
    × (hears two (to 0x11 0xFF 0x11 0x05 0x81) ≡ Disconnect 0)
    × (hears one (to 0x11 0xFF 0x11 0x05 0x81) ≡ Disconnect 0)
unfolding heard_of heard_got judged for_us from_other to_itself meant on_place connects disconnects place_of place_for free_of read_frame refusal_of standard_of meaning_of to_group to_one control numbered num_at
first_examples = (refl, refl, refl, refl, refl, refl)

-- both places free: the first is given, whoever had the second; nobody's data, disconnect and acknowledgement
pub free_examples :
    (hears none (to 0x11 0xFF 0x11 0x05 0x80) ≡ Connect 0)
    × (hears none (to 0x12 0x03 0x11 0x05 0x80) ≡ Connect 0)
    × (hears none (to 0x11 0xFF 0x11 0x05 0x40) ≡ Nothing 61 255)
    × (hears none (to 0x11 0xFF 0x11 0x05 0x81) ≡ Nothing 63 255)
    × (hears none (to 0x11 0xFF 0x11 0x05 0xC2) ≡ Nothing 45 255)
unfolding heard_of heard_got judged for_us from_other to_itself meant on_place connects disconnects place_of place_for free_of read_frame refusal_of standard_of meaning_of to_group to_one control numbered num_at
free_examples = (refl, refl, refl, refl, refl)

-- a partner's data without a connection is nobody's, and so acts at level 3
pub partner_examples :
    (hears two (to 0x11 0xFF 0x11 0x05 0x03) ≡ Request 2 255 0x1105)
    × (hears two (to 0x12 0x03 0x11 0x05 0x03) ≡ Request 2 255 0x1105)
    × (hears two (group 0x08 0x01 0x00) ≡ Request 0 255 0x0801)
unfolding heard_of heard_got judged for_us from_other to_itself meant on_place connects disconnects place_of place_for free_of read_frame refusal_of standard_of meaning_of to_group to_one control numbered num_at
partner_examples = (refl, refl, refl)

-- hop counts 0 and 7, to one device and to a group; low priority; a repeated frame; four bytes of additional information
pub control_examples :
    (hears two (by 0xB0 0x00 0x11 0xFF 0x11 0x05 0x44) ≡ Request 3 0 0x1105)
    × (hears two (by 0xB0 0x70 0x11 0xFF 0x11 0x05 0x44) ≡ Request 3 0 0x1105)
    × (hears two (by 0xB0 0x80 0x12 0x04 0x08 0x01 0x00) ≡ Request 0 255 0x0801)
    × (hears two (by 0xB0 0xF0 0x12 0x04 0x08 0x01 0x00) ≡ Request 0 255 0x0801)
    × (hears two (by 0xB0 0x80 0x12 0x04 0x00 0x00 0x00) ≡ Request 1 255 0)
    × (hears two (by 0xBC 0x60 0x11 0xFF 0x11 0x05 0x44) ≡ Request 3 0 0x1105)
    × (hears two (by 0xBC 0xE0 0x12 0x04 0x08 0x01 0x00) ≡ Request 0 255 0x0801)
    × (hears two (by 0x90 0x60 0x11 0xFF 0x11 0x05 0x44) ≡ Request 3 0 0x1105)
    × (hears two (by 0x9C 0x50 0x12 0x03 0x11 0x05 0x81) ≡ Disconnect 1)
    × (hears one (0x29 ∷ 4 ∷ 3 ∷ 2 ∷ 0xAA ∷ 0xBB ∷ 0xBC ∷ 0x50 ∷ 0x12 ∷ 0x04 ∷ 0x11 ∷ 0x05 ∷ 0 ∷ 0x80 ∷ []) ≡ Connect 1)
unfolding heard_of heard_got judged for_us from_other to_itself meant on_place connects disconnects place_of place_for free_of read_frame refusal_of standard_of meaning_of to_group to_one control numbered num_at
control_examples = (refl, refl, refl, refl, refl, refl, refl, refl, refl, refl)

-- from the device itself to itself alone: a connect, with a place free; data, a disconnect and an acknowledgement, even where the link says that a place is its own;
-- data without a connection. To its neighbour it is the neighbour's
abbrev mine : Link
mine = record { sessions = record { first = at; second = shut }; first = 0x1105; second = 0x1203 }

pub itself_examples :
    (hears none (to 0x11 0x05 0x11 0x05 0x80) ≡ Nothing 65 255)
    × (hears mine (to 0x11 0x05 0x11 0x05 0x44) ≡ Nothing 65 255)
    × (hears mine (to 0x11 0x05 0x11 0x05 0x81) ≡ Nothing 65 255)
    × (hears mine (to 0x11 0x05 0x11 0x05 0xC2) ≡ Nothing 65 255)
    × (hears none (to 0x11 0x05 0x11 0x05 0x03) ≡ Nothing 65 255)
    × (hears mine (to 0x11 0x05 0x11 0x06 0x80) ≡ Nothing 60 255)
unfolding heard_of heard_got judged for_us from_other to_itself meant on_place connects disconnects place_of place_for free_of read_frame refusal_of standard_of meaning_of to_group to_one control numbered num_at
itself_examples = (refl, refl, refl, refl, refl, refl)

-- to a group and to all, under the device's own address: heard as anybody's, also where the group has that number
pub shared_examples :
    (hears none (by 0xB0 0xE0 0x11 0x05 0x08 0x01 0x00) ≡ Request 0 255 0x0801)
    × (hears none (by 0xB0 0xE0 0x11 0x05 0x11 0x05 0x00) ≡ Request 0 255 0x1105)
    × (hears none (by 0xB0 0xE0 0x11 0x05 0x00 0x00 0x00) ≡ Request 1 255 0)
    × (hears none (by 0xB0 0xE0 0x11 0x05 0x08 0x01 0x80) ≡ Nothing 44 255)
    × (heard_of none 0xFFFF (by 0xB0 0xE0 0xFF 0xFF 0x00 0x00 0x00) ≡ Request 1 255 0)
unfolding heard_of heard_got judged for_us from_other to_itself meant on_place connects disconnects place_of place_for free_of read_frame refusal_of standard_of meaning_of to_group to_one control numbered num_at
shared_examples = (refl, refl, refl, refl, refl)
