-- What arrived and who sent it, worked by their numbers. Assumes nothing.
use Rattle.octets.proofs.Kit.{ℕ, ◌≡◌, refl, Bool, true, false, List, [], ◌∷◌}
use Rattle.octets.specs.{Bytes.num_at}
use Rattle.cemi.specs.{Read.{standard_of, refusal_of, read_frame}}
use Rattle.link.specs.{declared.Arrived.TheVariants.{Request}}
use Rattle.host.specs.{Bus.{refuses, sender_of, arrival_of}, declared.bus.Sender.Sender}

-- WORKED: from 11FFh behind two bytes of additional information, connected data of number 5, T_ACK and T_NAK of number 10, a connect, the read of a group; and what does not read
abbrev from : ℕ → ℕ → List ℕ
from type octet = 0x29 ∷ 2 ∷ 0xAA ∷ 0xBB ∷ 0xB0 ∷ type ∷ 0x11 ∷ 0xFF ∷ 0x11 ∷ 0x05 ∷ 0 ∷ octet ∷ []

abbrev by : ℕ → ℕ → Bool → Sender
by source sequence negative = record { source = source; sequence = sequence; negative = negative }

pub senders_worked :
    sender_of (read_frame (from 0x60 0x57)) ∷ sender_of (read_frame (from 0x60 0xEA)) ∷ sender_of (read_frame (from 0x60 0xEB)) ∷ sender_of (read_frame (from 0x60 0x80)) ∷
    sender_of (read_frame (from 0xE0 0x03)) ∷ sender_of (read_frame (0x29 ∷ 0 ∷ [])) ∷ []
    ≡ by 0x11FF 5 false ∷ by 0x11FF 10 false ∷ by 0x11FF 10 true ∷ by 0x11FF 0 false ∷ by 0x11FF 0 false ∷ by 0 0 false ∷ []
unfolding sender_of refuses read_frame refusal_of standard_of num_at
senders_worked = refl

-- each of its numbers in its place
pub laid_worked :
    arrival_of (Request 3 1 0x0801) (by 0x11FF 5 true) ≡ record { event = 3; connection = 1; group = 0x0801; source = 0x11FF; sequence = 5; negative = true }
unfolding arrival_of
laid_worked = refl
