-- What carrying a decision out reads of the sheet stands after the head.
use Rattle.octets.proofs.Kit.{ℕ, ◌<◌, List, arith}
use Rattle.sheet.proofs.places.BodyPlaces.{after_contents}
use Rattle.sheet.specs.Head as head
use Rattle.pdu.specs.Read.{read_pdu}
use Rattle.judge.specs.{declared.Session.Session, Judge.{judge_of, data_in}}
use Rattle.device.proofs.apart.{StepBut.Spares, CarryReads.spares}

abbrev pub InHead : ℕ → Type 0
InHead p = p < head.size

-- WHATEVER IS DECIDED READS NOTHING OF THE HEAD WHEN IT IS CARRIED OUT
pub past_head :
    (room : ℕ) (s : List ℕ) (q : Session) (mode group : ℕ) (a : List ℕ) → Spares InHead (data_in (read_pdu a) a) (judge_of room s q mode group a)
past_head room s q mode group a =
    spares (record { room = room; sheet = s; session = q; mode = mode; group = group; apdu = a }) InHead
    (λ p r ok k i o b c l. omega (arith, b.from, after_contents ok k i b.kind b.below))
