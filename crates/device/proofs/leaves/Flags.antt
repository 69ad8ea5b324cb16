-- The flags: what is left without programming mode, and what the button sets.
use Rattle.octets.proofs.Kit.{ℕ, ◌*◌, ◌-◌, ◌≤◌, ◌≡◌, Bool, true, false, List, arith}
use Rattle.sheet.{specs.{Layout.◌of◌, Rules.Accepted}, proofs.rules.Good.good}
use Rattle.sheet.specs.Head as head
use Rattle.device.specs.Events.{bit}

-- only verify is left
pub verify_left : (s : List ℕ) → Accepted s → head.flags of s - head.programming s ≡ head.verify s * 2
verify_left s ok = omega (arith, (good s ok).zeros.0)

pub bit_small : (on : Bool) → bit on ≤ 1
bit_small true = omega arith
bit_small false = omega arith
