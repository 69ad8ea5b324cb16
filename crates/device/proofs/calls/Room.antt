-- Something is answered only where the buffer has room.
use Rattle.octets.proofs.Kit.{ℕ, ◌≤◌, ◌≡◌, refl, Bool, true, false, cond, List, ltb, ltb-false}
use Rattle.judge.specs.{Decisions.refused, Judge.judge_of, declared.{Session.Session, Decision.Decision, Answer.Answer}}
use Rattle.judge.specs.declared.Answer.TheVariants as answer
use Rattle.device.specs.Safe.{Roomy}

all_roomy : (n : ℕ) (a : Answer) → 16 ≤ n → Roomy n a
all_roomy n answer.Silence h = tt
all_roomy n (answer.Plain p) h = h
all_roomy n (answer.Number p w x) h = h
all_roomy n (answer.Sheet p at m) h = h
all_roomy n (answer.Echo p) h = h

tested : (n : ℕ) (t : Bool) (k : Decision) → (t ≡ false → 16 ≤ n) → Roomy n (cond t (refused 3) k).answer
tested n true k h = tt
tested n false k h = all_roomy n k.answer (h refl)

pub roomy : (room : ℕ) (s : List ℕ) (q : Session) (mode group : ℕ) (a : List ℕ) → Roomy room (judge_of room s q mode group a).answer
unfolding judge_of
roomy room s q mode group a = tested room (ltb room 16) _ (λ e. ltb-false room 16 e)
