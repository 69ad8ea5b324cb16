-- What of a request is not read: outside multicast the group address, and always the top six bits of the first byte.
use Rattle.octets.proofs.Kit.{ℕ, ◌%◌, ◌≡◌, ap, ap₂, ◌∙◌, List, ◌∷◌}
use Rattle.std.proofs.Common.{Result}
use Rattle.pdu.specs.declared.Pdu.{Pdu}
use Rattle.pdu.specs.declared.ReadRefusal.{ReadRefusal}
use Rattle.pdu.specs.Read.{read_pdu}
use Rattle.judge.specs.{declared.Session.Session, Session.multicast, Judge.data_in}
use Rattle.device.specs.Step.{step_by, step_of}
use Rattle.device.proofs.unread.{Group.judge_other, TopBits.{read_same, data_in_same, judge_same}}

module _ (room : ℕ) (s : List ℕ) (q : Session) (mode : ℕ) (a : List ℕ) (g g' : ℕ) (other : mode ≡ multicast → ⊥) where
  -- OUTSIDE MULTICAST THE GROUP ADDRESS IS NOT READ
  pub group_unread : step_of room s q mode g a ≡ step_of room s q mode g' a
  unfolding step_of
  group_unread = ap (step_by s q (data_in (read_pdu a) a)) (judge_other room s q mode a g g' other)

-- two requests that differ in the top six bits of the first byte
module _ (b b' : ℕ) (l : List ℕ) (h : b % 4 ≡ b' % 4) (room : ℕ) (s : List ℕ) (q : Session) (mode g : ℕ) where
  -- THE TOP SIX BITS OF A REQUEST ARE NOT READ
  pub top_unread : step_of room s q mode g (b ∷ l) ≡ step_of room s q mode g (b' ∷ l)
  unfolding step_of
  top_unread =
      ap₂ (step_by s q) (ap (λ (z : Result Pdu ReadRefusal). data_in z (b ∷ l)) (read_same b b' l h) ∙ data_in_same b b' l h (read_pdu (b' ∷ l))) (judge_same b b' l h room s q mode g)
