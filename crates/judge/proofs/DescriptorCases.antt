-- What is decided about a descriptor type, case by case.
use Rattle.octets.proofs.Kit.{ℕ, ◌≤◌, ◌≡◌, List, arith}
use Rattle.octets.proofs.Walks.{by_eq}
use Rattle.sheet.specs.{Layout.◌of◌, Head.{rules_of, later}}
use Rattle.sheet.specs.Head as head
use Rattle.pdu.specs.declared.Pdu.TheVariants.{DeviceDescriptorResponse}
use Rattle.judge.specs.{declared.Decision.Decision, Decisions.{refused, denied, answered}, Addresses.descriptor_of}
use Rattle.judge.specs.declared.Answer.TheVariants as answer

pub descriptor_cases :
    (s : List ℕ) (t : ℕ) (P : Decision → Type 0) →
    (t ≡ 0 → P (answered (answer.Number (DeviceDescriptorResponse 0) 2 (head.mask of s)))) →
    (1 ≤ t → rules_of s ≡ later → P (denied (DeviceDescriptorResponse 63))) →
    (1 ≤ t → (rules_of s ≡ later → ⊥) → P (refused 2)) → P (descriptor_of s t)
unfolding descriptor_of
descriptor_cases s t P f g h = by_eq P t 0 _ _ f (λ n. by_eq P (rules_of s) later _ _ (g (omega arith)) (h (omega arith)))
