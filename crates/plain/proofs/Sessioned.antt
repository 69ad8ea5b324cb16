-- What is sent.
use Rattle.octets.proofs.Kit.{ℕ, ◌+◌, ◌≤◌, ◌≡◌, refl, sym, subst, ◌∙◌, List, length, take, length-take, arith}
use Rattle.octets.{specs.Splice.splice, proofs.Splices.splice_none}
use Rattle.pdu.{specs.{Read.data_at, Write.encoded, declared.Pdu.Pdu}, proofs.promises.Writing.length_encoded}
use Rattle.device.specs.{Carry.{Filled}}
use Rattle.std.proofs.Common.{Option, Some, None}
use Rattle.plain.specs.Carrying.{sent_bytes, Sendable}

-- in an arm of a match it is known what is sent
pub nothing_sent : (x : Option Pdu) (b o : List ℕ) → x ≡ None → Filled (sent_bytes x b) 0 o o
nothing_sent x b o e = subst (λ (y : Option Pdu). Filled (sent_bytes y b) 0 o o) (sym e) record { count = refl; holds = sym (splice_none o 0) }

pub sendable : (n : ℕ) (x : Option Pdu) (p : Pdu) (b : List ℕ) → x ≡ Some p → Sendable n x b → (16 ≤ n) × (data_at p + length b ≤ 16)
sendable n x p b e h = subst (λ (y : Option Pdu). Sendable n y b) e h

pub this_sent :
    (x : Option Pdu) (p : Pdu) (b o o' : List ℕ) (r : ℕ) → x ≡ Some p → (r ≡ data_at p + length b) × (o' ≡ splice o 0 (encoded p b)) →
    Filled (sent_bytes x b) r o o'
this_sent x p b o o' r e h =
    subst (λ (y : Option Pdu). Filled (sent_bytes y b) r o o') (sym e) record { count = h.0 ∙ sym (length_encoded p b); holds = h.1 }

pub share_room : (n : ℕ) (b : List ℕ) → n ≤ 14 → length b ≡ 14 → n ≡ length (take n b)
share_room n b h l = sym (simp length-take (omega (arith, l)))
