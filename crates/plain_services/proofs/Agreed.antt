-- Replies that agree with decisions.
use Rattle.std.specs.Int.{w16, to_be_bytes}
use Rattle.octets.{specs.Bytes.bytes_of, proofs.Numbers.bytes_two}
use Rattle.octets.proofs.Kit.{ℕ, ◌+◌, ◌-◌, ◌≤◌, arith, ◌≡◌, refl, sym, ap, subst, ◌∙◌, length, take, drop, length-take, List}
use Rattle.octets.{specs.Splice.splice, proofs.Splices.splice_read}
use Rattle.judge.specs.declared.Decision.{Decision}
use Rattle.parts.specs.{declared.Parts.Parts, Records.Taken}
use Rattle.plain_services.specs.{declared.Reply.Reply, Steps.{Gives, Agrees, sent_of, data_for, left}}

-- the reply has the decision's outcome, turn, PDU and data, and the parts are those of the sheet that it leaves
pub agreed :
    {s d : List ℕ} (k : Decision) {r : Reply} {v : Parts} →
    Gives r k.outcome v k.turn (sent_of k.answer) (data_for (left s d k) d k.answer) → Taken (left s d k) v → Agrees s d k r
agreed {s} {d} k {r} {v} g t =
    record {
      gives =
          record {
            outcome = g.outcome;
            parts = refl;
            turn = g.turn;
            sent = g.sent;
            bytes = g.bytes;
            short = g.short;
            full = g.full;
          };
      sheet = subst (λ (x : Parts). Taken (left s d k) x) (sym g.parts) t;
    }

-- the decision by another name
pub by_decision : {s d : List ℕ} {r : Reply} (k k' : Decision) → k ≡ k' → Agrees s d k' r → Agrees s d k r
by_decision {s} {d} {r} k k' e a = subst (λ (x : Decision). Agrees s d x r) (sym e) a

-- the data of a reply in front of an array
pub echoed : (b b' d : List ℕ) → 0 + length d ≤ length b → b' ≡ splice b 0 d → take (length d) b' ≡ d
echoed b b' d l e = ap (λ (y : List ℕ). take (length d) y) e ∙ splice_read b 0 d l

-- a part of an array
pub quoted : (at size : ℕ) (b : List ℕ) → take (at + size - at) (drop at b) ≡ take size (drop at b)
quoted at size b = let q : at + size - at ≡ size = omega arith in ap (λ (m : ℕ). take m (drop at b)) q

-- the first n bytes of an array of 14
pub share_room : (n : ℕ) (b : List ℕ) → n ≤ 14 → length b ≡ 14 → n ≡ length (take n b)
share_room n b h l = sym (simp length-take (omega (arith, l)))

-- the two bytes of a number
pub word_bytes : (x : ℕ) (b : List ℕ) → b ≡ to_be_bytes w16 x → b ≡ bytes_of 2 x
word_bytes x b e = e ∙ sym (bytes_two x)
