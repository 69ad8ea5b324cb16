-- Every answer is a PDU, and reads as one; its top six bits are zero.
use Rattle.octets.proofs.Kit.{ℕ, ◌<◌, ◌≡◌, refl, sym, subst, ◌⊎◌, inl, inr, true, List, [], ◌++◌, get_or, take, drop, arith}
use Rattle.octets.{specs.Bytes.bytes_of, proofs.Numbers.bytes_two}
use Rattle.pdu.specs.{Item.{Row, Value}, Table.row_of, Pdus.{service_of, values_of}, Rules.{code_for, item_bytes, head_bytes}, Read.read_pdu, Write.{encoded, writable}, Allows.Typed}
use Rattle.pdu.{specs.declared.Pdu.Pdu, proofs.{Formed.{Formed, formed_says, coded}, Sound.sound, promises.{Only.writable_is, Back.read_back}}}
use Rattle.judge.specs.{declared.{Answer.Answer, Decision.Decision}, Judge.{judge_of, data_in}}
use Rattle.judge.specs.declared.Answer.TheVariants as answer
use Rattle.device.specs.{Carry.{store_of, answer_of}, Octets.Octets, Replies.IsPdu, Safe.AnswerSafe, Step.{step_by, step_of}, Asked.Asked, Demand2.done}
use Rattle.device.proofs.{calls.Safe.safe, due.Typing.{AnswerTyped, typed}}

is_pdu : (p : Pdu) (d : List ℕ) → Typed p → writable p d ≡ true → IsPdu (encoded p d)
is_pdu p d t w =
    let r = read_back p d ((writable_is p d t).0 w) in
    record { pdu = p; bytes = d; written = refl; reads = r.0; gives = r.1 }

-- the code of a PDU that can be written is below 1,024
first_small : (p : Pdu) (d : List ℕ) → Typed p → writable p d ≡ true → get_or (encoded p d) 0 0 < 4
unfolding encoded head_bytes
first_small p d t w =
    let r : Row = row_of (service_of p) in
    let x : List Value = values_of p in
    let c : ℕ = code_for r x in
    let f : Formed r = formed_says r (sound (service_of p)).form in
    let h = (coded r.base r.span r.items x f.items_ok ((writable_is p d t).0 w).fields).most in
    subst (λ (z : List ℕ). get_or ((z ++ item_bytes r.items x) ++ d) 0 0 < 4) (sym (bytes_two c)) (omega (arith, h, f.small))

-- what holds of every PDU that can be written holds of every answer
told :
    (Q : List ℕ → Type 0) → ((p : Pdu) (d : List ℕ) → Typed p → writable p d ≡ true → Q (encoded p d)) →
    (s d : List ℕ) (r : Answer) → AnswerSafe s d r → AnswerTyped r → (answer_of s d r ≡ []) ⊎ Q (answer_of s d r)
told Q f s d answer.Silence h t = inl refl
told Q f s d (answer.Plain p) h t = inr (f p [] t h)
told Q f s d (answer.Number p w x) h t = inr (f p (bytes_of w x) t h.1)
told Q f s d (answer.Sheet p at n) h t = inr (f p (take n (drop at s)) t h.2)
told Q f s d (answer.Echo p) h t = inr (f p d t h)

module _ (x : Asked) (hs : Octets x.sheet) (ha : Octets x.apdu) where
  answered :
      (Q : List ℕ → Type 0) → ((p : Pdu) (d : List ℕ) → Typed p → writable p d ≡ true → Q (encoded p d)) →
      ((done x).answer ≡ []) ⊎ Q (done x).answer
  unfolding step_of step_by
  answered Q f =
      let s : List ℕ = x.sheet in
      let d : List ℕ = data_in (read_pdu x.apdu) x.apdu in
      let k : Decision = judge_of x.room s x.session x.mode x.group x.apdu in
      told Q f (store_of (store_of s d k.first) d k.second) d k.answer (safe x.room s x.session x.mode x.group x.apdu).answer
      (typed x hs ha)

  -- THERE IS NO ANSWER, OR IT IS A PDU THAT READS BACK
  pub answer_reads : ((done x).answer ≡ []) ⊎ IsPdu (done x).answer
  answer_reads = answered IsPdu is_pdu

  -- THE TOP SIX BITS OF AN ANSWER ARE ZERO
  pub answer_top : get_or (done x).answer 0 0 < 4
  answer_top = go (answered (λ (b : List ℕ). get_or b 0 0 < 4) first_small)
    where
      go : ((done x).answer ≡ []) ⊎ (get_or (done x).answer 0 0 < 4) → get_or (done x).answer 0 0 < 4
      go (inl e) = subst (λ (b : List ℕ). get_or b 0 0 < 4) (sym e) (omega arith)
      go (inr h) = h
