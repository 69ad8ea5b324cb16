-- THE FRAME THAT BRINGS AN ANSWER: that every answer is written, whole. Assumes nothing.
use Rattle.octets.proofs.Kit.{ℕ, ◌+◌, ◌≤◌, ◌<◌, ◌≡◌, sym, ap, subst, ◌∙◌, false, List, [], ◌∷◌, length, le-ltb, arith}
use Rattle.octets.proofs.{Splices.splice_none, Truths.must_fail}
use Rattle.cemi.specs.{Write.{writable, count_of, write_of, write_count, buffer_of, Wrote}, Answering.answering, declared.{Fields.Fields, WriteRefusal.WriteRefusal}}
use Rattle.cemi.specs.declared.WriteRefusal.TheVariants as why
use Rattle.std.specs.Prelude.{Result, Ok, Err}
use Rattle.cemi.proofs.{promises.Answers.answer_writable, Wrote.bounds, promises.Backs.length_encoded}
use Rattle.link.specs.Serving.{most, longest, answer_frame, Sent}

-- WHAT WRITING AN ANSWER GIVES where the longest has room: never 46, and 47 of no bytes alone
module _ (f : Fields) (own mode sequence : ℕ) where
  abbrev fields : Fields
  fields = answering f own mode sequence

  gives : (k room : ℕ) → 1 ≤ k → k ≤ most → longest ≤ room → write_of fields 0 k room ≡ Ok (9 + k)
  unfolding write_of
  gives k room some few l =
      let m : count_of 0 k ≤ room = omega arith in
      simp (answer_writable f own mode sequence k some few, le-ltb room (count_of 0 k) m)

  none : (room : ℕ) → write_of fields 0 0 room ≡ Err why.Fields
  unfolding write_of
  none room = simp not_writable
    where
      not_writable : writable fields 0 0 ≡ false
      not_writable = must_fail (writable fields 0 0) (λ e. omega (arith, (bounds fields 0 0 e).some))

  sent :
      (a o o' : List ℕ) (w : Result ℕ WriteRefusal) → length a ≤ most → longest ≤ length o → Wrote fields [] a o w o' →
      Sent fields a o (write_count w) o'
  sent [] o o' w few room h =
      let r : w ≡ Err why.Fields = h.result ∙ none (length o) in
      record { count = ap write_count r; buffer = h.buffer ∙ ap (buffer_of fields [] [] o) r ∙ sym (splice_none o 0) }
  sent (x ∷ a) o o' w few room h =
      let r : w ≡ Ok (9 + length (x ∷ a)) = h.result ∙ gives (length (x ∷ a)) (length o) (omega arith) few room in
      record {
        count = ap write_count r ∙ sym (length_encoded fields [] (x ∷ a));
        buffer = h.buffer ∙ ap (buffer_of fields [] (x ∷ a) o) r;
      }

  pub frame_few : (a : List ℕ) → length a ≤ most → length (answer_frame fields a) ≤ longest
  frame_few [] few = omega arith
  frame_few (x ∷ a) few = omega (arith, length_encoded fields [] (x ∷ a))

  module _ (g : Fields) (z : g ≡ answering f own mode sequence) (a o o' : List ℕ) (w : Result ℕ WriteRefusal) (few : length a ≤ most) (room : longest ≤ length o)
      (h : Wrote g [] a o w o') where
    was_sent : Sent fields a o (write_count w) o'
    was_sent = sent a o o' w few room (subst (λ (g : Fields). Wrote g [] a o w o') z h)

    pub sent_bytes_lem : (n : ℕ) → w ≡ Ok n → Sent (answering f own mode sequence) a o n o'
    sent_bytes_lem n e = subst (λ (m : ℕ). Sent fields a o m o') (ap write_count e) was_sent

    pub sent_none : (n : WriteRefusal) → w ≡ Err n → Sent (answering f own mode sequence) a o 0 o'
    sent_none n e = subst (λ (m : ℕ). Sent fields a o m o') (ap write_count e) was_sent

    pub sent_few : (n : ℕ) → w ≡ Ok n → n < 256
    sent_few n e = omega (arith, (sent_bytes_lem n e).count, frame_few a few)
