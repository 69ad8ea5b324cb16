-- The count of a writing and what it leaves in the buffer, by its number.
use Rattle.octets.proofs.Kit.{ℕ, ◌+◌, ◌≡◌, refl, sym, ap, ◌∙◌, List, ◌++◌, length, drop}
use Rattle.std.proofs.Common.{Result, Ok, Err}
use Rattle.octets.proofs.Splices.{splice_front}
use Rattle.pdu.specs.{Read.data_at, Write.{encoded, write_of, write_outcome, write_count, buffer_of, Wrote}, declared.{Pdu.Pdu, WriteRefusal.WriteRefusal}}
use Rattle.pdu.proofs.promises.{Only.written, Writing.length_encoded}

-- what is not 0 is a refusal
refusal : (r : Result ℕ WriteRefusal) → (write_outcome r ≡ 0 → ⊥) → (e : WriteRefusal) × (r ≡ Err e)
refusal (Ok n) h = absurd (h refl)
refusal (Err e) h = (e, refl)

-- THE COUNT: of the PDU's bytes with 0, else 0
pub writes_count :
    (p : Pdu) (d o : List ℕ) →
    (write_outcome (write_of p d o) ≡ 0 → write_count (write_of p d o) ≡ length (encoded p d)) × ((write_outcome (write_of p d o) ≡ 0 → ⊥) → write_count (write_of p d o) ≡ 0)
writes_count p d o = (λ z. ap write_count (written p d o z) ∙ sym (length_encoded p d), λ h. ap write_count (refusal (write_of p d o) h).1)

module _ (p : Pdu) (d o e : List ℕ) (r : Result ℕ WriteRefusal) (w : Wrote p d o r e) where
  -- THE BUFFER AFTER 0: as many bytes as counted are the PDU's, and the rest is as found
  pub buffer_filled : write_outcome r ≡ 0 → (write_count r ≡ length (encoded p d)) × (e ≡ encoded p d ++ drop (write_count r) o)
  buffer_filled z =
      let y : write_outcome (write_of p d o) ≡ 0 = ap write_outcome (sym w.result) ∙ z in
      let b : r ≡ Ok (data_at p + length d) = w.result ∙ written p d o y in
      let n : write_count r ≡ length (encoded p d) = ap write_count w.result ∙ (writes_count p d o).0 y in
      (n, w.buffer ∙ ap (buffer_of p d o) b ∙ splice_front o (encoded p d) ∙ ap (λ (i : ℕ). encoded p d ++ drop i o) (sym n))

  -- AND AFTER A REFUSAL: all as found
  pub buffer_left : (write_outcome r ≡ 0 → ⊥) → (write_count r ≡ 0) × (e ≡ o)
  buffer_left h = let b = (refusal r h).1 in (ap write_count b, w.buffer ∙ ap (buffer_of p d o) b)
