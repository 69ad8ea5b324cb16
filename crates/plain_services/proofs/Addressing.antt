-- Addresses, serial numbers and the descriptor on parts are those of the first engine.
use Rattle.std.proofs.Common.{Some, None}
use Rattle.octets.proofs.Kit.{ℕ, ◌<◌, ◌^◌, ◌≡◌, refl, sym, subst, ◌∙◌, true, false, List, [], eq-eqb, ne_eqb}
use Rattle.octets.specs.{Bytes.bytes_of, Splice.splice}
use Rattle.sheet.specs.{Layout.◌of◌, Head.rules_of}
use Rattle.sheet.specs.Head as head
use Rattle.pdu.specs.declared.Pdu.TheVariants.{IndividualAddressResponse, SerialNumberResponse, DeviceDescriptorResponse}
use Rattle.judge.specs.{declared.Turn.TheVariants.Stays, Decisions.{refused, denied, answered, stored}}
use Rattle.judge.specs.Addresses.{new_address, address_write_of, address_read_of, serial_read_of, serial_write_of, descriptor_of}
use Rattle.judge.specs.declared.Answer.TheVariants as answer
use Rattle.parts.{specs.{declared.Parts.Parts, Records.Taken, With.with_address}, proofs.Framed.address_stored}
use Rattle.plain_services.specs.{declared.{Reply.Reply}, Steps.{Gives, Agrees, Serves}}
use Rattle.plain_services.proofs.Agreed.{agreed, by_decision}

module _ (u : Parts) (r : Reply) where
  -- the new address stored, whatever decides on it
  set : (a : ℕ) (v : Parts) → a < 256 ^ 2 → v ≡ with_address u a → Gives r 1 v Stays None [] → (s : List ℕ) → Taken s u → Agrees s [] (stored (new_address a)) r
  set a v h e g s t =
      agreed (stored (new_address a)) g (subst (λ (x : Parts). Taken (splice s 16 (bytes_of 2 a)) x) (sym e) (address_stored s u t a h))

  pub address_set :
      (a : ℕ) (v : Parts) → u.head.programming ≡ true → a < 256 ^ 2 → v ≡ with_address u a → Gives r 1 v Stays None [] →
      Serves u [] (λ s. address_write_of s a) r
  unfolding address_write_of
  address_set a v p h e g =
      record { agrees = λ s ok o t. by_decision _ (stored (new_address a)) (rw (sym t.front.programming ∙ p) refl) (set a v h e g s t) }

  pub address_kept : (a : ℕ) → u.head.programming ≡ false → Gives r 2 u Stays None [] → Serves u [] (λ s. address_write_of s a) r
  unfolding address_write_of
  address_kept a p g = record { agrees = λ s ok o t. by_decision _ (refused 2) (rw (sym t.front.programming ∙ p) refl) (agreed (refused 2) g t) }

  pub address_shown :
      u.head.programming ≡ true → Gives r 0 u Stays (Some IndividualAddressResponse) [] → Serves u [] (λ s. address_read_of s) r
  unfolding address_read_of
  address_shown p g =
      record {
        agrees = λ s ok o t.
            by_decision _ (answered (answer.Plain IndividualAddressResponse)) (rw (sym t.front.programming ∙ p) refl)
            (agreed (answered (answer.Plain IndividualAddressResponse)) g t);
      }

  pub address_hidden : u.head.programming ≡ false → Gives r 2 u Stays None [] → Serves u [] (λ s. address_read_of s) r
  unfolding address_read_of
  address_hidden p g = record { agrees = λ s ok o t. by_decision _ (refused 2) (rw (sym t.front.programming ∙ p) refl) (agreed (refused 2) g t) }

  module _ (n : ℕ) where
    pub serial_shown :
        n ≡ u.head.serial → Gives r 0 u Stays (Some (SerialNumberResponse n 0)) [] → Serves u [] (λ s. serial_read_of s n) r
    unfolding serial_read_of
    serial_shown p g =
        record {
          agrees = λ s ok o t.
              by_decision _ (answered (answer.Plain (SerialNumberResponse n 0))) (rw (eq-eqb n (head.serial of s) (p ∙ t.front.serial)) refl)
              (agreed (answered (answer.Plain (SerialNumberResponse n 0))) g t);
        }

    pub serial_other : (n ≡ u.head.serial → ⊥) → Gives r 2 u Stays None [] → Serves u [] (λ s. serial_read_of s n) r
    unfolding serial_read_of
    serial_other p g =
        record {
          agrees = λ s ok o t.
              by_decision _ (refused 2) (rw (ne_eqb n (head.serial of s) (λ e. p (e ∙ sym t.front.serial))) refl) (agreed (refused 2) g t);
        }

    pub serial_set :
        (a : ℕ) (v : Parts) → n ≡ u.head.serial → a < 256 ^ 2 → v ≡ with_address u a → Gives r 1 v Stays None [] →
        Serves u [] (λ s. serial_write_of s n a) r
    unfolding serial_write_of
    serial_set a v p h e g =
        record {
          agrees = λ s ok o t. by_decision _ (stored (new_address a)) (rw (eq-eqb n (head.serial of s) (p ∙ t.front.serial)) refl) (set a v h e g s t);
        }

    pub serial_kept : (a : ℕ) → (n ≡ u.head.serial → ⊥) → Gives r 2 u Stays None [] → Serves u [] (λ s. serial_write_of s n a) r
    unfolding serial_write_of
    serial_kept a p g =
        record {
          agrees = λ s ok o t.
              by_decision _ (refused 2) (rw (ne_eqb n (head.serial of s) (λ e. p (e ∙ sym t.front.serial))) refl) (agreed (refused 2) g t);
        }

    -- n is a type of descriptor
    pub mask_told :
        n ≡ 0 → (b : List ℕ) → b ≡ bytes_of 2 u.head.mask → Gives r 0 u Stays (Some (DeviceDescriptorResponse 0)) b → Serves u [] (λ s. descriptor_of s n) r
    unfolding descriptor_of
    mask_told p b e g =
        record {
          agrees = λ s ok o t.
              by_decision _ (answered (answer.Number (DeviceDescriptorResponse 0) 2 u.head.mask)) (rw (eq-eqb n 0 p, t.front.mask) refl)
              (agreed (answered (answer.Number (DeviceDescriptorResponse 0) 2 u.head.mask)) (rw e at g) t);
        }

    pub no_type_lem :
        (n ≡ 0 → ⊥) → u.head.rules ≡ 1 → Gives r 11 u Stays (Some (DeviceDescriptorResponse 63)) [] → Serves u [] (λ s. descriptor_of s n) r
    unfolding descriptor_of rules_of
    no_type_lem p q g =
        record {
          agrees = λ s ok o t.
              by_decision _ (denied (DeviceDescriptorResponse 63)) (rw (ne_eqb n 0 p, eq-eqb (head.rules of s) 1 (sym t.front.rules ∙ q)) refl)
              (agreed (denied (DeviceDescriptorResponse 63)) g t);
        }

    pub type_passed :
        (n ≡ 0 → ⊥) → (u.head.rules ≡ 1 → ⊥) → Gives r 2 u Stays None [] → Serves u [] (λ s. descriptor_of s n) r
    unfolding descriptor_of rules_of
    type_passed p q g =
        record {
          agrees = λ s ok o t.
              by_decision _ (refused 2) (rw (ne_eqb n 0 p, ne_eqb (head.rules of s) 1 (λ e. q (t.front.rules ∙ e))) refl) (agreed (refused 2) g t);
        }
