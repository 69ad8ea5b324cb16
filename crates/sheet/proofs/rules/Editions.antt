-- Byte 15 and the last number of rules, by the edition.
use Rattle.octets.proofs.Kit.{ℕ, ◌≡◌, sym, ◌∙◌, List, eq-eqb, ne_eqb}
use Rattle.sheet.specs.{Layout.◌of◌}
use Rattle.sheet.specs.Head as head

module _ (s : List ℕ) (r : ℕ) (e : r ≡ head.edition of s) where
  pub users_first : (r ≡ 2 → ⊥) → 0 ≡ head.users s
  users_first q = rw (ne_eqb (head.edition of s) 2 (λ z. q (e ∙ z)))

  pub latest_second : r ≡ 2 → head.later ≡ head.latest s
  latest_second q = rw (eq-eqb (head.edition of s) 2 (sym e ∙ q))

  pub latest_first : (r ≡ 2 → ⊥) → 0 ≡ head.latest s
  latest_first q = rw (ne_eqb (head.edition of s) 2 (λ z. q (e ∙ z)))

  pub spare_first : (b : ℕ) → (r ≡ 2 → ⊥) → b ≡ head.byte15 of s → b ≡ head.spare s
  spare_first b q f = rw (ne_eqb (head.edition of s) 2 (λ z. q (e ∙ z))) f
