-- What is decided about keys, case by case.
use Rattle.octets.proofs.Kit.{ℕ, ◌<◌, ◌≤◌, ◌≡◌, sym, List, ltb, leb, arith, lt-ltb, le-leb, ltb-true, leb-true}
use Rattle.octets.proofs.Walks.{by_both, by_eq}
use Rattle.sheet.specs.Layout.{◌of◌}
use Rattle.sheet.specs.Head as head
use Rattle.pdu.specs.declared.Pdu.TheVariants.{KeyResponse}
use Rattle.judge.specs.{declared.Decision.Decision, Decisions.{denied, written}, Keys.{grant_of, key_write_of}}
use Rattle.judge.specs.declared.Store.TheVariants as store
use Rattle.judge.specs.declared.Answer.TheVariants as answer

-- the smallest level with the key, else 3
pub grant_cases :
    (s : List ℕ) (key : ℕ) (P : ℕ → Type 0) →
    (head.key 0 of s ≡ key → P 0) →
    ((head.key 0 of s ≡ key → ⊥) → head.key 1 of s ≡ key → P 1) →
    ((head.key 0 of s ≡ key → ⊥) → (head.key 1 of s ≡ key → ⊥) → head.key 2 of s ≡ key → P 2) →
    ((head.key 0 of s ≡ key → ⊥) → (head.key 1 of s ≡ key → ⊥) → (head.key 2 of s ≡ key → ⊥) → P 3) → P (grant_of s key)
unfolding grant_of
grant_cases s key P f g h u =
    by_eq P key (head.key 0 of s) _ _ (λ a. f (sym a))
    (λ a. by_eq P key (head.key 1 of s) _ _ (λ b. g (λ e. a (sym e)) (sym b))
    (λ b. by_eq P key (head.key 2 of s) _ _ (λ c. h (λ e. a (sym e)) (λ e. b (sym e)) (sym c))
    (λ c. u (λ e. a (sym e)) (λ e. b (sym e)) (λ e. c (sym e)))))

module _ (level named key : ℕ) where
  abbrev pub keyed : Decision
  keyed = written (store.Number (head.key named).at (head.key named).width key) store.Nothing (answer.Plain (KeyResponse named))

  pub key_write_cases : (P : Decision → Type 0) → (named ≤ 2 → level ≤ named → P keyed) → P (denied (KeyResponse 255)) → P (key_write_of level named key)
  unfolding key_write_of
  key_write_cases P f g =
      by_both P (ltb named 3) (leb level named) _ _
      (λ a b. let h : named < 3 = ltb-true named 3 a in f (omega arith) (leb-true level named b)) g

  pub key_writes : named ≤ 2 → level ≤ named → key_write_of level named key ≡ keyed
  unfolding key_write_of
  key_writes h l = simp (lt-ltb named 3 (omega arith), le-leb level named l)
