-- Authorize and restart on parts are those of the first engine.
use Rattle.std.proofs.Common.{Some, None}
use Rattle.octets.proofs.Kit.{ℕ, zero, suc, ◌-◌, ◌<◌, ◌≡◌, refl, sym, ap, subst, ◌∙◌, false, List, [], arith, eqb, get_or, eq-eqb, ne_eqb}
use Rattle.octets.specs.{Bytes.bytes_of, Splice.splice}
use Rattle.sheet.specs.Layout.{◌of◌}
use Rattle.sheet.specs.Head as head
use Rattle.pdu.specs.declared.Pdu.TheVariants.{AuthorizeResponse}
use Rattle.judge.specs.{declared.Turn.TheVariants.{Level, Closes}, Decisions.decision, Keys.{grant_of, authorize_of, restart_of}}
use Rattle.judge.specs.declared.Store.TheVariants as store
use Rattle.judge.specs.declared.Answer.TheVariants as answer
use Rattle.parts.{specs.{declared.{Head.Head, Parts.Parts}, Records.{IsHead, Taken}, With.cleared}, proofs.Framed.programming_cleared}
use Rattle.plain_services.specs.{declared.{Reply.Reply}, Steps.{Gives, Serves}}
use Rattle.plain_services.proofs.Agreed.{agreed, by_decision}

-- the smallest level with a key
module _ (h : Head) (key : ℕ) where
  abbrev Is : ℕ → Type 0
  Is l = (s : List ℕ) → IsHead h s → l ≡ grant_of s key

  module _ (s : List ℕ) (i : IsHead h s) where
    other : (k : ℕ) → (key ≡ get_or h.keys k 0 → ⊥) → get_or h.keys k 0 ≡ head.key k of s → eqb key (head.key k of s) ≡ false
    other k f e = ne_eqb key (head.key k of s) (λ q. f (q ∙ sym e))

    grant : (l : ℕ) → l < 3 → ((j : ℕ) → j < l → key ≡ get_or h.keys j 0 → ⊥) → key ≡ get_or h.keys l 0 → l ≡ grant_of s key
    unfolding grant_of
    grant zero k f e = simp (eq-eqb key (head.key 0 of s) (e ∙ i.key0))
    grant (suc zero) k f e = simp (other 0 (f 0 (omega arith)) i.key0, eq-eqb key (head.key 1 of s) (e ∙ i.key1))
    grant (suc (suc zero)) k f e =
        simp (other 0 (f 0 (omega arith)) i.key0, other 1 (f 1 (omega arith)) i.key1, eq-eqb key (head.key 2 of s) (e ∙ i.key2))
    grant (suc (suc (suc l))) k f e = absurd (omega arith)

  pub level_found : (l : ℕ) → l < 3 → ((j : ℕ) → j < l → key ≡ get_or h.keys j 0 → ⊥) → key ≡ get_or h.keys l 0 → Is l
  level_found l k f e s i = grant s i l k f e

  pub level_none : ((j : ℕ) → j < 3 → key ≡ get_or h.keys j 0 → ⊥) → Is 3
  unfolding grant_of
  level_none f s i =
      simp (other s i 0 (f 0 (omega arith)) i.key0, other s i 1 (f 1 (omega arith)) i.key1, other s i 2 (f 2 (omega arith)) i.key2)

module _ (u : Parts) (r : Reply) where
  pub authorized :
      (key l : ℕ) → ((s : List ℕ) → IsHead u.head s → l ≡ grant_of s key) → Gives r 0 u (Level l) (Some (AuthorizeResponse l)) [] →
      Serves u [] (λ s. authorize_of s key) r
  unfolding authorize_of
  authorized key l f g =
      record {
        agrees = λ s ok o t.
            by_decision _ (decision 0 store.Nothing store.Nothing (Level l) (answer.Plain (AuthorizeResponse l)))
            (ap (λ (x : ℕ). decision 0 store.Nothing store.Nothing (Level x) (answer.Plain (AuthorizeResponse x))) (sym (f s t.front)))
            (agreed (decision 0 store.Nothing store.Nothing (Level l) (answer.Plain (AuthorizeResponse l))) g t);
      }

  pub restarted : (v : Parts) → v ≡ cleared u → Gives r 1 v Closes None [] → Serves u [] (λ s. restart_of s) r
  unfolding restart_of
  restarted v e g =
      record {
        agrees = λ s ok o t.
            by_decision _ (decision 1 (store.Number 14 1 (head.flags of s - head.programming s)) store.Nothing Closes answer.Silence) refl
            (agreed (decision 1 (store.Number 14 1 (head.flags of s - head.programming s)) store.Nothing Closes answer.Silence) g
            (subst (λ (x : Parts). Taken (splice s 14 (bytes_of 1 (head.flags of s - head.programming s))) x) (sym e) (programming_cleared s u t o)));
      }
