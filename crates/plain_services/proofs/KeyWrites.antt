-- A key write on parts is that of the first engine.
use Rattle.std.proofs.Common.{Some}
use Rattle.octets.proofs.Kit.{ℕ, ◌+◌, ◌*◌, ◌^◌, ◌≤◌, ◌<◌, ◌≡◌, sym, subst, [], arith, ltb, leb, lt-ltb, le-ltb, le-leb, lt-leb}
use Rattle.octets.{specs.{Bytes.bytes_of, Splice.splice}, proofs.Tests.{not_first_lem, not_second_lem, both}}
use Rattle.pdu.specs.declared.Pdu.TheVariants.{KeyResponse}
use Rattle.judge.specs.{declared.Turn.TheVariants.Stays, Decisions.{denied, written}, Keys.key_write_of}
use Rattle.judge.specs.declared.Store.TheVariants as store
use Rattle.judge.specs.declared.Answer.TheVariants as answer
use Rattle.parts.{specs.{declared.Parts.Parts, Records.Taken, With.with_key}, proofs.Framed.key_stored}
use Rattle.plain_services.specs.{declared.{Reply.Reply}, Steps.{Gives, Serves}}
use Rattle.plain_services.proofs.Agreed.{agreed, by_decision}

module _ (u : Parts) (level named key : ℕ) (r : Reply) where
  no : key_write_of level named key ≡ denied (KeyResponse 255) → Gives r 11 u Stays (Some (KeyResponse 255)) [] → Serves u [] (λ s. key_write_of level named key) r
  no e g = record { agrees = λ s ok o t. by_decision _ (denied (KeyResponse 255)) e (agreed (denied (KeyResponse 255)) g t) }

  pub no_such_level : Gives r 11 u Stays (Some (KeyResponse 255)) [] → 2 < named → Serves u [] (λ s. key_write_of level named key) r
  unfolding key_write_of
  no_such_level g h = no (simp (not_first_lem (ltb named 3) (leb level named) (le-ltb named 3 (omega arith)))) g

  pub no_right : Gives r 11 u Stays (Some (KeyResponse 255)) [] → named < level → Serves u [] (λ s. key_write_of level named key) r
  unfolding key_write_of
  no_right g h = no (simp (not_second_lem (ltb named 3) (leb level named) (lt-leb _ _ h))) g

  pub new_key :
      (v : Parts) → v ≡ with_key u named key → Gives r 0 v Stays (Some (KeyResponse named)) [] → named ≤ 2 → level ≤ named → key < 256 ^ 4 →
      Serves u [] (λ s. key_write_of level named key) r
  unfolding key_write_of
  new_key v e g h l k =
      record {
        agrees = λ s ok o t.
            by_decision _ (written (store.Number (18 + 4 * named) 4 key) store.Nothing (answer.Plain (KeyResponse named)))
            (simp (both (ltb named 3) (leb level named) (lt-ltb named 3 (omega arith)) (le-leb _ _ l)))
            (agreed (written (store.Number (18 + 4 * named) 4 key) store.Nothing (answer.Plain (KeyResponse named))) g
            (subst (λ (x : Parts). Taken (splice s (18 + 4 * named) (bytes_of 4 key)) x) (sym e) (key_stored s u t named key (omega arith) k)));
      }
