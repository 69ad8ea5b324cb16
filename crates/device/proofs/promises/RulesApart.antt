-- The rules are at odds about two services alone: any other request does the same under both.
use Rattle.octets.proofs.Kit.{ℕ, ◌≡◌, sym, subst, ◌∙◌, inr, List, arith}
use Rattle.sheet.{specs.Rules.Accepted, proofs.{rules.Good.good, places.BodyPlaces.after_contents, alike.{Sames.users_alike, Buts.field_but}, promises.Agrees.both_or_neither}}
use Rattle.sheet.proofs.promises.Verdicts.{refused_none}
use Rattle.sheet.specs.Head as head
use Rattle.pdu.specs.Read.{read_pdu}
use Rattle.judge.specs.{declared.{Session.Session, Decision.Decision}, Judge.{judge_of, data_in}}
use Rattle.device.specs.{Asked.Asked, Step.{step_by, step_of}, Apart.{RulesByte, SameButRules, Undisputed, SameStep}}
use Rattle.device.proofs.{calls.Safe.safe, leaves.Stays.request_agrees, apart.{StepBut.{AlikeBut, spares_fewer, step_but}, PastHead.{InHead, past_head}, Unseen.SameThere, Judging.judge_same}}

-- what judging reads but for the number of the rules is the same
pub seen : {s s' : List ℕ} → SameButRules s s' → SameThere s s'
seen {s} {s'} b =
    record {
      long = b.others.long;
      before = λ p l h n. b.others.others p n;
      users =
          users_alike s s' (field_but b.others head.edition (λ j l e. omega arith)) (field_but b.others head.byte15 (λ j l e. omega arith));
      values = λ i p h.
          b.others.others p (λ e. omega (arith, h.from, after_contents (good s b.accepted) _ i h.kind h.below));
    }

module _ (room : ℕ) {s s' : List ℕ} (q : Session) (mode group : ℕ) (a : List ℕ) (b : SameButRules s s') (u : Undisputed mode a) where
  judged : judge_of room s' q mode group a ≡ judge_of room s q mode group a
  judged =
      judge_same (seen b) q mode group a (inr u) room (refused_none s' b.accepted' ∙ sym (refused_none s b.accepted))

  -- an accepted sheet after the request
  stays : (t : List ℕ) → Accepted t → Accepted (step_of room t q mode group a).sheet
  stays t ok =
      let x : Asked = record { room = room; sheet = t; session = q; mode = mode; group = group; apdu = a } in
      (both_or_neither (request_agrees x ok)).0 ok

  -- the same decision, carried out on both
  both : AlikeBut RulesByte (step_of room s q mode group a) (step_of room s' q mode group a)
  unfolding step_of
  both =
      let d : List ℕ = data_in (read_pdu a) a in
      let k : Decision = judge_of room s q mode group a in
      subst (λ (z : Decision). AlikeBut RulesByte (step_by s q d k) (step_by s' q d z)) (sym judged)
      (step_but b.others q d k (safe room s q mode group a) (spares_fewer {H = InHead} {H' = RulesByte} (λ p e. omega arith) d k (past_head room s q mode group a)))

  -- THE RULES ARE AT ODDS ABOUT NO OTHER REQUEST
  pub rules_apart : SameStep (step_of room s q mode group a) (step_of room s' q mode group a)
  rules_apart =
      record {
        outcome = both.outcome;
        answer = both.answer;
        session = both.session;
        restarts = both.restarts;
        sheet = record { accepted = stays s b.accepted; accepted' = stays s' b.accepted'; others = both.sheet };
      }
