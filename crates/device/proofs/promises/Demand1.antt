-- DEMAND 1: the outcomes, and what each of them leaves as it was.
use Rattle.octets.proofs.Kit.{ℕ, ◌+◌, ◌≤◌, ◌≡◌, refl, sym, ◌∙◌, Bool, true, false, inl, List, [], leb, length, arith}
use Rattle.std.proofs.Common.{Ok}
use Rattle.octets.{specs.Bytes.bytes_of, proofs.Truths.{never, and_is, at_most_is}}
use Rattle.pdu.{specs.{Read.{read_pdu, data_at}, Write.{encoded, writable}, declared.Pdu.{Pdu, TheVariants.Restart}}, proofs.promises.Writing.length_encoded}
use Rattle.judge.specs.{declared.{Session.Session, Decision.Decision, Answer.Answer}, Judge.{judge_of, data_in}}
use Rattle.judge.specs.declared.Answer.TheVariants as answer
use Rattle.device.specs.{Carry.{store_of, answer_of}, Step.{Step, step_by, step_of}, Safe.AnswerSafe, Demand1.OneOf, Replies.Denial}
use Rattle.device.proofs.{calls.Safe.safe, due.Shapes.{Shape, refuse, deny, reply, done, restart, shape}}

-- how a step ends
record Ends (s : List ℕ) (q : Session) (a : List ℕ) (r : Step) : Type 0 where
  most : OneOf r.outcome
  kept : 2 ≤ r.outcome → (r.sheet ≡ s) × (r.session ≡ q)
  restarts : r.restarts ≡ true → (r.outcome ≤ 1) × (read_pdu a ≡ Ok Restart)
  silent : 1 ≤ r.outcome → (r.outcome ≡ 11 → ⊥) → r.answer ≡ []
  denial : r.outcome ≡ 11 → Denial a r.answer

ends : (s : List ℕ) (q : Session) (a d : List ℕ) (k : Decision) → Shape a k → Ends s q a (step_by s q d k)
unfolding step_by
ends s q a d k (refuse n l m e) =
    record { most = m; kept = λ h. (refl, refl); restarts = λ h. never h; silent = λ h f. refl; denial = λ h. absurd (e h) }
ends s q a d k (deny p m e n) =
    record {
      most = inl (omega arith);
      kept = λ h. (refl, refl);
      restarts = λ h. never h;
      silent = λ h f. absurd (f refl);
      denial = λ h. record { request = p; reply = m; reads = e; negative = n; bytes = refl };
    }
ends s q a d k (reply f g t r c) =
    record {
      most = inl (omega arith);
      kept = λ h. absurd (omega arith);
      restarts = λ h. never (sym c ∙ h);
      silent = λ h f. absurd (omega arith);
      denial = λ h. absurd (omega arith);
    }
ends s q a d k (done f) =
    record {
      most = inl (omega arith);
      kept = λ h. absurd (omega arith);
      restarts = λ h. never h;
      silent = λ h f. refl;
      denial = λ h. absurd (omega arith);
    }
ends s q a d k (restart f e) =
    record {
      most = inl (omega arith);
      kept = λ h. absurd (omega arith);
      restarts = λ h. (omega arith, e);
      silent = λ h f. refl;
      denial = λ h. absurd (omega arith);
    }

-- what can be written is at most 16 bytes
short : (p : Pdu) (d : List ℕ) → writable p d ≡ true → length (encoded p d) ≤ 16
unfolding writable
short p d w =
    let h = (at_most_is (data_at p + length d) 16).0 ((and_is (leb (data_at p + length d) 16) _).0 w).0 in
    omega (arith, length_encoded p d)

short_answer : (s d : List ℕ) (r : Answer) → AnswerSafe s d r → length (answer_of s d r) ≤ 16
short_answer s d answer.Silence h = omega arith
short_answer s d (answer.Plain p) h = short p [] h
short_answer s d (answer.Number p w x) h = short p (bytes_of w x) h.1
short_answer s d (answer.Sheet p at n) h = short p _ h.2
short_answer s d (answer.Echo p) h = short p d h

module _ (room : ℕ) (s : List ℕ) (q : Session) (mode group : ℕ) (a : List ℕ) where
  ended : Ends s q a (step_of room s q mode group a)
  unfolding step_of
  ended =
      ends s q a (data_in (read_pdu a) a) (judge_of room s q mode group a)
      (shape (record { room = room; sheet = s; session = q; mode = mode; group = group; apdu = a }))

  -- THE OUTCOME IS ONE OF 0 TO 12, OR 14
  pub one_of : OneOf (step_of room s q mode group a).outcome
  one_of = ended.most

  -- 2 TO 12 AND 14 LEAVE SHEET AND SESSION AS FOUND
  pub untouched :
      2 ≤ (step_of room s q mode group a).outcome →
      ((step_of room s q mode group a).sheet ≡ s) × ((step_of room s q mode group a).session ≡ q)
  untouched = ended.kept

  -- WHAT RESTARTS IS A RESTART, carried out
  pub restart_only : (step_of room s q mode group a).restarts ≡ true → ((step_of room s q mode group a).outcome ≤ 1) × (read_pdu a ≡ Ok Restart)
  restart_only = ended.restarts

  -- SO 2 TO 12 AND 14 ARE NONE
  pub runs_on : 2 ≤ (step_of room s q mode group a).outcome → (step_of room s q mode group a).restarts ≡ false
  runs_on h = go (step_of room s q mode group a).restarts refl
    where
      go : (b : Bool) → (step_of room s q mode group a).restarts ≡ b → b ≡ false
      go true e = absurd (omega (arith, (restart_only e).0))
      go false e = refl

  -- 1 TO 10, 12 AND 14 ANSWER NOTHING
  pub silent :
      1 ≤ (step_of room s q mode group a).outcome → ((step_of room s q mode group a).outcome ≡ 11 → ⊥) →
      (step_of room s q mode group a).answer ≡ []
  silent = ended.silent

  -- 11 ANSWERS WITH THE NEGATIVE ANSWER OF THE SERVICE
  pub denial : (step_of room s q mode group a).outcome ≡ 11 → Denial a (step_of room s q mode group a).answer
  denial = ended.denial

  -- NO ANSWER IS LONGER THAN 16 BYTES
  pub at_most_16 : length (step_of room s q mode group a).answer ≤ 16
  unfolding step_of step_by
  at_most_16 =
      let d : List ℕ = data_in (read_pdu a) a in
      let k : Decision = judge_of room s q mode group a in
      short_answer (store_of (store_of s d k.first) d k.second) d k.answer (safe room s q mode group a).answer
