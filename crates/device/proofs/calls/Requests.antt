-- From what the parts of a request ensure to what it does.
use Rattle.octets.proofs.Kit.{arith, ℕ, ◌≡◌, refl, ap, sym, subst, ◌∙◌, List, length}
use Rattle.std.proofs.Common.{Option, Result}
use Rattle.pdu.specs.declared.Service.{Service}
use Rattle.pdu.specs.declared.Pdu.{Pdu}
use Rattle.pdu.specs.declared.ReadRefusal.{ReadRefusal}
use Rattle.octets.proofs.Splices.{splice_none}
use Rattle.judge.specs.declared.Refusal.{Refusal}
use Rattle.judge.specs.declared.Refusal.TheVariants as refusal
use Rattle.judge.specs.Refusal.{number_of}
use Rattle.pdu.specs.{Rules.code_of, Table.service_at, Read.read_pdu}
use Rattle.judge.specs.{Decisions.refused, Judge.{data_in, found_of, judge_of}, Unread.Unread, declared.{Session.Session, Decision.Decision}}
use Rattle.device.specs.{Carry.{store_of, turn_of, closes, answer_of, Filled}, Safe.{StoreSafe, Narrow, AnswerSafe, Roomy, Safe}, Step.{Step, step_by, step_of}}
use Rattle.device.specs.{Sessions.{session_for, turned_of, sessions_after}, Events.{request_of, Did}, Changed.{changes_of, changed_of, none}, declared.{Sessions.Sessions, Done.Done}}
use Rattle.device.specs.declared.Changed.{Changed}
use Rattle.device.proofs.calls.{Turns.all_stay, Sixteen.narrow, Safe.safe, Room.roomy}

module _ (room : ℕ) (s : List ℕ) (q : Session) (mode group : ℕ) (a d : List ℕ) (got : Result Pdu ReadRefusal) (k : Decision) (read : got ≡ read_pdu a)
    (given : d ≡ data_in got a) (judged : k ≡ judge_of room s q mode group a) where
  whose : d ≡ data_in (read_pdu a) a
  whose = given ∙ ap (λ (x : Result Pdu ReadRefusal). data_in x a) read

  is_safe : Safe s d k
  is_safe =
      subst (λ (x : List ℕ). Safe s x k) (sym whose)
      (subst (λ (x : Decision). Safe s (data_in (read_pdu a) a) x) (sym judged) (safe room s q mode group a))

  pub carry_needs : (StoreSafe s d k.first) × (StoreSafe (store_of s d k.first) d k.second)
  carry_needs = (is_safe.first, is_safe.second)

  pub changes_need : (StoreSafe s d k.first) × (StoreSafe (store_of s d k.first) d k.second) × (Narrow (length s) k.first) × (Narrow (length s) k.second)
  changes_need =
      let n = subst (λ (x : Decision). Narrow (length s) x.first × Narrow (length s) x.second) (sym judged) (narrow room s q mode group a) in
      (is_safe.first, is_safe.second, n.0, n.1)

  -- what was carried out is what is said to have changed
  pub changes : (x : Changed) (qs : Sessions) (c : ℕ) → x ≡ changes_of d k → q ≡ session_for qs mode c → x ≡ changed_of room s qs mode c group a
  unfolding changed_of
  changes x qs c e met =
      e
      ∙ ap (changes_of d) judged
      ∙ ap (λ (y : List ℕ). changes_of y (judge_of room s q mode group a)) whose
      ∙ ap (λ (y : Session). changes_of (data_in (read_pdu a) a) (judge_of room s y mode group a)) met

  module _ (s' : List ℕ) (carried : s' ≡ store_of (store_of s d k.first) d k.second) where
    pub answer_needs : Roomy room k.answer × AnswerSafe s' d k.answer
    answer_needs = (
      subst (λ (x : Decision). Roomy room x.answer) (sym judged) (roomy room s q mode group a),
      subst (λ (x : List ℕ). AnswerSafe x d k.answer) (sym carried) is_safe.answer,
    )

    module _ (out out' : List ℕ) (n : ℕ) (qs new : Sessions) (c : ℕ) (sent : Filled (answer_of s' d k.answer) n out out')
        (met : q ≡ session_for qs mode c) (turned : new ≡ turned_of qs mode c (closes k.turn) (turn_of (session_for qs mode c) k.turn)) where
      -- the step that was carried out
      abbrev after : Step
      after =
          record {
            outcome = k.outcome;
            answer = answer_of s' d k.answer;
            session = turn_of q k.turn;
            sheet = s';
            restarts = closes k.turn;
          }

      is_step : after ≡ step_of room s (session_for qs mode c) mode group a
      unfolding step_of step_by
      is_step =
          ap (λ (x : List ℕ). record { outcome = k.outcome; answer = answer_of x d k.answer; session = turn_of q k.turn; sheet = x; restarts = closes k.turn }) carried
          ∙ ap (step_by s q d) judged
          ∙ ap (λ (x : List ℕ). step_by s q x (judge_of room s q mode group a)) whose
          ∙ ap (λ (x : Session). step_of room s x mode group a) met

      abbrev result : Done
      result = record { outcome = k.outcome; count = n; sessions = new }

      pub did : Did (request_of room s qs mode c group a) result out s' out'
      unfolding request_of
      did =
          subst
          (λ (r : Step). Did (record { outcome = r.outcome; answer = r.answer; sessions = sessions_after qs mode c r; sheet = r.sheet }) result out s' out') is_step
          (record {
            outcome = refl;
            count = sent.count;
            sessions = turned ∙ ap (λ (x : Session). turned_of qs mode c (closes k.turn) (turn_of x k.turn)) (sym met);
            sheet = refl;
            answer = sent.holds;
          })

-- no refusal has the number 0
some : (r : Refusal) → number_of r ≡ 0 → ⊥
some refusal.NotForUs h = omega arith
some refusal.Room h = omega arith
some refusal.Bad h = omega arith
some refusal.Length h = omega arith
some refusal.Mode h = omega arith
some refusal.Unconnected h = omega arith
some refusal.Service h = omega arith
some refusal.OtherMode h = omega arith
some refusal.Fields h = omega arith
some refusal.Denied h = omega arith
some refusal.Silent h = omega arith
some refusal.Old h = omega arith

-- a request that was refused before it was read
module _ (qs : Sessions) (mode c group : ℕ) (a s out : List ℕ) (q : Session) (r : Refusal) (n : ℕ) (n-is : n ≡ number_of r) (met : q ≡ session_for qs mode c)
    (unread : Unread (length out) s q mode a (number_of r)) where
  unmade : judge_of (length out) s (session_for qs mode c) mode group a ≡ refused n
  unmade =
      ap (λ (x : Session). judge_of (length out) s x mode group a) (sym met)
      ∙ unread.refuses (some r) group
      ∙ ap refused (sym n-is)

  pub refused_did : Did (request_of (length out) s qs mode c group a) (record { outcome = n; count = 0; sessions = qs }) out s out
  unfolding request_of step_of step_by
  refused_did =
      rw unmade
      (record { outcome = refl; count = refl; sessions = all_stay qs mode c; sheet = refl; answer = sym (splice_none out 0) })

  pub refused_changes : none ≡ changed_of (length out) s qs mode c group a
  unfolding changed_of
  refused_changes = rw unmade refl

-- and one that goes on is decided by what its code names
pub goes_on :
    (room : ℕ) (s t : List ℕ) (q : Session) (mode group : ℕ) (a d : List ℕ) (f : Option Service) (got : Result Pdu ReadRefusal) (k : Decision) →
    Unread room s q mode a 0 → t ≡ s → f ≡ service_at (code_of a) → got ≡ read_pdu a → d ≡ data_in got a →
    ((a : List ℕ) → got ≡ read_pdu a → d ≡ data_in got a → k ≡ found_of t q mode group a f) → k ≡ judge_of room s q mode group a
goes_on room s t q mode group a d f got k unread t-is f-is read given g =
    g a read given
    ∙ ap (λ (x : List ℕ). found_of x q mode group a f) t-is
    ∙ ap (found_of s q mode group a) f-is
    ∙ sym (unread.goes refl group)
