-- From what the parts of a request ensure to what it did.
use Rattle.octets.proofs.Kit.{ℕ, ◌≤◌, ◌<◌, ◌≡◌, refl, sym, ap, ap₂, subst, ◌∙◌, List, arith, length, take}
use Rattle.std.proofs.Common.{Option, Result, Ok, Err}
use Rattle.plain_services.specs.Outcome.{number_of}
use Rattle.pdu.specs.declared.ReadRefusal.{ReadRefusal}
use Rattle.octets.{specs.{Octets.Octets, Splice.splice}, proofs.Splices.splice_none}
use Rattle.sheet.specs.Rules.{Accepted}
use Rattle.pdu.{specs.{Read.{read_number, read_pdu, read_outcome, data_of}, declared.Pdu.Pdu}, proofs.promises.{Readings.{Reading, reading}, Writing.has_room}}
use Rattle.judge.specs.{declared.{Session.Session, Decision.Decision, Turn.Turn, Answer.Answer}, Decisions.refused, Session.level_in, Judge.{data_in, decide_of, read_of, judge_of}}
use Rattle.judge.specs.declared.Answer.TheVariants as answer
use Rattle.parts.{specs.{declared.Parts.Parts, Records.Taken, Again.Roomy}, proofs.Back.{roomy, written_again}}
use Rattle.device.specs.{Carry.{turn_of, closes, answer_of}, Safe.AnswerSafe, Step.{step_by, step_of}, Sessions.{session_for, turned_of}, Events.{Effect, request_of, Did, Called}}
use Rattle.device.{specs.declared.{Sessions.Sessions, Done.Done}, proofs.{leaves.Connections.own_stays, promises.Demand1.untouched}}
use Rattle.plain_services.specs.{declared.Reply.Reply, Steps.{Held, Agrees, Serves, sent_of, data_for, left}}
use Rattle.plain.specs.Carrying.{ReadAs, sent_bytes, Sendable, Ready, Carried}
use Rattle.plain.proofs.Stored.{safe, left_bytes, left_accepted, left_long}

-- what is sent is what the first engine answers, and fits the buffer
sent_as : (s d : List ℕ) (a : Answer) → sent_bytes (sent_of a) (data_for s d a) ≡ answer_of s d a
sent_as s d answer.Silence = refl
sent_as s d (answer.Plain p) = refl
sent_as s d (answer.Number p w x) = refl
sent_as s d (answer.Sheet p at n) = refl
sent_as s d (answer.Echo p) = refl

sends : (n : ℕ) (s d : List ℕ) (a : Answer) → 16 ≤ n → AnswerSafe s d a → Sendable n (sent_of a) (data_for s d a)
sends n s d answer.Silence h f = tt
sends n s d (answer.Plain p) h f = (h, has_room p _ f)
sends n s d (answer.Number p w x) h f = (h, has_room p _ f.1)
sends n s d (answer.Sheet p at m) h f = (h, has_room p _ f.2)
sends n s d (answer.Echo p) h f = (h, has_room p _ f)

pub held : (s : List ℕ) (u : Parts) → Accepted s → Octets s → Taken s u → Held u
held s u ok o t = record { sheet = s; ok = ok; bytes = o; taken = t }

pub requested : (a : List ℕ) (z : Result Pdu ReadRefusal) (p : Pdu) (d : List ℕ) → z ≡ read_pdu a → z ≡ Ok p → d ≡ data_of p a → ReadAs p d
requested a z p d ez e ed = record { apdu = a; reads = sym ez ∙ e; given = ed }

module _ (q : Sessions) (mode c group : ℕ) (a s o : List ℕ) (session : Session) (em : session ≡ session_for q mode c) where
  abbrev met : Session
  met = session_for q mode c

  -- a decision carried out
  abbrev effect_by : List ℕ → Decision → Effect
  effect_by d k =
      record {
        outcome = k.outcome;
        answer = answer_of (left s d k) d k.answer;
        sessions = turned_of q mode c (closes k.turn) (turn_of met k.turn);
        sheet = left s d k;
      }

  judged : (k : Decision) → judge_of (length o) s session mode group a ≡ k → effect_by (data_in (read_pdu a) a) k ≡ request_of (length o) s q mode c group a
  unfolding request_of step_of step_by
  judged k e =
      ap (effect_by (data_in (read_pdu a) a)) (sym (ap (λ (x : Session). judge_of (length o) s x mode group a) (sym em) ∙ e))

  module _ (so : Octets s) (ao : Octets a) where
    -- A REFUSED REQUEST
    pub refused_called : (n : ℕ) (x : Done) → judge_of (length o) s session mode group a ≡ refused n → x ≡ record { outcome = n; count = 0; sessions = q } → Called q mode c group a s o x s o
    refused_called n x e ex =
        record {
          did =
              subst (λ (y : Effect). Did y x o s o) (judged (refused n) e)
              (subst (λ (z : Done). Did (effect_by (data_in (read_pdu a) a) (refused n)) z o s o) (sym ex)
              (record {
                outcome = refl;
                count = refl;
                sessions = sym (own_stays q mode c);
                sheet = refl;
                answer = sym (splice_none o 0);
              }));
          sheet_bytes = so;
          apdu_bytes = ao;
        }

    -- one that does not read
    pub unread_called :
        (z : Result Pdu ReadRefusal) (n : ReadRefusal) (m : ℕ) (x : Done) → z ≡ read_pdu a → z ≡ Err n → m ≡ read_outcome z →
        judge_of (length o) s session mode group a ≡ read_of s (level_in session mode) group a (read_pdu a) → x ≡ record { outcome = m; count = 0; sessions = q } →
        Called q mode c group a s o x s o
    unread_called z n m x ez e em j ex =
        refused_called (read_number n) x (j ∙ ap (read_of s (level_in session mode) group a) (sym ez ∙ e))
        (ex ∙ ap (λ (y : ℕ). record { outcome = y; count = 0; sessions = q }) (em ∙ ap read_outcome e))

    -- A REQUEST THAT READS as p, with data d, at a level
    module _ (ok : Accepted s) (wide : 16 ≤ length o) (z : Result Pdu ReadRefusal) (ez : z ≡ read_pdu a) (p : Pdu) (e : z ≡ Ok p) (d : List ℕ) (ed : d ≡ data_of p a)
        (level : ℕ) (el : level ≡ level_in session mode) (j : judge_of (length o) s session mode group a ≡ read_of s (level_in session mode) group a (read_pdu a))
        (u : Parts) (t : Taken s u) where
      reads : read_pdu a ≡ Ok p
      reads = sym ez ∙ e

      module _ (r : Reply) (g : Serves u d (λ s. decide_of s level group d p) r) where
        abbrev k : Decision
        k = decide_of s level group (data_of p a) p

        abbrev after : List ℕ
        after = left s (data_of p a) k

        agrees : Agrees s (data_of p a) k r
        agrees = subst (λ (y : List ℕ). Agrees s y (decide_of s level group y p) r) ed (g.agrees s ok so t)

        is : Reading a p
        is = reading a p reads

        pub carry_needs : Ready r (length s) (length o)
        carry_needs = (
          subst (λ (n : ℕ). Roomy r.parts n) (left_long s ok level group a p is)
              (roomy after (left_accepted s ok level group a p is) r.parts agrees.sheet),
          subst (λ (y : Option Pdu). Sendable (length o) y (take r.length r.bytes)) (sym agrees.gives.sent)
              (subst (λ (y : List ℕ). Sendable (length o) (sent_of k.answer) y) (sym agrees.gives.bytes)
              (sends (length o) after (data_of p a) k.answer wide (safe s ok level group a p is).answer)),
          agrees.gives.short,
          agrees.gives.full,
        )

        whole : judge_of (length o) s session mode group a ≡ k
        whole = j ∙ ap (read_of s (level_in session mode) group a) reads ∙ ap (λ (n : ℕ). decide_of s n group (data_of p a) p) (sym el)

        -- what was refused or ignored stored nothing
        still : 2 ≤ k.outcome → after ≡ s
        unfolding step_of step_by
        still =
            let data_is : data_in (read_pdu a) a ≡ data_of p a = ap (λ (y : Result Pdu ReadRefusal). data_in y a) reads in
            subst (λ (y : Decision). 2 ≤ y.outcome → left s (data_of p a) y ≡ s) whole
            (subst (λ (y : List ℕ). 2 ≤ (judge_of (length o) s session mode group a).outcome → left s y (judge_of (length o) s session mode group a) ≡ s) data_is
            (λ h. (untouched (length o) s session mode group a h).0))

        stored : (n : ℕ) (s' o' : List ℕ) → Carried r s o n s' o' → Dec (1 < number_of r.outcome) → s' ≡ after
        stored n s' o' w (yes h) = w.kept h ∙ sym (still (omega (arith, agrees.gives.outcome)))
        stored n s' o' w (no h) =
            written_again after (left_accepted s ok level group a p is) r.parts agrees.sheet (left_bytes s ok level group a p is so ao) s s'
            (sym (left_long s ok level group a p is)) (w.sheet (omega arith))

        pub served_called :
            (n : ℕ) (q' : Sessions) (s' o' : List ℕ) → Carried r s o n s' o' → q' ≡ turned_of q mode c (closes r.turn) (turn_of met r.turn) →
            Called q mode c group a s o (record { outcome = number_of r.outcome; count = n; sessions = q' }) s' o'
        served_called n q' s' o' w e =
            let data_is : data_in (read_pdu a) a ≡ data_of p a = ap (λ (y : Result Pdu ReadRefusal). data_in y a) reads in
            let gi = agrees.gives in
            let bytes : sent_bytes r.sent (take r.length r.bytes) ≡ answer_of after (data_of p a) k.answer =
            ap₂ sent_bytes gi.sent gi.bytes ∙ sent_as after (data_of p a) k.answer in
            record {
              did =
                  subst (λ (y : Effect). Did y (record { outcome = number_of r.outcome; count = n; sessions = q' }) o s' o') (ap (λ (y : List ℕ). effect_by y k) (sym data_is) ∙ judged k whole)
                  (record {
                    outcome = gi.outcome;
                    count = w.answer.count ∙ ap length bytes;
                    sessions = e ∙ ap (λ (y : Turn). turned_of q mode c (closes y) (turn_of met y)) gi.turn;
                    sheet = stored n s' o' w (native.Mathlib.Decide.dec_lt 1 (number_of r.outcome));
                    answer = w.answer.holds ∙ ap (splice o 0) bytes;
                  });
              sheet_bytes = so;
              apdu_bytes = ao;
            }
