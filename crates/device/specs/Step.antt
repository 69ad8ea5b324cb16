-- WHAT A REQUEST DOES: judged, carried out, answered.
use Rattle.std.specs.Prelude.{ℕ, Bool, List}
use Rattle.pdu.specs.Read.{read_pdu}
use Rattle.judge.specs.Judge.{data_in, judge_by, judge_of}
use Rattle.judge.specs.declared.Session.{Session}
use Rattle.judge.specs.declared.Decision.{Decision}
use Rattle.device.specs.Carry.{store_of, turn_of, closes, answer_of}

-- the outcome, the bytes answered, session and sheet afterwards, and whether it was a restart, carried out
pub record Step : Type 0 where
  pub outcome : ℕ
  pub answer : List ℕ
  pub session : Session
  pub sheet : List ℕ
  pub restarts : Bool

-- a decision about a request with data d, carried out
unfoldable pub step_by : List ℕ → Session → List ℕ → Decision → Step
step_by s q d k =
    let after = store_of (store_of s d k.first) d k.second in
    record {
      outcome = k.outcome;
      answer = answer_of after d k.answer;
      session = turn_of q k.turn;
      sheet = after;
      restarts = closes k.turn;
    }

-- n is what the sheet is refused by, 0 if it is not; room is the length of the answer buffer
abbrev pub step_with : ℕ → ℕ → List ℕ → Session → ℕ → ℕ → List ℕ → Step
step_with n room s q mode group a = step_by s q (data_in (read_pdu a) a) (judge_by n room s q mode group a)

-- THE STEP
unfoldable pub step_of : ℕ → List ℕ → Session → ℕ → ℕ → List ℕ → Step
step_of room s q mode group a = step_by s q (data_in (read_pdu a) a) (judge_of room s q mode group a)
