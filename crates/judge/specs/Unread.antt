-- WHAT REFUSES A REQUEST BEFORE IT IS READ.
use Rattle.std.specs.Prelude.{ℕ, ◌≡◌, List}
use Rattle.sheet.specs.Rules.{Accepted}
use Rattle.pdu.specs.Rules.{code_of}
use Rattle.pdu.specs.Table.{service_at}
use Rattle.judge.specs.declared.Session.{Session}
use Rattle.judge.specs.Decisions.{refused}
use Rattle.judge.specs.Judge.{found_of, judge_of}

-- r refuses it, of whatever group address; or it is 0, the sheet is accepted and what the code names decides
pub record Unread (room : ℕ) (s : List ℕ) (q : Session) (mode : ℕ) (a : List ℕ) (r : ℕ) : Type 0 where
  pub refuses : (r ≡ 0 → ⊥) → (group : ℕ) → judge_of room s q mode group a ≡ refused r
  pub accepted : r ≡ 0 → Accepted s
  pub goes : r ≡ 0 → (group : ℕ) → judge_of room s q mode group a ≡ found_of s q mode group a (service_at (code_of a))
