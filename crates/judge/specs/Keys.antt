-- Authorize, key write and restart.
use Rattle.std.specs.Prelude.{ℕ, ◌-◌, List, cond, ◌&&◌, ltb, leb, eqb}
use Rattle.sheet.specs.Layout.{◌of◌}
use Rattle.sheet.specs.Head as head
use Rattle.pdu.specs.declared.Pdu.TheVariants.{AuthorizeResponse, KeyResponse}
use Rattle.judge.specs.declared.Store.TheVariants as store
use Rattle.judge.specs.declared.Turn.TheVariants.{Level, Closes}
use Rattle.judge.specs.declared.Answer.TheVariants as answer
use Rattle.judge.specs.declared.Decision.{Decision}
use Rattle.judge.specs.Session.{weakest}
use Rattle.judge.specs.Decisions.{decision, denied, written}

-- the smallest level with that key, else 3
unfoldable pub grant_of : List ℕ → ℕ → ℕ
grant_of s key =
    cond (eqb key (head.key 0 of s)) 0 (cond (eqb key (head.key 1 of s)) 1 (cond (eqb key (head.key 2 of s)) 2 weakest))

unfoldable pub authorize_of : List ℕ → ℕ → Decision
authorize_of s key =
    decision 0 store.Nothing store.Nothing (Level (grant_of s key)) (answer.Plain (AuthorizeResponse (grant_of s key)))

-- the level named is 0 to 2, and the session's level is at most that
unfoldable pub key_write_of : ℕ → ℕ → ℕ → Decision
key_write_of level named key =
    cond (ltb named weakest && leb level named)
    (written (store.Number (head.key named).at (head.key named).width key) store.Nothing (answer.Plain (KeyResponse named)))
    (denied (KeyResponse 255))

-- programming mode is cleared, verify stays
unfoldable pub restart_of : List ℕ → Decision
restart_of s =
    decision 1 (store.Number (head.flags).at (head.flags).width (head.flags of s - head.programming s)) store.Nothing Closes
    answer.Silence
