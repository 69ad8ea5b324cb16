-- The kinds of decision.
use Rattle.std.specs.Prelude.{ℕ}
use Rattle.pdu.specs.declared.Pdu.{Pdu}
use Rattle.judge.specs.declared.Store.{Store}
use Rattle.judge.specs.declared.Store.TheVariants as store
use Rattle.judge.specs.declared.Turn.{Turn}
use Rattle.judge.specs.declared.Turn.TheVariants.{Stays}
use Rattle.judge.specs.declared.Answer.{Answer}
use Rattle.judge.specs.declared.Answer.TheVariants as answer
use Rattle.judge.specs.declared.Decision.{Decision}

abbrev pub decision : ℕ → Store → Store → Turn → Answer → Decision
decision n a b t r = record { outcome = n; first = a; second = b; turn = t; answer = r }

-- 2 to 10, and 12: nothing happens
abbrev pub refused : ℕ → Decision
refused n = decision n store.Nothing store.Nothing Stays answer.Silence

-- 11: nothing happens but the negative answer
abbrev pub denied : Pdu → Decision
denied p = decision 11 store.Nothing store.Nothing Stays (answer.Plain p)

-- 0: something is answered, and nothing else happens
abbrev pub answered : Answer → Decision
answered r = decision 0 store.Nothing store.Nothing Stays r

-- 0: one run or two are stored, and something is answered
abbrev pub written : Store → Store → Answer → Decision
written a b r = decision 0 a b Stays r

-- 1: a run is stored, and nothing answered
abbrev pub stored : Store → Decision
stored a = decision 1 a store.Nothing Stays answer.Silence
