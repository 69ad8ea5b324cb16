-- WHAT A REQUEST CHANGED: the runs of sheet bytes that it stores.
use Rattle.std.specs.Prelude.{ℕ, ◌+◌, ◌≤◌, ◌<◌, ◌≡◌, List, ◌⊎◌, length}
use Rattle.pdu.specs.Read.{read_pdu}
use Rattle.judge.specs.Judge.{data_in, judge_of}
use Rattle.judge.specs.declared.Store.{Store}
use Rattle.judge.specs.declared.Store.TheVariants as store
use Rattle.judge.specs.declared.Decision.{Decision}
use Rattle.device.specs.Sessions.{session_for}
use Rattle.device.specs.Events.{Called}
use Rattle.device.specs.declared.Sessions.{Sessions}
use Rattle.device.specs.declared.Changed.{Changed}
use Rattle.device.specs.declared.Run.{Run}
use Rattle.device.specs.declared.Made.{Made}

-- so many bytes from a place on; 0 and 0 for none
abbrev pub part : ℕ → ℕ → Run
part at n = record { offset = at; length = n }

-- the run of a store, d being the data of the request
abbrev pub part_of : List ℕ → Store → Run
part_of d store.Nothing = part 0 0
part_of d (store.Number at w x) = part at w
part_of d (store.Data zeros at) = part at (zeros + length d)
part_of d (store.Bits at n) = part at n
part_of d (store.Fill at n b) = part at n

abbrev pub changes_of : List ℕ → Decision → Changed
changes_of d k = record { first = part_of d k.first; second = part_of d k.second }

-- WHAT A REQUEST ON CONNECTION c OF SESSIONS q STORES, room being the length of the answer buffer
unfoldable pub changed_of : ℕ → List ℕ → Sessions → ℕ → ℕ → ℕ → List ℕ → Changed
changed_of room s q mode c group a = changes_of (data_in (read_pdu a) a) (judge_of room s (session_for q mode c) mode group a)

-- WHAT A CALL DID, and what it says that it stored
pub record Requested (q : Sessions) (mode c group : ℕ) (a s o : List ℕ) (r : Made) (s' o' : List ℕ) : Type 0 where
  pub call : Called q mode c group a s o r.done s' o'
  pub changed : r.changed ≡ changed_of (length o) s q mode c group a

-- a byte that stands in neither part
pub record Outside (r : Changed) (i : ℕ) : Type 0 where
  pub first : (i < r.first.offset) ⊎ (r.first.offset + r.first.length ≤ i)
  pub second : (i < r.second.offset) ⊎ (r.second.offset + r.second.length ≤ i)

-- nothing was stored
abbrev pub none : Changed
none = record { first = part 0 0; second = part 0 0 }
