-- Memory: read, write and bit write.
use Rattle.std.specs.Prelude.{ℕ, ◌≡◌, ◌/◌, ◌%◌, List, Bool, true, false, cond, ◌&&◌, leb, eqb, Option, Some, None, IfNone, IfSome}
use Rattle.sheet.specs.Head as head
use Rattle.sheet.specs.Lookup.{range_of}
use Rattle.sheet.specs.declared.Memory.{Memory}
use Rattle.sheet.specs.declared.Memory.TheVariants.{Device, User}
use Rattle.sheet.specs.declared.Run.{Run}
use Rattle.pdu.specs.declared.Pdu.{Pdu}
use Rattle.pdu.specs.declared.Pdu.TheVariants.{MemoryResponse, UserMemoryResponse}
use Rattle.judge.specs.declared.Access.{Access}
use Rattle.judge.specs.declared.Access.TheVariants.{Read, Write, Change}
use Rattle.judge.specs.declared.Store.{Store}
use Rattle.judge.specs.declared.Store.TheVariants as store
use Rattle.judge.specs.declared.Answer.TheVariants as answer
use Rattle.judge.specs.declared.Decision.{Decision}
use Rattle.judge.specs.Decisions.{refused, denied, answered, written, stored}

-- how many bytes a read or write of a memory, and a bit write, may name
abbrev pub most_bytes : Memory → ℕ
most_bytes Device = 12
most_bytes User = 11

abbrev pub most_bits : ℕ
most_bits = 5

-- what a memory answers with
abbrev pub response_of : Memory → ℕ → ℕ → Pdu
response_of Device n a = MemoryResponse n a
response_of User n a = UserMemoryResponse n a

-- the rights that a run's levels give at a level
abbrev pub may_read : ℕ → ℕ → Bool
may_read level levels = leb level (levels / 16)

abbrev pub may_write : ℕ → ℕ → Bool
may_write level levels = leb level (levels % 16)

-- an access is within the rights: a bit write needs both
abbrev pub may : Access → ℕ → ℕ → Bool
may Read level levels = may_read level levels
may Write level levels = may_write level levels
may Change level levels = may_read level levels && may_write level levels

abbrev pub verifies : List ℕ → Bool
verifies s = eqb (head.verify s) 1

-- n is 1 to m, the range is a run, and the level suffices for it
abbrev pub run_allowed : Access → ℕ → ℕ → ℕ → Option Run → Bool
run_allowed w m level n None = false
run_allowed w m level n (Some r) = leb 1 n && leb n m && may w level r.levels

-- where a run starts
abbrev pub run_at : Option Run → ℕ
run_at None = 0
run_at (Some r) = r.offset

-- where it starts, if the access is allowed, and nothing if it isn't
pub record Placed (w : Access) (m level n : ℕ) (run : Option Run) (r : Option ℕ) : Type 0 where
  pub none : IfNone r (run_allowed w m level n run ≡ false)
  pub some : IfSome r (λ at. (run_allowed w m level n run ≡ true) × (at ≡ run_at run))

unfoldable pub memory_read_of : List ℕ → Memory → ℕ → ℕ → ℕ → Decision
memory_read_of s m level n a =
    let r = range_of s m a n in
    cond (run_allowed Read (most_bytes m) level n r) (answered (answer.Sheet (response_of m n a) (run_at r) n))
    (denied (response_of m 0 a))

-- a store of n bytes: answered with the new bytes if verify is on
unfoldable pub change_of : Memory → Bool → Bool → Store → ℕ → ℕ → ℕ → Decision
change_of m allowed verify new o n a =
    cond allowed
    (cond verify (written new store.Nothing (answer.Sheet (response_of m n a) o n)) (stored new))
    (cond verify (denied (response_of m 0 a)) (refused 12))

unfoldable pub memory_write_of : List ℕ → Memory → ℕ → ℕ → ℕ → Decision
memory_write_of s m level n a =
    let r = range_of s m a n in
    change_of m (run_allowed Write (most_bytes m) level n r) (verifies s) (store.Data 0 (run_at r)) (run_at r) n a

-- bits of the device's memory
unfoldable pub bit_write_of : List ℕ → ℕ → ℕ → ℕ → Decision
bit_write_of s level n a =
    let r = range_of s Device a n in
    change_of Device (run_allowed Change most_bits level n r) (verifies s) (store.Bits (run_at r) n) (run_at r) n a
