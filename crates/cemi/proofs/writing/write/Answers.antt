-- `cemi::writing::write` meets its contract.
use Rattle.octets.proofs.Kit.{arith}
use Rattle.cemi.proofs.{Wrote.{may_write, wrote_47, wrote_46, wrote_all}}
use Rattle.cemi.proofs.writing.write.Goals as goal

pub returns-then-not-is_writable : goal.returns-then-not-is_writable
returns-then-not-is_writable c = search wrote_47

pub overflow_add-n-3 : goal.overflow_add-n-3
overflow_add-n-3 c = omega (arith, may_write _ _ _ _ c.is_writable.ensures c.if-not-is_writable.false)

pub returns-then-out-n : goal.returns-then-out-n
returns-then-out-n c = search wrote_46

pub encode-requires : goal.encode-requires
encode-requires c = omega (arith, may_write _ _ _ _ c.is_writable.ensures c.if-not-is_writable.false)

pub returns : goal.returns
returns c = search wrote_all
