-- `device::store::bits` meets its contract.
use Rattle.octets.proofs.Kit.{arith}
use Rattle.device.proofs.{leaves.Bits.{bits_none, bits_more}}
use Rattle.device.proofs.store.bits.Goals as goal

pub loop-i-init : goal.loop-i-init
loop-i-init c = bits_none _ _ _ _ (omega arith)

pub loop-i-preserved : goal.loop-i-preserved
loop-i-preserved c = let l = c.loop-i in bits_more _ _ _ _ (omega arith) l.s l.i l.invariant (omega arith)
