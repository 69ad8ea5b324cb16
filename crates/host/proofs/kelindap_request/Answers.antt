-- `host::kelindap_request` meets its contract: the count of an answer fits a byte.
use Rattle.octets.proofs.Kit.{arith}
use Rattle.device.proofs.promises.Called.{call_leaves}
use Rattle.host.proofs.kelindap_request.Goals as goal

pub overflow_cast-result : goal.overflow_cast-result
overflow_cast-result c = omega (arith, (call_leaves _ _ _ _ _ _ _ _ _ _ c.request-made.ensures.call).most)
