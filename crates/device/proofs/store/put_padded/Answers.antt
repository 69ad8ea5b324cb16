-- `device::store::put_padded` meets its contract.
use Rattle.device.proofs.{leaves.Stores.zeros_first}
use Rattle.device.proofs.store.put_padded.Goals as goal

pub returns : goal.returns
returns c = search zeros_first
