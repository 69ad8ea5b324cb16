-- `cemi::writing::put_front` meets its contract. Assumes nothing.
use Rattle.cemi.proofs.{Stores.front_put}
use Rattle.cemi.proofs.writing.put_front.Goals as goal

pub returns : goal.returns
returns c = search front_put
