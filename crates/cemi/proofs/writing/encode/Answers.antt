-- `cemi::writing::encode` meets its contract. Assumes nothing.
use Rattle.cemi.proofs.{Stores.all_put}
use Rattle.cemi.proofs.writing.encode.Goals as goal

pub returns : goal.returns
returns c = search all_put
