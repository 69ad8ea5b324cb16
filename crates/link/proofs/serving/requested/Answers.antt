-- `link::serving::requested` meets its contract. Assumes nothing.
use Rattle.octets.proofs.Kit.{rules}
use Rattle.link.proofs.{Serves.{counted, enough, few_taken, was_requested}}
use Rattle.link.proofs.serving.requested.Goals as goal

pub slice_bounds-answer-end : goal.slice_bounds-answer-end
slice_bounds-answer-end c = search (enough, rules)

pub slice_bounds-send-end : goal.slice_bounds-send-end
slice_bounds-send-end c = search (counted, enough)

pub send-count-requires : goal.send-count-requires
send-count-requires c = search (few_taken, rules)

pub returns : goal.returns
returns c = search was_requested
