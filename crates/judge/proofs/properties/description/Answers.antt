-- `judge::properties::description` meets its contract.
use Rattle.judge.proofs.{Values.{describe_missing, describe_there}, Fields.small_rank}
use Rattle.judge.proofs.properties.description.Goals as goal

pub returns-in_default : goal.returns-in_default
returns-in_default c = search describe_missing

pub overflow_cast-rank : goal.overflow_cast-rank
overflow_cast-rank c = record { fits = small_rank _ _ _ _ _ c.args.s.accepted c.rank.ensures c.in-Some.ensures }

pub returns : goal.returns
returns c = search describe_there
