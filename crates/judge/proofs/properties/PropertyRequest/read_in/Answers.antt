-- `judge::properties::PropertyRequest::read_in` meets its contract.
use Rattle.judge.proofs.{Values.{read_low, read_count_lem, read_elements, read_none}}
use Rattle.judge.proofs.properties.PropertyRequest.read_in.Goals as goal

pub returns-then-not-may_read : goal.returns-then-not-may_read
returns-then-not-may_read c = search read_low

pub returns-then-is_count : goal.returns-then-is_count
returns-then-is_count c = search read_count_lem

pub returns-then-is_readable : goal.returns-then-is_readable
returns-then-is_readable c = search read_elements

pub returns : goal.returns
returns c = search read_none
