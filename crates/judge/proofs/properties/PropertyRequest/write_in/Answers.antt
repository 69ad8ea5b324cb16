-- `judge::properties::PropertyRequest::write_in` meets its contract.
use Rattle.judge.proofs.{Values.{write_low, write_count_lem, write_elements, write_none}}
use Rattle.judge.proofs.properties.PropertyRequest.write_in.Goals as goal

pub returns-then-not-is_writable : goal.returns-then-not-is_writable
returns-then-not-is_writable c = search write_low

pub returns-then-is_cleared : goal.returns-then-is_cleared
returns-then-is_cleared c = search write_count_lem

pub returns-then-is_stored : goal.returns-then-is_stored
returns-then-is_stored c = search write_elements

pub returns : goal.returns
returns c = search write_none
