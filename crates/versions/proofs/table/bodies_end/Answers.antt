-- `versions::table::bodies_end` meets its contract: what is left to add gives what all of it gives.
use Rattle.versions.proofs.{Loops.{end_begin, end_go, end_end}}
use Rattle.versions.proofs.table.bodies_end.Goals as goal

pub loop-i-init : goal.loop-i-init
loop-i-init c = search end_begin

pub loop-i-preserved : goal.loop-i-preserved
loop-i-preserved c = search end_go

pub returns : goal.returns
returns c = search end_end
