-- `versions::table::find` meets its contract. The invariant: no row passed has the number.
use Rattle.versions.proofs.{Loops.{seek_begin, seek_found, seek_go, seek_end}}
use Rattle.versions.proofs.table.find.Goals as goal

pub loop-i-init : goal.loop-i-init
loop-i-init c = search seek_begin

pub returns-then-word-number : goal.returns-then-word-number
returns-then-word-number c = search seek_found

pub loop-i-preserved : goal.loop-i-preserved
loop-i-preserved c = search seek_go

pub returns : goal.returns
returns c = search seek_end
