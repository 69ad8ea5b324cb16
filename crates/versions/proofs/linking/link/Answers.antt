-- `versions::linking::link` meets its contract: what is left to write gives what all of it gives.
use Rattle.versions.proofs.{Links.{link_begin, link_go, link_end}}
use Rattle.versions.proofs.linking.link.Goals as goal

pub loop-i-init : goal.loop-i-init
loop-i-init c = link_begin _ _ _ c.table_end-at.ensures c.requires.0 c.requires.1

pub loop-i-preserved : goal.loop-i-preserved
loop-i-preserved c = search link_go

pub returns : goal.returns
returns c = search link_end
