-- `plain::carry::send` meets its contract.
use Rattle.plain.proofs.{Sessioned.{nothing_sent, sendable, this_sent, share_room}}
use Rattle.plain.proofs.carry.send.Goals as goal

pub slice_bounds-encode-end : goal.slice_bounds-encode-end
slice_bounds-encode-end c = share_room _ _ c.requires.1 c.requires.2

pub encode-requires : goal.encode-requires
encode-requires c = sendable _ _ _ _ c.in-Some.is c.requires.0

pub returns-in-None : goal.returns-in-None
returns-in-None c = nothing_sent _ _ _ c.in-None.is

pub returns-in-Some : goal.returns-in-Some
returns-in-Some c = this_sent _ _ _ _ _ _ c.in-Some.is c.encode.ensures
