-- `versions::removing::take_out` meets its contract.
use Rattle.octets.proofs.Kit.{rules}
use Rattle.octets.specs.Octets.{Octets}
use Rattle.versions.proofs.{Removals.{take_needs, take_steps}}
use Rattle.versions.proofs.removing.take_out.Goals as goal

pub close_up-requires : goal.close_up-requires
close_up-requires c =
    let b : Octets c.args.s.now = λ i. search rules in
    take_needs _ _ _ _ _ _ c.requires _ c.table_end-p.ensures c.word-a.ensures c.word-l.ensures c.bodies_end-end.ensures b

pub returns : goal.returns
returns c = search take_steps
