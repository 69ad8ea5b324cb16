-- `sheet::Sheet::range` meets its contract. The invariant: what has been reached is a run.
use Rattle.octets.proofs.Kit.{◌∙◌, rules, arith}
use Rattle.sheet.proofs.searches.{SearchLoops.kind_known, Loops.{range_empty, none_begins, none_reaches, first_there, first_from, range_begins, no_next, goes_on, all_found}}
use Rattle.sheet.proofs.accepted.Sheet.range.Goals as goal

pub returns-then-n-eq0 : goal.returns-then-n-eq0
returns-then-n-eq0 c = search range_empty

pub returns-then-i-eq0 : goal.returns-then-i-eq0
returns-then-i-eq0 c = search none_begins

pub entry-e-requires : goal.entry-e-requires
entry-e-requires c = search (first_there, kind_known)

pub returns-then-end-address : goal.returns-then-end-address
returns-then-end-address c = search none_reaches

pub place_in-offset-requires : goal.place_in-offset-requires
place_in-offset-requires c = search (first_from, kind_known, rules)

pub loop-end-init : goal.loop-end-init
loop-end-init c = search (range_begins, kind_known)

pub returns-in_err-reach : goal.returns-in_err-reach
returns-in_err-reach c =
    c.from_residual.ensures
    ∙ no_next _ c.args.self.accepted _ (kind_known _) _ _ _ _ _ _ c.loop-end.invariant _ c.kind-kind.ensures (omega arith) c.in_err-reach.ensures

pub loop-end-preserved : goal.loop-end-preserved
loop-end-preserved c = goes_on _ c.args.self.accepted _ (kind_known _) _ _ _ _ _ _ c.loop-end.invariant _ (omega arith) c.in_ok-reach.ensures

pub returns : goal.returns
returns c = search (all_found, kind_known)
