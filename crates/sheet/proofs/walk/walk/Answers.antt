-- `sheet::walk::walk` meets its contract. The invariants: no entry before this one has broken a rule, and `late` is 0 exactly if
-- none of their bodies has. Assumes nothing.
use Rattle.sheet.proofs.{searches.SearchLoops.kind_at, rules.Rules.{walk_begins, pass_begins, pass_goes, walk_goes, left_at, at_end}}
use Rattle.sheet.proofs.walk.walk.Goals as goal

pub loop-kind-init : goal.loop-kind-init
loop-kind-init c = search walk_begins

pub loop-i-init : goal.loop-i-init
loop-i-init c =
    let e = kind_at _ c.loop-kind-test.true in
    rw e (pass_begins _ _ _ _ _ _ c.loop-kind.invariant (rw e at c.many-n.ensures))

pub loop-i-preserved : goal.loop-i-preserved
loop-i-preserved c = pass_goes _ _ _ _ _ _ _ _ c.loop-i.invariant c.in-Ok.next c.in-Ok.ensures c.loop-i-test.true

pub loop-kind-preserved : goal.loop-kind-preserved
loop-kind-preserved c =
    let e = kind_at _ c.loop-kind-test.true in
    walk_goes _ _ _ _ _ _ _ _ (rw e at c.loop-i.invariant) _ _ _ c.loop-kind.invariant c.loop-kind-test.true c.loop-i-test.false

pub returns-after-loop-kind : goal.returns-after-loop-kind
returns-after-loop-kind c = search at_end

pub returns-in-Err : goal.returns-in-Err
returns-in-Err c =
    let e = kind_at _ c.loop-kind-test.true in
    left_at _ _ _ _ _ _ _ _ _ _ _ _ c.in-Err.fault c.users_first.ensures (rw e at c.in-Err.ensures) (rw e at c.loop-i.invariant) c.loop-kind.invariant
    c.loop-kind-test.true c.loop-i-test.true
