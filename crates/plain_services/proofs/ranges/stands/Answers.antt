-- `plain_services::ranges::stands` meets its contract. The invariant: none so far has the address.
use Rattle.octets.proofs.Kit.{◌<◌, arith}
use Rattle.octets.proofs.Tests.{branches}
use Rattle.plain_services.proofs.{Regions.{found_first, found_none, stands_nowhere, stands_denied, stands_there}}
use Rattle.plain_services.proofs.ranges.stands.Goals as goal

pub returns-then-not-may : goal.returns-then-not-may
returns-then-not-may c =
    let inside : c.loop-i.i < c.args.area.count = omega (arith, c.loop-i.invariant.0) in
    stands_denied _ _ _ _ _ _ (found_first _ _ _ _ inside (search branches) c.loop-i.invariant.2) inside _ c.may.ensures (simp c.if-not-may.true)

pub returns-then-address-first : goal.returns-then-address-first
returns-then-address-first c =
    let inside : c.loop-i.i < c.args.area.count = omega (arith, c.loop-i.invariant.0) in
    stands_there _ _ _ _ _ _ (found_first _ _ _ _ inside (search branches) c.loop-i.invariant.2) inside _ c.may.ensures (simp c.if-not-may.false)

pub returns : goal.returns
returns c = stands_nowhere _ _ _ _ _ _ (found_none _ _ _ (λ j h. c.loop-i.invariant.2 j (omega (arith, c.loop-i.invariant.0, c.loop-i.invariant.1)))) (omega (arith, c.loop-i.invariant.0))
