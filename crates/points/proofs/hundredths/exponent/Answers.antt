-- `points::hundredths::exponent` meets its contract.
use Rattle.octets.proofs.Kit.{sym, ◌∙◌, arith}
use Rattle.points.proofs.{Search.{goes_on, stops, ends}}
use Rattle.points.proofs.hundredths.exponent.Goals as goal

pub returns-then-m-l : goal.returns-then-m-l
returns-then-m-l c = record { first = sym (stops _ _ _ c.requires.1 c.loop-e-test.true c.if-m-l.true) ∙ c.loop-e.invariant; four_bits = omega arith }

pub loop-e-preserved : goal.loop-e-preserved
loop-e-preserved c = sym (goes_on _ _ _ c.requires.1 c.loop-e-test.true c.if-m-l.false) ∙ c.loop-e.invariant

pub returns : goal.returns
returns c = record { first = sym (ends _ _ _ c.loop-e.auto.e-end c.loop-e-test.false) ∙ c.loop-e.invariant; four_bits = omega arith }
