-- `tool::lay::read_as` meets its contract. Assumes nothing.
use Rattle.octets.proofs.Kit.{arith}
use Rattle.pdu.specs.Pdus.{service_of, values_of}
use Rattle.tool.specs.Flat.{kind_of}
use Rattle.tool.proofs.{Arms.{shorter, spans, laid_at}}
use Rattle.tool.proofs.lay.read_as.Goals as goal

pub overflow_sub-result : goal.overflow_sub-result
overflow_sub-result c = search shorter

pub returns : goal.returns
returns c =
    let p = c.args.p in
    let s = spans c.args.apdu.now p (λ i. omega (arith, c.type_inv.apdu i)) c.requires in
    simp (c.flat.ensures, c.data_of-n.ensures) (laid_at (kind_of (service_of p)) (values_of p) _ _ _ _ s.0 s.1)
