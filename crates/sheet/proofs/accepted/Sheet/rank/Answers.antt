-- `sheet::Sheet::rank` meets its contract.
use Rattle.octets.proofs.Kit.{arith}
use Rattle.sheet.proofs.{places.Fields.property_there, searches.Objects.{index_none, index_within, first_last, index_past}}
use Rattle.sheet.proofs.accepted.Sheet.rank.Goals as goal

pub returns-then-i-first : goal.returns-then-i-first
returns-then-i-first c = index_none _ c.args.self.accepted c.args.self.octets _ _ c.lower-first.ensures _ (omega arith)

pub object_at-requires : goal.object_at-requires
object_at-requires c = property_there _ c.args.self.accepted _ (omega arith)

pub returns-then-object_at-object : goal.returns-then-object_at-object
returns-then-object_at-object c =
    index_within _ c.args.self.accepted c.args.self.octets _ _ c.lower-first.ensures _ _
    (omega arith) c.requires c.object_at.ensures (omega arith)

pub overflow_sub-result-2 : goal.overflow_sub-result-2
overflow_sub-result-2 c = omega (arith, first_last _ c.args.self.accepted c.args.self.octets _ _ c.lower-first.ensures _ c.lower.ensures)

pub returns : goal.returns
returns c =
    index_past _ c.args.self.accepted c.args.self.octets _ _ c.lower-first.ensures _ c.lower.ensures _ _
    (omega arith) c.requires c.object_at.ensures c.if-object_at-object.false
