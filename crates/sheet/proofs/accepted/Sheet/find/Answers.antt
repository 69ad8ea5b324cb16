-- `sheet::Sheet::find` meets its contract.
use Rattle.octets.proofs.Kit.{sym, ◌∙◌, rules, arith}
use Rattle.sheet.proofs.{searches.{SearchLoops.{ok_framed, entry_in, kind_known}, Halves.{half_past, half_missed, half_found}}}
use Rattle.sheet.proofs.accepted.Sheet.find.Goals.{else-i-many-via-then-i-many+else-first_word-key, else-i-many-via-else-i-many}
use Rattle.sheet.proofs.accepted.Sheet.find.Goals as goal

pub many-requires : goal.many-requires
many-requires c = search (ok_framed, rules)

pub first_word-requires : goal.first_word-requires
first_word-requires c = search entry_in

pub returns-then-first_word-key : goal.returns-then-first_word-key
returns-then-first_word-key c =
    let p = half_found _ c.args.self.accepted _ (kind_known c.args.kind) _ _ _ c.many.ensures c.lower-i.ensures _ c.if-i-many.true c.first_word.ensures c.if-first_word-key.true in
    (p, omega (arith, p, c.many.ensures.is))

pub returns-else-i-many : goal.returns-else-i-many
returns-else-i-many c =
    elim c.else-i-many.branch [
      | else-i-many-via-then-i-many+else-first_word-key w ↦
          sym (half_missed _ c.args.self.accepted _ (kind_known c.args.kind) _ _ _ c.many.ensures c.lower-i.ensures _ w.if-i-many.true w.first_word.ensures w.if-first_word-key.false)
          ∙ c.many.ensures.is
      | else-i-many-via-else-i-many w ↦
          sym (half_past _ c.args.self.accepted _ (kind_known c.args.kind) _ _ _ c.many.ensures c.lower-i.ensures w.if-i-many.false) ∙ c.many.ensures.is
    ]
