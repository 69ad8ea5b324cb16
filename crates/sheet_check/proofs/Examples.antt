-- Worked lines: of the sample sheet, of its edition 1, of no bytes, and of the sample with a body that begins a byte late.
use Rattle.octets.proofs.Kit.{◌≡◌, refl, [], ◌∷◌}
use Rattle.octets.specs.{Bytes.num_at, Splice.splice}
use Rattle.sheet.specs.{Demand.breach, First.first, Entries.{entry, key_of, floor, body_at, body_end, start_of, reached, six_bits}}
use Rattle.sheet.specs.{Rules.{entry_demands, body_demands, entry_rule, body_rule, entries_rule, bodies_rule, walk_rule, rest_rule, rule_in, verdict_of}, Sample.{sample, old_sample}}
use Rattle.sheet_check.specs.Line.{said_of}

-- OK, OLD, S1, S9, each with a newline
pub said_examples :
    said_of sample ∷ said_of old_sample ∷ said_of [] ∷ said_of (splice sample 57 (0x45 ∷ [])) ∷ []
    ≡ (0x4F ∷ 0x4B ∷ 0x0A ∷ []) ∷ (0x4F ∷ 0x4C ∷ 0x44 ∷ 0x0A ∷ []) ∷ (0x53 ∷ 0x31 ∷ 0x0A ∷ []) ∷ (0x53 ∷ 0x39 ∷ 0x0A ∷ []) ∷ []
unfolding sample old_sample verdict_of rule_in walk_rule rest_rule entries_rule bodies_rule entry_rule body_rule body_demands entry_demands
    entry key_of floor body_at body_end start_of reached six_bits first breach splice num_at
said_examples = refl
