-- The sixteen marked cases, by computation.
use Rattle.octets.proofs.Kit.{◌≡◌, refl, map}
use Rattle.octets.specs.{Bytes.{num_at, bytes_of}, Splice.splice}
use Rattle.sheet.specs.{Demand.breach, First.first, Entries.{entry, key_of, floor, body_end, start_of, reached, six_bits}}
use Rattle.sheet.specs.Rules.{entry_demands, body_demands, entry_rule, body_rule, entries_rule, bodies_rule, walk_rule, rest_rule, rule_in, verdict_of}
use Rattle.sheet.specs.{Lookup.{seek, index_of, object_at, rank, covers, place_of, common, range_of}, Head.rules_of}
use Rattle.pdu.specs.{Table.find, Rules.{low_at, four_at, twelve_at, head_bytes}, Read.{read_pdu, data_of}, Write.encoded}
use Rattle.judge.specs.{Session.{level_of, level_in}, Properties.{read_in, property_read_of, write_in, property_write_of, described_at, description_of}}
use Rattle.judge.specs.{Memory.{memory_read_of, change_of, memory_write_of, bit_write_of}, Keys.{grant_of, authorize_of, key_write_of}, Judge.{reached_of, is_shut, judge_of}}
use Rattle.device.specs.{Carry.{build, bit_at}, Step.{step_by, step_of}, Marked.{sample, cases, found, wanted}}

-- THE SIXTEEN MARKED CASES HOLD
pub marked : map found cases ≡ map wanted cases
unfolding sample cases found wanted step_of step_by build bit_at judge_of verdict_of is_shut reached_of rules_of level_in level_of
    read_in property_read_of write_in property_write_of described_at description_of memory_read_of change_of memory_write_of bit_write_of
    grant_of authorize_of key_write_of read_pdu find data_of encoded head_bytes low_at four_at twelve_at
    seek index_of object_at rank covers place_of common range_of rule_in walk_rule rest_rule entries_rule bodies_rule entry_rule body_rule body_demands entry_demands
    entry key_of floor body_end start_of reached six_bits first breach splice num_at bytes_of
marked = refl
