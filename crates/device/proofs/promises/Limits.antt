-- Worked: how many bytes a request may name at most, on a sheet that has one more of each.
use Rattle.octets.proofs.Kit.{ℕ, ◌≡◌, refl, true, List, [], ◌∷◌, map, replicate}
use Rattle.octets.specs.{Bytes.{num_at, bytes_of}, Splice.splice}
use Rattle.sheet.specs.{Demand.breach, First.first, Head.rules_of, Entries.{entry, key_of, floor, body_end, start_of, reached, six_bits}}
use Rattle.sheet.specs.Rules.{entry_demands, body_demands, entry_rule, body_rule, entries_rule, bodies_rule, walk_rule, rest_rule, rule_in, verdict_of}
use Rattle.sheet.specs.Lookup.{seek, index_of, covers, place_of, common, range_of}
use Rattle.pdu.specs.{Table.find, Rules.{low_at, four_at, twelve_at, head_bytes}, Read.{read_pdu, data_of}, Write.encoded}
use Rattle.judge.specs.{Session.{level_of, level_in}, Properties.{read_in, property_read_of, write_in, property_write_of}, Memory.{memory_read_of, change_of, memory_write_of, bit_write_of}}
use Rattle.judge.specs.Judge.{reached_of, is_shut, judge_of}
use Rattle.device.specs.{Carry.{build, bit_at}, Step.{step_by, step_of}}

-- 13 bytes of memory, 12 of user memory, a property of 11 elements of a byte each
unfoldable pub roomy : List ℕ
roomy =
    -- edition; one region, one property, no group object; length
    0x02 ∷ 0x01 ∷ 0x01 ∷ 0x00 ∷ 0x00 ∷ 0x60 ∷
    -- serial, mask version, flags, one user region, individual address
    0x00 ∷ 0xC5 ∷ 0x01 ∷ 0x02 ∷ 0x03 ∷ 0x05 ∷ 0x07 ∷ 0xB0 ∷ 0x02 ∷ 0x01 ∷ 0x11 ∷ 0x06 ∷
    -- keys, zeros
    0x0A ∷ 0x0B ∷ 0x0C ∷ 0x0D ∷ 0x1A ∷ 0x1B ∷ 0x1C ∷ 0x1D ∷ 0x2A ∷ 0x2B ∷ 0x2C ∷ 0x2D ∷ 0x00 ∷ 0x00 ∷
    -- the region, the property, the user region
    0x01 ∷ 0x00 ∷ 0x00 ∷ 0x0D ∷ 0x00 ∷ 0x3C ∷ 0x33 ∷ 0x00 ∷
    0x01 ∷ 0x33 ∷ 0x84 ∷ 0x01 ∷ 0x00 ∷ 0x0B ∷ 0x00 ∷ 0x0B ∷ 0x00 ∷ 0x49 ∷ 0x33 ∷ 0x00 ∷
    0x01 ∷ 0x00 ∷ 0x00 ∷ 0x0C ∷ 0x00 ∷ 0x54 ∷ 0x33 ∷ 0x00 ∷
    -- their bodies
    replicate 36 0xA5

-- connected, at level 3
unfoldable pub outcome : List ℕ → ℕ
outcome a = (step_of 16 roomy record { opened = true; level = 3 } 3 0 a).outcome

-- 12 BYTES OF MEMORY, 11 OF USER MEMORY, 5 OF A BIT WRITE, 10 OF A PROPERTY; one more is denied where an APDU can say so
pub limits_worked :
    map outcome
    ((0x02 ∷ 0x0C ∷ 0x01 ∷ 0x00 ∷ []) ∷
    (0x02 ∷ 0x0D ∷ 0x01 ∷ 0x00 ∷ []) ∷
    (0x02 ∷ 0x8C ∷ 0x01 ∷ 0x00 ∷ replicate 12 0) ∷
    (0x02 ∷ 0xC0 ∷ 0x0B ∷ 0x01 ∷ 0x00 ∷ []) ∷
    (0x02 ∷ 0xC0 ∷ 0x0C ∷ 0x01 ∷ 0x00 ∷ []) ∷
    (0x02 ∷ 0xC2 ∷ 0x0B ∷ 0x01 ∷ 0x00 ∷ replicate 11 0) ∷
    (0x03 ∷ 0xD0 ∷ 0x05 ∷ 0x01 ∷ 0x00 ∷ replicate 10 0) ∷
    (0x03 ∷ 0xD5 ∷ 0x01 ∷ 0x33 ∷ 0xA0 ∷ 0x01 ∷ []) ∷
    (0x03 ∷ 0xD5 ∷ 0x01 ∷ 0x33 ∷ 0xB0 ∷ 0x01 ∷ []) ∷
    (0x03 ∷ 0xD7 ∷ 0x01 ∷ 0x33 ∷ 0xA0 ∷ 0x01 ∷ replicate 10 0) ∷
    [])
    ≡ 0 ∷ 11 ∷ 0 ∷ 0 ∷ 11 ∷ 0 ∷ 0 ∷ 0 ∷ 11 ∷ 0 ∷ []
unfolding outcome roomy step_of step_by build bit_at judge_of verdict_of is_shut reached_of rules_of level_in level_of
    read_in property_read_of write_in property_write_of memory_read_of change_of memory_write_of bit_write_of
    read_pdu find data_of encoded head_bytes low_at four_at twelve_at seek index_of covers place_of common range_of
    rule_in walk_rule rest_rule entries_rule bodies_rule entry_rule body_rule body_demands entry_demands
    entry key_of floor body_end start_of reached six_bits first breach splice num_at bytes_of
limits_worked = refl
