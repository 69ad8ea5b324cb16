-- Worked: the flags of a group object one by one, requests with two faults, a bit write of two bytes, a key of two levels, on the sample sheet.
use Rattle.octets.proofs.Kit.{ℕ, ◌≡◌, refl, true, false, List, [], ◌∷◌, map, replicate}
use Rattle.octets.specs.{Bytes.{num_at, bytes_of}, Splice.splice}
use Rattle.sheet.specs.{Demand.breach, First.first, Head.rules_of, Entries.{entry, key_of, floor, body_end, start_of, reached, six_bits}}
use Rattle.sheet.specs.Rules.{entry_demands, body_demands, entry_rule, body_rule, entries_rule, bodies_rule, walk_rule, rest_rule, rule_in, verdict_of}
use Rattle.sheet.specs.Lookup.{seek, index_of, covers, place_of, common, range_of}
use Rattle.pdu.specs.{Table.find, Rules.{low_at, head_bytes}, Read.{read_pdu, data_of}, Write.encoded}
use Rattle.judge.specs.{Session.{level_of, level_in}, declared.Session.Session, Groups.{value_of, put_value, flags_at, group_read_of, group_put_of}, Memory.{change_of, bit_write_of}}
use Rattle.judge.specs.{Keys.{grant_of, authorize_of}, Judge.{reached_of, is_shut, judge_of}}
use Rattle.device.specs.{Carry.{build, bit_at}, Step.{step_by, step_of}, Marked.{sample, seen}}

abbrev nobody : Session
nobody = record { opened = false; level = 3 }

abbrev holder : Session
holder = record { opened = true; level = 1 }

-- THE FLAGS, in turn 1, 2 and 4: what a read, a write and a Response get
unfoldable pub flagged : ℕ → List ℕ
flagged f = splice sample 55 (f ∷ [])

pub flags_worked :
    map (λ (f : ℕ). map (λ (a : List ℕ). (step_of 16 (flagged f) nobody 0 0x0801 a).outcome) ((0x00 ∷ 0x00 ∷ []) ∷ (0x00 ∷ 0x80 ∷ 0x15 ∷ []) ∷ (0x00 ∷ 0x40 ∷ 0x15 ∷ []) ∷ [])) (1 ∷ 2 ∷ 4 ∷ [])
    ≡ (0 ∷ 2 ∷ 2 ∷ []) ∷ (2 ∷ 1 ∷ 2 ∷ []) ∷ (2 ∷ 2 ∷ 1 ∷ []) ∷ []
unfolding flagged sample step_of step_by judge_of verdict_of is_shut reached_of rules_of level_in level_of group_read_of group_put_of value_of put_value flags_at
    read_pdu find data_of encoded head_bytes low_at seek index_of rule_in walk_rule rest_rule entries_rule bodies_rule entry_rule body_rule body_demands entry_demands
    entry key_of floor body_end start_of reached six_bits first breach splice num_at bytes_of
flags_worked = refl

-- the sample sheet with bytes 0 and 15 as given: with 1 and 0 it is old, with 1 and 1 bad
unfoldable pub fronted : ℕ → ℕ → List ℕ
fronted ed n = splice (splice sample 0 (ed ∷ [])) 15 (n ∷ [])

-- TWO FAULTS AT ONCE, of which the first in the order of the outcomes is told: 3 and 4, 3 and 14, 4 and 5, 4 and 5 with 1 in byte 0,
-- 14 and 5, 5 and 6 and 5 and 7 (of a byte, and of 17), 6 and 8, 6 and 9, 7 and 8, 7 and 9, 9 and 10, 2 and 10; and 10 alone
pub order_worked :
    (step_of 15 [] nobody 0 0 (0x00 ∷ 0x00 ∷ [])).outcome ∷
    (step_of 15 (fronted 1 0) nobody 0 0 (0x00 ∷ 0x00 ∷ [])).outcome ∷
    (step_of 16 [] nobody 0 0 (0x03 ∷ [])).outcome ∷
    (step_of 16 (fronted 1 1) nobody 0 0 (0x03 ∷ [])).outcome ∷
    (step_of 16 (fronted 1 0) nobody 0 0 (0x03 ∷ [])).outcome ∷
    (step_of 16 sample nobody 4 0 (0x03 ∷ [])).outcome ∷
    (step_of 16 sample nobody 4 0 (replicate 17 0)).outcome ∷
    (step_of 16 sample nobody 3 0 (0x03 ∷ [])).outcome ∷
    (step_of 16 sample nobody 3 0 (replicate 17 0)).outcome ∷
    (step_of 16 sample nobody 4 0 (0x03 ∷ 0x81 ∷ [])).outcome ∷
    (step_of 16 sample nobody 4 0 (0x00 ∷ 0x00 ∷ [])).outcome ∷
    (step_of 16 sample nobody 3 0 (0x03 ∷ 0x81 ∷ [])).outcome ∷
    (step_of 16 sample nobody 3 0 (0x00 ∷ 0x00 ∷ [])).outcome ∷
    (step_of 16 sample nobody 0 0 (0x02 ∷ 0x04 ∷ [])).outcome ∷
    (step_of 16 sample nobody 0 0x0802 (0x00 ∷ 0x81 ∷ [])).outcome ∷
    (step_of 16 sample nobody 0 0x0801 (0x00 ∷ 0x81 ∷ [])).outcome ∷
    []
    ≡ 3 ∷ 3 ∷ 4 ∷ 4 ∷ 14 ∷ 5 ∷ 5 ∷ 5 ∷ 5 ∷ 6 ∷ 6 ∷ 7 ∷ 7 ∷ 9 ∷ 2 ∷ 10 ∷ []
unfolding fronted sample step_of step_by judge_of verdict_of is_shut reached_of rules_of level_in level_of group_put_of put_value flags_at
    read_pdu find data_of low_at seek index_of rule_in walk_rule rest_rule entries_rule bodies_rule entry_rule body_rule body_demands entry_demands
    entry key_of floor body_end start_of reached six_bits first breach splice num_at bytes_of
order_worked = refl

-- A BIT WRITE OF TWO BYTES: two AND bytes, then two XOR bytes
pub bits_worked :
    seen (step_of 16 sample holder 3 0 (0x03 ∷ 0xD0 ∷ 0x02 ∷ 0x01 ∷ 0x00 ∷ 0xF0 ∷ 0xFF ∷ 0x01 ∷ 0x02 ∷ []))
    ≡ record { answer = 0x02 ∷ 0x42 ∷ 0x01 ∷ 0x00 ∷ 0xA1 ∷ 0xA3 ∷ []; number = 0 }
unfolding sample step_of step_by build bit_at judge_of verdict_of is_shut reached_of rules_of level_in level_of change_of bit_write_of
    read_pdu find data_of encoded head_bytes low_at seek covers place_of common range_of rule_in walk_rule rest_rule entries_rule bodies_rule entry_rule body_rule body_demands entry_demands
    entry key_of floor body_end start_of reached six_bits first breach splice num_at bytes_of
bits_worked = refl

-- A KEY OF LEVELS 0 AND 2, AND OF 1 AND 2: the smallest level
unfoldable pub shared : ℕ → List ℕ
shared at = splice sample at (0xFF ∷ 0xFF ∷ 0xFF ∷ 0xFF ∷ [])

pub keys_worked :
    map (λ (at : ℕ). (step_of 16 (shared at) holder 3 0 (0x03 ∷ 0xD1 ∷ 0x00 ∷ 0xFF ∷ 0xFF ∷ 0xFF ∷ 0xFF ∷ [])).answer) (18 ∷ 22 ∷ [])
    ≡ (0x03 ∷ 0xD2 ∷ 0x00 ∷ []) ∷ (0x03 ∷ 0xD2 ∷ 0x01 ∷ []) ∷ []
unfolding shared sample step_of step_by judge_of verdict_of is_shut reached_of rules_of level_in level_of grant_of authorize_of
    read_pdu find data_of encoded head_bytes low_at rule_in walk_rule rest_rule entries_rule bodies_rule entry_rule body_rule body_demands entry_demands
    entry key_of floor body_end start_of reached six_bits first breach splice num_at bytes_of
keys_worked = refl
