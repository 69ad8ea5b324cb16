-- What wrong devices answer and store, and what ours does in their place, by computation.
use Rattle.octets.proofs.Kit.{◌≡◌, refl, get_or}
use Rattle.octets.specs.{Bytes.{num_at, bytes_of}, Splice.splice}
use Rattle.sheet.specs.{Demand.breach, First.first, Entries.{entry, key_of, floor, body_end, start_of, reached, six_bits}}
use Rattle.sheet.specs.{Rules.{entry_demands, body_demands, entry_rule, body_rule, entries_rule, bodies_rule, walk_rule, rest_rule, rule_in, verdict_of}, Lookup.{seek, index_of}, Head.rules_of}
use Rattle.pdu.specs.{Table.find, Rules.{four_at, twelve_at, head_bytes}, Read.{read_pdu, data_of}, Write.encoded}
use Rattle.judge.specs.{Session.{level_of, level_in}, Keys.key_write_of, Properties.{read_in, property_read_of, write_in, property_write_of}, Judge.{reached_of, is_shut, judge_of}}
use Rattle.device.specs.{Step.{step_by, step_of}, Demand2.done, Marked.{sample, read_count, write_element, asked}}
use Rattle.device.proofs.trials.Wrong.{inflated, invents_count, raised, invents_stored, stores_denied, acts_at, levels_turned, key_of_another, keyless_write, write_key0}

-- THE LAST BYTE IS 2, the maximum, where the count is 1
pub invented : get_or (invents_count (asked read_count)).answer 7 0 ≡ 2
unfolding sample invents_count inflated step_by judge_of verdict_of is_shut reached_of rules_of level_in level_of read_in property_read_of
    read_pdu find encoded head_bytes four_at twelve_at seek index_of rule_in walk_rule rest_rule entries_rule bodies_rule entry_rule body_rule
    body_demands entry_demands entry key_of floor body_end start_of reached six_bits first breach num_at bytes_of
invented = refl

-- AFTER A WRITE OF ITS ONE ELEMENT THE STORED COUNT IS 2
pub invented_stored : get_or (invents_stored (asked write_element)).sheet 47 0 ≡ 2
unfolding sample invents_stored raised step_by judge_of verdict_of is_shut reached_of rules_of level_in level_of write_in property_write_of
    read_pdu find data_of four_at twelve_at seek index_of rule_in walk_rule rest_rule entries_rule bodies_rule entry_rule body_rule
    body_demands entry_demands entry key_of floor body_end start_of reached six_bits first breach splice num_at bytes_of
invented_stored = refl

-- where 1 is due
pub stored : get_or (done (asked write_element)).sheet 47 0 ≡ 1
unfolding sample step_of step_by judge_of verdict_of is_shut reached_of rules_of level_in level_of write_in property_write_of
    read_pdu find data_of four_at twelve_at seek index_of rule_in walk_rule rest_rule entries_rule bodies_rule entry_rule body_rule
    body_demands entry_demands entry key_of floor body_end start_of reached six_bits first breach splice num_at bytes_of
stored = refl

-- WITHOUT A KEY THE ELEMENT IS STORED, by one that answers the refusal and by one with the levels turned
pub denied_stored : get_or (stores_denied (asked keyless_write)).sheet 65 0 ≡ 0x84
unfolding sample stores_denied step_of step_by judge_of verdict_of is_shut reached_of rules_of level_in level_of write_in property_write_of
    read_pdu find data_of four_at twelve_at seek index_of rule_in walk_rule rest_rule entries_rule bodies_rule entry_rule body_rule
    body_demands entry_demands entry key_of floor body_end start_of reached six_bits first breach splice num_at bytes_of
denied_stored = refl

pub turned_stored : get_or (levels_turned (asked keyless_write)).sheet 65 0 ≡ 0x84
unfolding sample acts_at step_of step_by judge_of verdict_of is_shut reached_of rules_of level_in level_of write_in property_write_of
    read_pdu find data_of four_at twelve_at seek index_of rule_in walk_rule rest_rule entries_rule bodies_rule entry_rule body_rule
    body_demands entry_demands entry key_of floor body_end start_of reached six_bits first breach splice num_at bytes_of
turned_stored = refl

-- where it must stay
pub element_kept : get_or (done (asked keyless_write)).sheet 65 0 ≡ 0xE8
unfolding sample step_of step_by judge_of verdict_of is_shut reached_of rules_of level_in level_of write_in property_write_of
    read_pdu find data_of four_at twelve_at seek index_of rule_in walk_rule rest_rule entries_rule bodies_rule entry_rule body_rule
    body_demands entry_demands entry key_of floor body_end start_of reached six_bits first breach splice num_at bytes_of
element_kept = refl

-- AT LEVEL 1 KEY 0 IS SET
pub key_stored : get_or (key_of_another (asked write_key0)).sheet 18 0 ≡ 0x33
unfolding sample acts_at step_of step_by judge_of verdict_of is_shut reached_of rules_of level_in level_of key_write_of
    read_pdu find data_of rule_in walk_rule rest_rule entries_rule bodies_rule entry_rule body_rule
    body_demands entry_demands entry key_of floor body_end start_of reached six_bits first breach splice num_at bytes_of
key_stored = refl

-- where it must stay
pub key_kept : get_or (done (asked write_key0)).sheet 18 0 ≡ 0x11
unfolding sample step_of step_by judge_of verdict_of is_shut reached_of rules_of level_in level_of key_write_of
    read_pdu find data_of rule_in walk_rule rest_rule entries_rule bodies_rule entry_rule body_rule
    body_demands entry_demands entry key_of floor body_end start_of reached six_bits first breach splice num_at bytes_of
key_kept = refl
