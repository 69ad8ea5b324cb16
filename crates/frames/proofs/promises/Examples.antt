-- Worked examples: a frame that comes, and the frame that answers it, byte by byte, on the sample sheet.
use Rattle.octets.proofs.Kit.{ℕ, ◌≡◌, refl, true, false, List, [], ◌∷◌}
use Rattle.octets.specs.{Bytes.{num_at, bytes_of}, Splice.splice}
use Rattle.sheet.specs.{Demand.breach, First.first, Head.rules_of, Entries.{entry, key_of, floor, body_end, start_of, reached, six_bits}}
use Rattle.sheet.specs.Rules.{entry_demands, body_demands, entry_rule, body_rule, entries_rule, bodies_rule, walk_rule, rest_rule, rule_in, verdict_of}
use Rattle.sheet.specs.Lookup.{seek, index_of, covers, place_of, common, range_of}
use Rattle.pdu.specs.{Table.find, Rules.{low_at, head_bytes}, Read.{read_pdu, data_of}, Write.encoded as pduBytes}
use Rattle.cemi.specs.{Layout.bytes_in, Read.frame_in, Parts.tpdu_of, Meaning.{to_group, to_one, numbered, meaning_of, meaning_number}, Write.{under, encoded}, Answering.answering}
use Rattle.judge.specs.{Session.{level_of, level_in}, declared.Session.Session, Groups.{value_of, flags_at, group_read_of}, Memory.memory_read_of, Judge.{reached_of, is_shut, judge_of}}
use Rattle.device.specs.{Asked.Asked, Step.{step_by, step_of}, Marked.sample}
use Rattle.frames.specs.Answering.{answer_to}

-- the sample sheet with 15h for the value of the group object
unfoldable pub sheet : List ℕ
sheet = splice sample 68 (0x15 ∷ [])

-- the request in a frame b, on a session, and the bytes of the frame that answers it
abbrev request : Session → List ℕ → Asked
request q b =
    record {
      room = 16;
      sheet = sheet;
      session = q;
      mode = meaning_number (meaning_of (frame_in b));
      group = (frame_in b).fields.destination;
      apdu = tpdu_of (frame_in b) b;
    }

unfoldable pub answer : Session → ℕ → List ℕ → List ℕ
answer q sequence b =
    let x = request q b in
    encoded (answer_to (frame_in b) x sequence) [] (step_of x.room x.sheet x.session x.mode x.group x.apdu).answer

-- A GROUP READ from 11FFh to 0801h, repeated, with low priority and five hops left: the device 1105h answers to the group, not repeated, with six
pub group_answered :
    answer record { opened = false; level = 3 } 7 (0x29 ∷ 0 ∷ 0x9C ∷ 0xD0 ∷ 0x11 ∷ 0xFF ∷ 0x08 ∷ 0x01 ∷ 1 ∷ 0x00 ∷ 0x00 ∷ [])
    ≡ 0x11 ∷ 0 ∷ 0xBC ∷ 0xE0 ∷ 0x11 ∷ 0x05 ∷ 0x08 ∷ 0x01 ∷ 2 ∷ 0x00 ∷ 0x40 ∷ 0x15 ∷ []
unfolding answer sheet sample answering meaning_of to_group encoded bytes_in under step_of step_by judge_of verdict_of is_shut reached_of rules_of level_in level_of group_read_of value_of flags_at
    read_pdu find data_of pduBytes head_bytes low_at seek index_of rule_in walk_rule rest_rule entries_rule bodies_rule entry_rule body_rule body_demands entry_demands
    entry key_of floor body_end start_of reached six_bits first breach splice num_at bytes_of
group_answered = refl

-- A CONNECTED MEMORY READ from 11FFh, which was sent as 1, with two bytes of additional information: the device 1105h answers to 11FFh, with the number that the host has for it, 18
pub connected_answered :
    answer record { opened = true; level = 3 } 18 (0x29 ∷ 2 ∷ 0xAA ∷ 0xBB ∷ 0xB4 ∷ 0x50 ∷ 0x11 ∷ 0xFF ∷ 0x11 ∷ 0x05 ∷ 3 ∷ 0x46 ∷ 0x04 ∷ 0x01 ∷ 0x00 ∷ [])
    ≡ 0x11 ∷ 0 ∷ 0xB4 ∷ 0x60 ∷ 0x11 ∷ 0x05 ∷ 0x11 ∷ 0xFF ∷ 7 ∷ 0x4A ∷ 0x44 ∷ 0x01 ∷ 0x00 ∷ 0xA0 ∷ 0xA1 ∷ 0xA2 ∷ 0xA3 ∷ []
unfolding answer sheet sample answering meaning_of to_one numbered encoded bytes_in under step_of step_by judge_of verdict_of is_shut reached_of rules_of level_in level_of memory_read_of
    read_pdu find data_of pduBytes head_bytes low_at seek covers place_of common range_of rule_in walk_rule rest_rule entries_rule bodies_rule entry_rule body_rule body_demands entry_demands
    entry key_of floor body_end start_of reached six_bits first breach splice num_at bytes_of
connected_answered = refl
