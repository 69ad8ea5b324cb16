-- The two services that the rules are at odds about, worked: on the sample sheet as one of edition 2, in programming mode.
use Rattle.octets.proofs.Kit.{ℕ, ◌≡◌, refl, true, false, List, [], ◌∷◌, map}
use Rattle.octets.specs.{Bytes.{num_at, bytes_of}, Splice.splice}
use Rattle.sheet.specs.{Demand.breach, First.first, Head.rules_of, Entries.{entry, key_of, floor, body_end, start_of, reached, six_bits}}
use Rattle.sheet.specs.Rules.{entry_demands, body_demands, entry_rule, body_rule, entries_rule, bodies_rule, walk_rule, rest_rule, rule_in, verdict_of}
use Rattle.sheet.specs.Head as head
use Rattle.pdu.specs.{Table.find, Rules.{low_at, head_bytes}, Read.{read_pdu, data_of}, Write.encoded}
use Rattle.judge.specs.{Session.{level_of, level_in}, declared.Session.Session, Addresses.descriptor_of, Keys.restart_of, Judge.{reached_of, is_shut, judge_of}}
use Rattle.device.specs.{Step.{Step, step_by, step_of}, Marked.{sample, seen}}

-- the sheet under rules n, with those flags
unfoldable pub ruled : ℕ → ℕ → List ℕ
ruled n flags =
    splice (splice sample (head.flags).at (flags ∷ [])) (head.rules).at (n ∷ [])

-- a connection open at level 0, and none
abbrev pub holder : Session
holder = record { opened = true; level = 0 }

abbrev pub nobody : Session
nobody = record { opened = false; level = 3 }

-- a request of two bytes in a mode, with 16 bytes of room
abbrev pub asks : ℕ → ℕ → ℕ → ℕ → Step
asks n mode b0 b1 = step_of 16 (ruled n 3) holder mode 0 (b0 ∷ b1 ∷ [])

-- A RESTART, CONNECTIONLESS: 9 before; under the later rules 1, programming mode cleared, the session closed at 3
pub restarted :
    (asks 0 2 0x03 0x80 ≡ record { outcome = 9; answer = []; session = holder; sheet = ruled 0 3; restarts = false })
    × (asks 1 2 0x03 0x80 ≡ record { outcome = 1; answer = []; session = nobody; sheet = ruled 1 2; restarts = true })
unfolding ruled sample step_of step_by judge_of verdict_of is_shut reached_of rules_of level_in level_of restart_of
    read_pdu find data_of rule_in walk_rule rest_rule entries_rule bodies_rule entry_rule body_rule body_demands entry_demands
    entry key_of floor body_end start_of reached six_bits first breach splice num_at bytes_of
restarted = (refl, refl)

-- in the other modes, and its neighbour 381h: multicast, broadcast, connected, under the rules before and the later
pub restarted_else :
    map (λ (n : ℕ). seen (asks n 0 0x03 0x80) ∷ seen (asks n 1 0x03 0x80) ∷ seen (asks n 3 0x03 0x80) ∷ seen (asks n 2 0x03 0x81) ∷ []) (0 ∷ 1 ∷ [])
    ≡ map (λ (n : ℕ). map (λ (m : ℕ). record { answer = []; number = m }) (9 ∷ 9 ∷ 1 ∷ 8 ∷ [])) (0 ∷ 1 ∷ [])
unfolding ruled sample step_of step_by judge_of verdict_of is_shut reached_of rules_of level_in level_of restart_of
    read_pdu find data_of rule_in walk_rule rest_rule entries_rule bodies_rule entry_rule body_rule body_demands entry_demands
    entry key_of floor body_end start_of reached six_bits first breach splice num_at bytes_of
restarted_else = refl

-- DESCRIPTOR TYPES 0, 2 AND 63: the mask version, and then 2 and no answer before, 11 and 037Fh under the later rules
pub described :
    (map (λ (t : ℕ). seen (asks 0 2 0x03 t)) (0 ∷ 2 ∷ 63 ∷ [])
    ≡ record { answer = 0x03 ∷ 0x40 ∷ 0x07 ∷ 0xB0 ∷ []; number = 0 } ∷ record { answer = []; number = 2 } ∷ record { answer = []; number = 2 } ∷ [])
    × (map (λ (t : ℕ). seen (asks 1 2 0x03 t)) (0 ∷ 2 ∷ 63 ∷ [])
    ≡ record { answer = 0x03 ∷ 0x40 ∷ 0x07 ∷ 0xB0 ∷ []; number = 0 } ∷ record { answer = 0x03 ∷ 0x7F ∷ []; number = 11 } ∷ record { answer = 0x03 ∷ 0x7F ∷ []; number = 11 } ∷ [])
unfolding ruled sample step_of step_by judge_of verdict_of is_shut reached_of rules_of level_in level_of descriptor_of
    read_pdu find data_of encoded head_bytes low_at rule_in walk_rule rest_rule entries_rule bodies_rule entry_rule body_rule body_demands entry_demands
    entry key_of floor body_end start_of reached six_bits first breach splice num_at bytes_of
described = (refl, refl)
