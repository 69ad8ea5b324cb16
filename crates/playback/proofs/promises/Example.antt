-- A TRACE BYTE BY BYTE: connect on connection 1, a request on it, the button on and off, a disconnect on connection 0. Assumes nothing.
use Rattle.octets.proofs.Kit.{ℕ, ◌≡◌, refl, true, false, List, [], ◌∷◌}
use Rattle.octets.specs.{Bytes.{num_at, bytes_of}, Splice.splice}
use Rattle.sheet.specs.{Demand.breach, First.first, Head.rules_of, Entries.{entry, key_of, floor, body_end, start_of, reached as reachedIn, six_bits}}
use Rattle.sheet.specs.Rules.{entry_demands, body_demands, entry_rule, body_rule, entries_rule, bodies_rule, walk_rule as sheetWalk, rest_rule, rule_in, verdict_of}
use Rattle.pdu.specs.{Table.find, Rules.{low_at, head_bytes}, Read.{read_pdu, data_of}, Write.encoded}
use Rattle.judge.specs.{Session.{level_of, level_in}, Addresses.descriptor_of, Judge.{reached_of, is_shut, judge_of}}
use Rattle.device.specs.{Step.{step_by, step_of}, Marked.sample, Sessions.fresh_of, Events.{pressed, button_outcome, button_sheet, request_of}}
use Rattle.events.specs.Events.{connect, disconnect, button, request, event_of, after}
use Rattle.playback.specs.{Trace.{blank, entry_of, event_in, events_from, trace_of}, Playing.{at, line_of, log_of}, Rules.{reached, head_rule, event_rule, walk_rule, refusal_of, Playable}}

pub trace : List ℕ
trace =
    0x00 ∷ 0x05 ∷
    0x01 ∷ 0x1A ∷ 0x00 ∷ 0x00 ∷ 0x00 ∷ 0x2A ∷ 0x00 ∷ 0x00 ∷
    0x00 ∷ 0x13 ∷ 0x12 ∷ 0x34 ∷ 0x00 ∷ 0x2A ∷ 0x02 ∷ 0x00 ∷
    0x03 ∷ 0x00 ∷ 0x00 ∷ 0x00 ∷ 0x00 ∷ 0x2C ∷ 0x00 ∷ 0x00 ∷
    0x04 ∷ 0x00 ∷ 0x00 ∷ 0x00 ∷ 0x00 ∷ 0x2C ∷ 0x00 ∷ 0x00 ∷
    0x02 ∷ 0x0F ∷ 0x00 ∷ 0x00 ∷ 0x00 ∷ 0x2C ∷ 0x00 ∷ 0x00 ∷
    0x03 ∷ 0x00 ∷ []

pub accepted : Playable trace
unfolding trace refusal_of head_rule walk_rule event_rule breach first reached entry_of num_at
accepted = refl

pub says : trace_of trace ≡ connect 1 ∷ request 3 1 0x1234 (3 ∷ 0 ∷ []) blank ∷ button true ∷ button false ∷ disconnect 0 ∷ []
unfolding trace trace_of events_from event_in entry_of num_at
says = refl

-- ITS LOG on the sample sheet, from fresh sessions: outcome, count, answer and zeros
pub logs :
    log_of (at fresh_of sample) (connect 1 ∷ request 3 1 0x1234 (3 ∷ 0 ∷ []) (0 ∷ 0 ∷ 0 ∷ 0 ∷ 0 ∷ 0 ∷ 0 ∷ 0 ∷ 0 ∷ 0 ∷ 0 ∷ 0 ∷ 0 ∷ 0 ∷ 0 ∷ 0 ∷ []) ∷ button true ∷ button false ∷ disconnect 0 ∷ [])
    ≡ 1 ∷ 0 ∷ 0 ∷ 0 ∷ 0 ∷ 0 ∷ 0 ∷ 0 ∷ 0 ∷ 0 ∷ 0 ∷ 0 ∷ 0 ∷ 0 ∷ 0 ∷ 0 ∷ 0 ∷ 0 ∷
    0 ∷ 4 ∷ 0x03 ∷ 0x40 ∷ 0x07 ∷ 0xB0 ∷ 0 ∷ 0 ∷ 0 ∷ 0 ∷ 0 ∷ 0 ∷ 0 ∷ 0 ∷ 0 ∷ 0 ∷ 0 ∷ 0 ∷
    1 ∷ 0 ∷ 0 ∷ 0 ∷ 0 ∷ 0 ∷ 0 ∷ 0 ∷ 0 ∷ 0 ∷ 0 ∷ 0 ∷ 0 ∷ 0 ∷ 0 ∷ 0 ∷ 0 ∷ 0 ∷
    1 ∷ 0 ∷ 0 ∷ 0 ∷ 0 ∷ 0 ∷ 0 ∷ 0 ∷ 0 ∷ 0 ∷ 0 ∷ 0 ∷ 0 ∷ 0 ∷ 0 ∷ 0 ∷ 0 ∷ 0 ∷
    1 ∷ 0 ∷ 0 ∷ 0 ∷ 0 ∷ 0 ∷ 0 ∷ 0 ∷ 0 ∷ 0 ∷ 0 ∷ 0 ∷ 0 ∷ 0 ∷ 0 ∷ 0 ∷ 0 ∷ 0 ∷ []
unfolding log_of line_of after event_of request_of pressed button_outcome button_sheet sample step_of step_by judge_of verdict_of is_shut reached_of rules_of level_in level_of descriptor_of
    read_pdu find data_of encoded head_bytes low_at rule_in sheetWalk rest_rule entries_rule bodies_rule entry_rule body_rule body_demands entry_demands
    entry key_of floor body_end start_of reachedIn six_bits first breach splice num_at bytes_of
logs = refl
