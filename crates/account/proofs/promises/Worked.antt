-- Worked: a morning on the sample sheet, and the marks that it leaves. Numbers that begin elsewhere, in code and definitions at once, would be seen here alone. Assumes nothing.
use Rattle.octets.proofs.Kit.{ℕ, ◌≡◌, refl, true, false, List, [], ◌∷◌, map, replicate}
use Rattle.octets.specs.{Bytes.{num_at, bytes_of}, Splice.splice}
use Rattle.sheet.specs.{Demand.breach, First.first, Head.rules_of, Entries.{entry, key_of, floor, body_end, start_of, reached, six_bits}}
use Rattle.sheet.specs.{Rules.{entry_demands, body_demands, entry_rule, body_rule, entries_rule, bodies_rule, walk_rule, rest_rule, rule_in, verdict_of}, Lookup.{seek, index_of}}
use Rattle.pdu.specs.{Table.find, Rules.{low_at, four_at, twelve_at, head_bytes}, Read.{read_pdu, data_of}, Write.encoded}
use Rattle.judge.specs.{Session.{level_of, level_in}, declared.Session.Session, Properties.{read_in, property_read_of, write_in, property_write_of}, Keys.{grant_of, authorize_of}}
use Rattle.judge.specs.Judge.{reached_of, is_shut, judge_of}
use Rattle.device.specs.{Step.{step_by, step_of}, Marked.sample, Events.{State, pressed, button_outcome, button_sheet, request_of}}
use Rattle.events.specs.Events.{Event, connect, button, request, event_of, after}
use Rattle.account.specs.{Account.{byte_at, level_on}, Marks.mark_after}

abbrev shut : Session
shut = record { opened = false; level = 3 }

abbrev start : State
start = record { sessions = record { first = shut; second = shut }; sheet = sample }

-- on a connection, with an answer buffer of 16 bytes
abbrev on : ℕ → List ℕ → Event
on c a = request 3 c 0 a (replicate 16 0)

abbrev height : ℕ → ℕ → List ℕ
height high low = 0x03 ∷ 0xD7 ∷ 1 ∷ 51 ∷ 0x10 ∷ 1 ∷ high ∷ low ∷ []

-- the technician connects, offers the key of level 1, and sets the height from 03E8h to 03FCh, twice; a laptop connects and asks for 0280h in vain; somebody presses the button
unfoldable pub morning : List Event
morning =
    connect 0 ∷
    on 0 (0x03 ∷ 0xD1 ∷ 0 ∷ 0x22 ∷ 0x22 ∷ 0x22 ∷ 0x22 ∷ []) ∷
    on 0 (height 0x03 0xFC) ∷
    on 0 (height 0x03 0xFC) ∷
    connect 1 ∷
    on 1 (height 0x02 0x80) ∷
    button true ∷
    []

-- THE MARKS: of the flags (14), of the height's two bytes (64, 65) and of the byte behind it; then of both levels
pub morning_marked :
    (map (λ (p : ℕ). mark_after (byte_at p) 0 start morning 0) (14 ∷ 64 ∷ 65 ∷ 66 ∷ []) ≡ 7 ∷ 0 ∷ 3 ∷ 0 ∷ [])
    × (map (λ (c : ℕ). mark_after (level_on c) 0 start morning 0) (0 ∷ 1 ∷ []) ≡ 2 ∷ 0 ∷ [])
unfolding morning mark_after after event_of request_of pressed button_outcome button_sheet sample step_of step_by judge_of verdict_of is_shut reached_of rules_of level_in level_of
    read_in property_read_of write_in property_write_of grant_of authorize_of read_pdu find data_of encoded head_bytes low_at four_at twelve_at
    seek index_of rule_in walk_rule rest_rule entries_rule bodies_rule entry_rule body_rule body_demands entry_demands
    entry key_of floor body_end start_of reached six_bits first breach splice num_at bytes_of
morning_marked = (refl, refl)
