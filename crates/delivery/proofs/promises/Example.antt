-- On the sample sheet, whose one group object 0801h has one byte: the byte 21 is stored and told, a switch is refused.
use Rattle.octets.proofs.Kit.{ℕ, ◌≡◌, refl, true, List, [], ◌∷◌, arith}
use Rattle.octets.specs.Bytes.{num_at, bytes_of}
use Rattle.sheet.specs.{Demand.breach, First.first, Entries.{entry, key_of, floor, body_end, start_of, reached}}
use Rattle.sheet.specs.Rules.{entry_demands, body_demands, entry_rule, body_rule, entries_rule, bodies_rule, walk_rule, rest_rule, rule_in, verdict_of, Accepted}
use Rattle.sheet.specs.Entries as entries
use Rattle.pdu.specs.{Table.find, Rules.{low_at, head_bytes}, Read.read_pdu, Write.encoded, declared.Pdu.TheVariants.GroupValueWrite}
use Rattle.points.specs.{Point.point_bytes, declared.Datapoint.TheVariants.{Switch, Byte}}
use Rattle.judge.specs.Session.{multicast}
use Rattle.values.specs.Value.{six_bits, value_data}
use Rattle.device.{specs.{Octets.Octets, Asked.{Asked, quiet}, Sessions.closed, GroupsDue.Brings, Demand2.done, Marked.sample}, proofs.{leaves.Octet.octets_by, promises.Rightly.right}}
use Rattle.delivery.specs.Delivery.{Sends, Flagged, Suits, Delivered, Asks, Told}
use Rattle.delivery.proofs.promises.Deliveries.{unsuited, delivered_ours, told_ours}

-- a request to the group object, and to one that meets a sheet
abbrev to : List ℕ → List ℕ → Asked
to s a = record { room = 16; sheet = s; session = closed; mode = multicast; group = 0x0801; apdu = a }

octets : Octets sample
unfolding sample
octets = octets_by sample refl

accepted : Accepted sample
unfolding sample verdict_of rule_in walk_rule rest_rule entries_rule bodies_rule entry_rule body_rule body_demands entry_demands entry key_of floor body_end start_of reached entries.six_bits first breach num_at
accepted = refl

-- it may be read and written
object : (a : List ℕ) → Flagged (to sample a) 0 2
unfolding sample entry num_at
object a = record { object = record { there = omega arith; address = refl }; flag = refl }

-- the byte 21
abbrev twenty_one : Asked
twenty_one = to sample (0x00 ∷ 0x80 ∷ 0x15 ∷ [])

sent : Sends twenty_one (Byte 21) (GroupValueWrite 0) 2
unfolding encoded head_bytes bytes_of value_data point_bytes six_bits
sent = record { brings = Brings.write 0; apdu = refl; mode = refl; buffer = omega arith; octets = octets; accepted = accepted }

suits : Suits twenty_one 0 (Byte 21)
unfolding sample entry num_at
suits = record { code = refl; typed = omega arith; writable = refl }

pub example_delivered : Delivered twenty_one (Byte 21) (done twenty_one)
example_delivered = delivered_ours sent (object _) suits

-- a read that follows
abbrev question : Asked
question = to (done twenty_one).sheet (0x00 ∷ 0x00 ∷ [])

asks : Asks twenty_one question (done twenty_one)
unfolding read_pdu find low_at num_at
asks = record { reads = refl; octets = octets_by question.apdu refl; mode = refl; address = refl; buffer = omega arith; sheet = refl }

pub example_told : Told question (Byte 21) (done question)
unfolding sample entry num_at
example_told = told_ours sent (object _) suits question asks refl

-- a switch
abbrev switched : Asked
switched = to sample (0x00 ∷ 0x81 ∷ [])

sent_switch : Sends switched (Switch true) (GroupValueWrite 1) 2
unfolding encoded head_bytes bytes_of value_data six_bits
sent_switch = record { brings = Brings.write 1; apdu = refl; mode = refl; buffer = omega arith; octets = octets; accepted = accepted }

pub example_refused : done switched ≡ quiet switched 10
unfolding sample entry num_at
example_refused = unsuited sent_switch (object _) (done switched) (right switched octets (octets_by switched.apdu refl)) (λ e. omega (arith, e))
