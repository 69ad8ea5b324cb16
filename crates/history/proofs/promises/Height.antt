-- `keyless` on the sample sheet: the height, property 51 of object 1, and the keys that protect it.
use Rattle.octets.proofs.Kit.{ℕ, ◌+◌, ◌<◌, ◌≤◌, ◌≡◌, refl, List, reverse, get_or, arith}
use Rattle.octets.specs.Bytes.{num_at}
use Rattle.sheet.specs.{Demand.breach, First.first, Entries.{entry, key_of, floor, body_at, body_end, start_of, reached, six_bits}}
use Rattle.sheet.specs.{Rules.{entry_demands, body_demands, entry_rule, body_rule, entries_rule, bodies_rule, walk_rule, rest_rule, rule_in, verdict_of}, Lookup.{seek, index_of}}
use Rattle.sheet.specs.Head as head
use Rattle.device.{specs.{Events.State, Marked.sample}, proofs.leaves.Octet.octets_by}
use Rattle.events.specs.Events.{Event, run}
use Rattle.history.specs.{Location.{body, counter, key, Place, of_body, of_counter, of_key}, Permit.{index_for, entry_for}, Keeps.{Begins, AllOctets}}
use Rattle.history.specs.{Keyless.{write_level, NotOffered, Protected}, Samples.fresh}
use Rattle.history.proofs.promises.{InOrder.first_state, Keyless.{locked, keyless_run}}

-- the sample is accepted
pub begins : Begins fresh
unfolding sample verdict_of rule_in walk_rule rest_rule entries_rule bodies_rule entry_rule body_rule body_demands entry_demands entry key_of floor body_at body_end start_of reached six_bits first breach num_at
begins = record { octets = octets_by sample refl; accepted = refl }

-- the four bytes of its two elements stand at 64, its count at 46
height_at : (j : ℕ) → j < 4 → Place sample (body 1 51 j) (64 + j)
unfolding sample entry num_at body_at
height_at j h = of_body {j = j} {p = 64 + j} 0 (record { there = omega arith; same_object = refl; same_id = refl }) (omega arith) refl

count_at : (j : ℕ) → j < 2 → Place sample (counter 1 51 j) (46 + j)
unfolding sample entry num_at
count_at j h = of_counter {j = j} {p = 46 + j} 0 (record { there = omega arith; same_object = refl; same_id = refl }) (omega arith) refl

-- their write level is 1
height_level : (j : ℕ) → (write_level sample (body 1 51 j) ≤ 1) × (write_level sample (counter 1 51 j) ≤ 1)
unfolding write_level entry_for index_for index_of seek key_of entry num_at sample
height_level j = (omega arith, omega arith)

module _ (h : List Event) (octets : AllOctets h) (none : NotOffered fresh 1 h) where
  abbrev After : State
  After = run (first_state fresh) (reverse h)

  safe : Protected fresh 1 After
  safe =
      let low : 1 < 3 = omega arith in
      let k = locked 1 low fresh (refl, refl) h none in
      keyless_run 1 low fresh begins (refl, refl) h octets (k 0) (k 1)

  -- AS LONG AS NOBODY OFFERS 11111111 OR 22222222, height and count are as they were, and so are these two keys
  pub height_stays : (j : ℕ) → j < 4 → get_or After.sheet (64 + j) 0 ≡ get_or sample (64 + j) 0
  height_stays j l = safe.bytes (body 1 51 j) (64 + j) (height_at j l) (height_level j).0

  pub count_stays : (j : ℕ) → j < 2 → get_or After.sheet (46 + j) 0 ≡ get_or sample (46 + j) 0
  count_stays j l = safe.bytes (counter 1 51 j) (46 + j) (count_at j l) (height_level j).1

  pub keys_stay : (k j : ℕ) → k ≤ 1 → j < 4 → get_or After.sheet ((head.key k).at + j) 0 ≡ get_or sample ((head.key k).at + j) 0
  unfolding write_level
  keys_stay k j m l =
      safe.bytes (key k j) ((head.key k).at + j) (of_key {l = k} {j = j} {p = (head.key k).at + j} (omega arith) l (omega arith)) m
