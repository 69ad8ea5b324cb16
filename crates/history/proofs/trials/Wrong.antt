-- WRONG DEVICES, each with a short run (`Runs`) on which it shows: trials, to hold against demand 3 (`wrongs_refuted`).
use Rattle.octets.proofs.Kit.{ℕ, ◌+◌, ◌*◌, ◌-◌, ◌/◌, List, [], ◌∷◌, Bool, true, false, cond, ◌&&◌, ◌||◌, get_or, take, drop, leb, eqb}
use Rattle.octets.specs.{Bytes.{num_at, bytes_of}, Splice.splice}
use Rattle.sheet.specs.{Kind.properties, Layout.◌of◌, Entries.{place, entry}}
use Rattle.sheet.specs.Head as head
use Rattle.sheet.specs.Property as property
use Rattle.judge.specs.declared.Session.{Session}
use Rattle.device.specs.{Sessions.{closed, fresh_of, with_session, session_of}, declared.Sessions.Sessions, Events.{Effect, State, connecting, requesting}}
use Rattle.versions.specs.{Store.{is_kept, version_in}, Rules.is_store, Settings.restored, Restoring.at_zero, Example.once}
use Rattle.events.specs.Events.{Event, connect, disconnect, button, request, restore, restoring, event_of}
use Rattle.history.specs.{Wish.{Wish, change, write_memory, write_bits, write_property, write_key, restore_all, offer_key, restart, other, nothing, asks}, Permit.{index_for, entry_for}}
use Rattle.history.specs.{History.{First, wished, is_restart, permitted}, Keeps.{Device, state_after}, Rightful.ours, Samples.{fresh, fresh_pump}}
use Rattle.history.proofs.trials.Runs.{offering, offering_on, first_write, again_write, second_write, both_bytes, new_key0, user_write, across_write, element_write, clear, jump, restarting}
use Rattle.history.proofs.trials.Runs.{given, other_levels, other_height, read_only, fresh_read_only, closed_at_zero, authorized, both_on}

-- an effect with another sheet, and with other sessions
abbrev pub with_sheet : Effect → List ℕ → Effect
with_sheet r s = record { outcome = r.outcome; answer = r.answer; sessions = r.sessions; sheet = s }

abbrev pub with_sessions : Effect → Sessions → Effect
with_sessions r q = record { outcome = r.outcome; answer = r.answer; sessions = q; sheet = r.sheet }

-- sessions r with other levels, each from the session that there was in q and the one that is in r
abbrev pub levelled : (Session → Session → ℕ) → Sessions → Sessions → Sessions
levelled l q r =
    record {
      first = record { opened = r.first.opened; level = l q.first r.first };
      second = record { opened = r.second.opened; level = l q.second r.second };
    }

-- a state whose sessions are open at a level
abbrev pub at : State → ℕ → State
at x l =
    let q : Session = record { opened = true; level = l } in record { sessions = record { first = q; second = q }; sheet = x.sheet }

-- A DEVICE BY WHAT IT DOES with a connect, with a request and with a restore; with all else it does what ours does
abbrev pub doing :
    (State → ℕ → Effect) → (State → ℕ → ℕ → ℕ → List ℕ → List ℕ → Effect) → (State → ℕ → ℕ → List ℕ → Effect) → Device
doing connects requests restores f h x (connect c) = connects x c
doing connects requests restores f h x (disconnect c) = event_of x (disconnect c)
doing connects requests restores f h x (button on) = event_of x (button on)
doing connects requests restores f h x (request mode c g a out) = requests x mode c g a out
doing connects requests restores f h x (restore c n st) = restores x c n st

abbrev pub on_requests : (State → ℕ → ℕ → ℕ → List ℕ → List ℕ → Effect) → Device
on_requests requests = doing connecting requests restoring

abbrev pub on_restores : (State → ℕ → ℕ → List ℕ → Effect) → Device
on_restores restores = doing connecting requesting restores

-- one that changes what ours makes of a request, and one that acts on requests as if the levels were others
abbrev pub changing : (State → Event → Effect → Effect) → Device
changing k = on_requests (λ x mode c g a out. k x (request mode c g a out) (requesting x mode c g a out))

abbrev pub acts_at : (ℕ → ℕ) → Device
acts_at taking =
    changing
    (λ x e r.
    let w = event_of record { sessions = levelled (λ p q. taking q.level) x.sessions x.sessions; sheet = x.sheet } e in
    record { outcome = w.outcome; answer = w.answer; sessions = r.sessions; sheet = w.sheet })

-- ONE THAT REFUSES EVERYTHING
abbrev pub refuses_all : Device
refuses_all =
    changing (λ x e r. record { outcome = 8; answer = []; sessions = x.sessions; sheet = x.sheet })

-- ONE THAT ANSWERS AND STORES NOTHING
abbrev pub stores_nothing : Device
stores_nothing = changing (λ x e r. with_sheet r x.sheet)

-- ONE THAT STORES THE FIRST WRITE AND AFTERWARDS ONLY ANSWERS: it remembers whether there was one
abbrev pub wrote : First → List Event → Bool
wrote f [] = false
wrote f (e ∷ h) = wrote f h || permitted f h e

abbrev pub stores_once : Device
stores_once f h x e = let r = event_of x e in with_sheet r (cond (wrote f h) x.sheet r.sheet)

-- ONE THAT STORES AN EVENT LATE: the sheet is what ours was before this event
abbrev pub stores_late : Device
stores_late f h x e = with_sheet (event_of (state_after ours f h) e) (state_after ours f h).sheet

-- a device that changes the sheet after a write to elements from z on of the property with an object and id, x being the sheet before it
abbrev pub written : (List ℕ → List ℕ → ℕ → ℕ → ℕ → List ℕ) → List ℕ → List ℕ → Wish → List ℕ
written c x s (change (write_memory m n a)) = s
written c x s (change (write_bits n a)) = s
written c x s (change (write_property object id n z)) = c x s object id z
written c x s (change (write_key level number)) = s
written c x s (change restore_all) = s
written c x s (offer_key number) = s
written c x s restart = s
written c x s (other o) = s
written c x s nothing = s

abbrev pub on_elements : (List ℕ → List ℕ → ℕ → ℕ → ℕ → List ℕ) → Device
on_elements c =
    changing
    (λ x e r. with_sheet r (cond (leb r.outcome 1) (written c x.sheet r.sheet (wished e)) r.sheet))

-- ONE THAT INVENTS THE COUNT: it stores the maximum
abbrev pub invents_count : Device
invents_count =
    on_elements
    (λ x s object id z.
    splice s (place s properties (index_for s object id) + (property.count).at)
    (bytes_of 2 (property.maximum of entry_for s object id)))

-- ONE THAT LEAVES THE JUMPED ELEMENTS: from the count on, what stood before element z still stands there
abbrev pub leaves_jumped : Device
leaves_jumped =
    on_elements
    (λ x s object id z.
    let e = entry_for x object id in
    let o = property.offset of e + property.count of e * property.element of e in
    splice s o (take ((z - 1 - property.count of e) * property.element of e) (drop o x)))

-- ONE THAT STORES BEFORE IT JUDGES: the sheet is stored to as if at level 0, and then judged as ours
abbrev pub stores_first : Device
stores_first =
    changing
    (λ x e r.
    let w = event_of (at x 0) e in
    with_sheet (event_of record { sessions = x.sessions; sheet = w.sheet } e) w.sheet)

-- THE ACCIDENT: it answers the refusal, 11, and stores, as if the request had come connected at level 0
abbrev pub denies_and_stores : Device
denies_and_stores =
    on_requests
    (λ x mode c g a out.
    let r = requesting x mode c g a out in
    with_sheet r (cond (eqb r.outcome 11) (requesting (at x 0) 3 0 g a out).sheet r.sheet))

-- ONE THAT KEEPS THE LEVEL AFTER A WRONG KEY: while the session is open, only a wrong key makes the level 3
abbrev pub keeps_level : Device
keeps_level =
    changing
    (λ x e r.
    with_sessions r
    (levelled (λ p q. cond (q.opened && eqb q.level 3) p.level q.level) x.sessions r.sessions))

-- ONE THAT KEEPS THE LEVEL OVER A CONNECT
abbrev pub keeps_over : Device
keeps_over =
    doing
    (λ x c. let r = connecting x c in with_sessions r (levelled (λ p q. p.level) x.sessions r.sessions))
    requesting restoring

-- ONE WITH ONE LEVEL FOR BOTH CONNECTIONS: the second has that of the first
abbrev pub one_level : Device
one_level f h x e =
    let r = event_of x e in with_sessions r (levelled (λ p q. r.sessions.first.level) x.sessions r.sessions)

-- ONE WHOSE RESTART CLOSES ITS OWN CONNECTION ALONE
abbrev pub closes_own : Device
closes_own =
    on_requests
    (λ x mode c g a out.
    let r = requesting x mode c g a out in
    with_sessions r
    (cond (is_restart (asks a) && leb r.outcome 1) (with_session x.sessions c closed) r.sessions))

-- ONE WITH < FOR ≤: it acts one level too weak
abbrev pub strict : Device
strict = acts_at (λ l. l + 1)

-- ONE THAT COMPARES LEVELS THE WRONG WAY ROUND
abbrev pub turned : Device
turned = acts_at (λ l. 3 - l)

-- ONE THAT LETS A KEY HOLDER OF LEVEL 1 SET KEY 0
abbrev pub sets_key0 : Device
sets_key0 = acts_at (λ l. cond (eqb l 1) 0 l)

-- ONE THAT LOSES THE SECOND OF TWO BYTES: the byte of address 0101, position 61, never changes
abbrev pub loses_second : Device
loses_second = changing (λ x e r. with_sheet r (splice r.sheet 61 (get_or x.sheet 61 0 ∷ [])))

-- ONE THAT IGNORES A KEY WRITE OF LEVEL 0: it answers, and puts the old key back
abbrev pub ignores_key0 : Device
ignores_key0 =
    changing
    (λ x e r. with_sheet r (splice r.sheet (head.key 0).at (bytes_of 4 (head.key 0 of x.sheet))))

-- ONE THAT KEEPS THE ADDRESS IN ONE BYTE: the number is right, but what stands at 17 is no byte
abbrev pub address_in_one : Device
address_in_one f h x e =
    let r = event_of x e in with_sheet r (splice r.sheet (head.address).at (0 ∷ head.address of r.sheet ∷ []))

-- ONE THAT SERVES USER MEMORY FROM DEVICE MEMORY, at the same address: a UserMemory_Write is carried out as a Memory_Write
abbrev pub as_memory_write : List ℕ → List ℕ
as_memory_write a = cond (eqb (num_at a 0 2) 0x2C2) (0x02 ∷ (0x80 + get_or a 2 0) ∷ drop 3 a) a

abbrev pub user_from_device : Device
user_from_device =
    on_requests
    (λ x mode c g a out.
    with_sheet (requesting x mode c g a out) (requesting x mode c g (as_memory_write a) out).sheet)

-- ONE THAT TAKES THE LEVELS OF THE FIRST REGION FOR ALL: a UserMemory_Write is stored whole if one of its first byte alone would be
abbrev pub first_byte : List ℕ → List ℕ
first_byte a = cond (eqb (num_at a 0 2) 0x2C2) (0x02 ∷ 0xC2 ∷ 0x01 ∷ take 3 (drop 3 a)) a

abbrev pub first_region_decides : Device
first_region_decides =
    on_requests
    (λ x mode c g a out.
    let r = requesting x mode c g a out in
    with_sheet r
    (cond (leb (requesting x mode c g (first_byte a) out).outcome 1) (requesting (at x 0) mode c g a out).sheet r.sheet))

-- ONE THAT RESTORES AT LEVEL 1 TOO
abbrev pub restores_at_one : Device
restores_at_one =
    on_restores
    (λ x c n st.
    let q = levelled (λ p q. cond (leb q.level 1) 0 q.level) x.sessions x.sessions in
    with_sessions (restoring record { sessions = q; sheet = x.sheet } c n st) x.sessions)

-- ONE WHOSE RESTORE LEAVES THE COUNT of the first property
abbrev pub leaves_count : Device
leaves_count =
    on_restores
    (λ x c n st.
    let r = restoring x c n st in
    with_sheet r
    (splice r.sheet (place x.sheet properties 0 + (property.count).at) (bytes_of 2 (property.count of entry x.sheet properties 0))))

-- ONE THAT RESTORES WHAT COULD BE WRITTEN ALONE: nothing if the first property is not writable
abbrev pub restores_writable : Device
restores_writable =
    on_restores
    (λ x c n st.
    let r = restoring x c n st in
    with_sheet r (cond (eqb (property.typ of entry x.sheet properties 0 / 128) 1) r.sheet x.sheet))

-- ONE THAT STORES BEFORE IT JUDGES THE ENTRIES
abbrev pub restores_first : Device
restores_first =
    on_restores
    (λ x c n st.
    let r = restoring x c n st in
    with_sheet r
    (cond (is_store st && (is_kept st n && at_zero (session_of x.sessions c))) (restored x.sheet (version_in st n)) r.sheet))

-- ONE THAT JUDGES KEYS AS THEY WERE IN THE FIRST SHEET
abbrev pub first_keys : Device
first_keys f h x e =
    let r = event_of x e in
    let w = event_of record { sessions = x.sessions; sheet = splice x.sheet 18 (take 12 (drop 18 f.sheet)) } e in
    with_sessions r w.sessions

-- ONE WHOSE RESTORE GIVES BACK THE FIRST KEYS TOO
abbrev pub restores_keys : Device
restores_keys f =
    on_restores
    (λ x c n st.
    let r = restoring x c n st in
    with_sheet r (cond (eqb r.outcome 1) (splice r.sheet 18 (take 12 (drop 18 f.sheet))) r.sheet))
    f

-- ONE WHOSE RESTORE GIVES UP THE LEVEL
abbrev pub restore_gives_up : Device
restore_gives_up =
    on_restores
    (λ x c n st. let r = restoring x c n st in with_sessions r (levelled (λ p q. 3) x.sessions r.sessions))

-- ONE WHOSE DISCONNECT CLOSES BOTH CONNECTIONS
abbrev pub disconnects_both : Device
disconnects_both f h x (connect c) = event_of x (connect c)
disconnects_both f h x (disconnect c) = with_sessions (event_of x (disconnect c)) fresh_of
disconnects_both f h x (button on) = event_of x (button on)
disconnects_both f h x (request mode c g a out) = event_of x (request mode c g a out)
disconnects_both f h x (restore c n st) = event_of x (restore c n st)

-- ONE WITH ONE LEVEL FOR BOTH CONNECTIONS: the first has that of the second
abbrev pub raises_other : Device
raises_other f h x e =
    let r = event_of x e in with_sessions r (levelled (λ p q. r.sessions.second.level) x.sessions r.sessions)

-- ONE THAT STORES EACH BYTE ONCE: what is no more the first content stays
abbrev pub keeps_first : List ℕ → List ℕ → List ℕ → List ℕ
keeps_first [] s t = []
keeps_first (x ∷ f) s [] = []
keeps_first (x ∷ f) [] (z ∷ t) = []
keeps_first (x ∷ f) (y ∷ s) (z ∷ t) = cond (eqb x y) z y ∷ keeps_first f s t

abbrev pub stores_each_once : Device
stores_each_once f h x e = let r = event_of x e in with_sheet r (keeps_first f.sheet x.sheet r.sheet)

-- ONE THAT RESTORES ON A CONNECTION THAT IS CLOSED, if its level is 0
abbrev pub restores_closed : Device
restores_closed =
    on_restores
    (λ x c n st.
    let p : Session = record { opened = true; level = x.sessions.first.level } in
    let q : Sessions = record { first = p; second = x.sessions.second } in
    with_sessions (restoring record { sessions = q; sheet = x.sheet } c n st) x.sessions)

-- ONE THAT RESTORES BY THE RIGHT OF THE OTHER CONNECTION
abbrev pub restores_by_other : Device
restores_by_other = on_restores (λ x c n st. restoring x (1 - c) n st)

-- a device, and a run after which its state is not ours; the newest event first
pub record Witness : Type 0 where
  pub device : Device
  pub first : First
  pub events : List Event

abbrev pub shows : Device → List Event → Witness
shows d h = record { device = d; first = fresh; events = h }

-- THE WRONG DEVICES
abbrev pub wrongs : List Witness
wrongs =
    shows refuses_all (first_write ∷ authorized) ∷
    shows stores_nothing (first_write ∷ authorized) ∷
    shows stores_once (second_write ∷ first_write ∷ authorized) ∷
    shows stores_late (first_write ∷ authorized) ∷
    shows invents_count (element_write 3 ∷ authorized) ∷
    shows leaves_jumped (jump ∷ clear ∷ authorized) ∷
    shows stores_first (first_write ∷ connect 0 ∷ []) ∷
    shows denies_and_stores (element_write 2 ∷ []) ∷
    shows keeps_level (offering 0x33 ∷ authorized) ∷
    shows keeps_over (connect 0 ∷ authorized) ∷
    shows one_level both_on ∷ shows closes_own (restarting ∷ both_on) ∷
    shows strict (first_write ∷ offering 0xFF ∷ connect 0 ∷ []) ∷
    shows turned (first_write ∷ authorized) ∷
    shows sets_key0 (new_key0 ∷ offering 0x22 ∷ connect 0 ∷ []) ∷
    shows loses_second (both_bytes ∷ authorized) ∷ shows ignores_key0 (new_key0 ∷ authorized) ∷ shows address_in_one (connect 0 ∷ []) ∷
    record { device = user_from_device; first = fresh_pump; events = user_write ∷ authorized } ∷
    record { device = first_region_decides; first = fresh_pump; events = across_write ∷ offering 0x22 ∷ connect 0 ∷ [] } ∷
    shows restores_at_one (given once ∷ element_write 3 ∷ offering 0x22 ∷ connect 0 ∷ []) ∷
    shows leaves_count (given once ∷ clear ∷ authorized) ∷
    record { device = restores_writable; first = fresh_read_only; events = given read_only ∷ authorized } ∷
    shows restores_first (given other_levels ∷ authorized) ∷
    shows first_keys (offering 0x11 ∷ new_key0 ∷ authorized) ∷
    shows restores_keys (given once ∷ new_key0 ∷ authorized) ∷
    shows restore_gives_up (given once ∷ authorized) ∷
    shows disconnects_both (disconnect 1 ∷ both_on) ∷
    shows raises_other (offering_on 1 0x11 ∷ connect 1 ∷ connect 0 ∷ []) ∷
    shows stores_each_once (again_write ∷ first_write ∷ authorized) ∷
    record { device = restores_closed; first = closed_at_zero; events = given other_height ∷ [] } ∷
    shows restores_by_other (restore 1 1 other_height ∷ both_on) ∷ []
