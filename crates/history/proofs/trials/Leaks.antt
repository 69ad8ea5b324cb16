-- WRONG DEVICES in which one tool can tell what the other does: trials, to hold against isolation (`LeaksRefuted`).
use Rattle.octets.proofs.Kit.{ℕ, ◌+◌, ◌-◌, List, [], ◌∷◌, ◌++◌, Bool, true, false, cond, ◌&&◌, take, eqb}
use Rattle.octets.specs.Splice.{splice}
use Rattle.device.specs.{Sessions.session_of, Events.requesting}
use Rattle.versions.specs.Example.{once}
use Rattle.events.specs.Events.{Event, connect, disconnect, button, request, restore, event_of}
use Rattle.history.specs.{Wish.{Wish, change, offer_key, restart, other, nothing, asks}, Keeps.Device}
use Rattle.history.proofs.trials.{Runs.{buffer, offering_on}, Wrong.{with_sheet, with_sessions, levelled, on_requests}}

-- ONE WHOSE ANSWERS SHOW THE LEVEL OF THE OTHER CONNECTION, in one more byte
abbrev pub shows_level : Device
shows_level =
    on_requests
    (λ x mode c g a out.
    let r = requesting x mode c g a out in
    record {
      outcome = r.outcome;
      answer = r.answer ++ ((session_of x.sessions (1 - c)).level ∷ []);
      sessions = r.sessions;
      sheet = r.sheet;
    })

abbrev pub is_offer : Wish → Bool
is_offer (change c) = false
is_offer (offer_key number) = true
is_offer restart = false
is_offer (other o) = false
is_offer nothing = false

-- ONE IN WHICH A WRONG KEY TAKES THE LEVEL OF BOTH CONNECTIONS
abbrev pub lowers_both : Device
lowers_both =
    on_requests
    (λ x mode c g a out.
    let r = requesting x mode c g a out in
    with_sessions r
    (cond (is_offer (asks a) && eqb (session_of r.sessions c).level 3) (levelled (λ p q. 3) x.sessions r.sessions)
    r.sessions))

-- what the tool on connection 1 sends in one of two runs: connected, a key offered
abbrev pub offered_on1 : ℕ → List Event → List Event
offered_on1 b h = offering_on 1 b ∷ connect 1 ∷ h

-- how many events of a history are of a kind: requests in a mode, disconnects, restores
abbrev pub how_many : (Event → Bool) → List Event → ℕ
how_many p [] = 0
how_many p (e ∷ h) = cond (p e) (how_many p h + 1) (how_many p h)

abbrev pub in_mode : ℕ → Event → Bool
in_mode m (connect c) = false
in_mode m (disconnect c) = false
in_mode m (button on) = false
in_mode m (request mode c g a out) = eqb mode m
in_mode m (restore c n st) = false

abbrev pub is_disconnect : Event → Bool
is_disconnect (connect c) = false
is_disconnect (disconnect c) = true
is_disconnect (button on) = false
is_disconnect (request mode c g a out) = false
is_disconnect (restore c n st) = false

abbrev pub is_restore : Event → Bool
is_restore (connect c) = false
is_restore (disconnect c) = false
is_restore (button on) = false
is_restore (request mode c g a out) = false
is_restore (restore c n st) = true

-- ONES WHOSE ANSWERS SHOW HOW MANY EVENTS OF A KIND CAME, whoever sent them, in one more byte
abbrev pub showing : (Event → Bool) → Device
showing p f h x e =
    let r = event_of x e in
    record { outcome = r.outcome; answer = r.answer ++ (how_many p h ∷ []); sessions = r.sessions; sheet = r.sheet }

-- ONE WHOSE ANSWERS SHOW WHAT THE BUFFER HELD, in one more byte
abbrev pub shows_buffer : Device
shows_buffer =
    on_requests
    (λ x mode c g a out.
    let r = requesting x mode c g a out in
    record { outcome = r.outcome; answer = r.answer ++ take 1 out; sessions = r.sessions; sheet = r.sheet })

-- ONE THAT STORES WHEN A CONNECTION IS CLOSED: 07 to the height's high byte
abbrev pub stores_on_close : Device
stores_on_close f h x (connect c) = event_of x (connect c)
stores_on_close f h x (disconnect c) = with_sheet (event_of x (disconnect c)) (splice x.sheet 64 (0x07 ∷ []))
stores_on_close f h x (button on) = event_of x (button on)
stores_on_close f h x (request mode c g a out) = event_of x (request mode c g a out)
stores_on_close f h x (restore c n st) = event_of x (restore c n st)

-- what the other tool sends in one of two runs: to group 0801 a read of its value, to all the question for addresses in programming mode, connectionless a read of the height;
-- and version 1 restored on its connection, which is closed
abbrev pub read_group : Event
read_group = request 0 0 0x0801 (0x00 ∷ 0x00 ∷ []) buffer

abbrev pub read_addresses : Event
read_addresses = request 1 0 0 (0x01 ∷ 0x00 ∷ []) buffer

abbrev pub read_unconnected : Event
read_unconnected = request 2 0 0 (0x03 ∷ 0xD5 ∷ 0x01 ∷ 0x33 ∷ 0x10 ∷ 0x01 ∷ []) buffer

abbrev pub restore_closed : Event
restore_closed = restore 1 1 once
