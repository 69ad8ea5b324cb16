-- THE SESSIONS of connections 0 and 1, and which of them a request meets.
use Rattle.std.specs.Prelude.{ℕ, Bool, true, false, cond, ltb, eqb}
use Rattle.judge.specs.Session.{weakest, connected}
use Rattle.judge.specs.declared.Session.{Session}
use Rattle.device.specs.Step.{Step}
use Rattle.device.specs.declared.Sessions.{Sessions}

-- a session that was connected; one that was disconnected, or never connected
abbrev pub newly_open : Session
newly_open = record { opened = true; level = weakest }

abbrev pub closed : Session
closed = record { opened = false; level = weakest }

-- fresh sessions
abbrev pub fresh_of : Sessions
fresh_of = record { first = closed; second = closed }

-- the connections that there are
abbrev pub known : ℕ → Bool
known c = ltb c 2

-- THE SESSION OF A CONNECTION: any other number has a closed one
abbrev pub session_of : Sessions → ℕ → Session
session_of q c = cond (eqb c 0) q.first (cond (eqb c 1) q.second closed)

-- the sessions with another one for a connection; any other number has none
abbrev pub with_session : Sessions → ℕ → Session → Sessions
with_session q c r = cond (eqb c 0) record { first = r; second = q.second } (cond (eqb c 1) record { first = q.first; second = r } q)

-- THE SESSION THAT A REQUEST MEETS: outside connected mode the number of the connection is not read
abbrev pub session_for : Sessions → ℕ → ℕ → Session
session_for q mode c = cond (eqb mode connected) (session_of q c) closed

-- THE SESSIONS AFTER A REQUEST that leaves its session r: a restart closes both, and a connected request changes its own alone
abbrev pub turned_of : Sessions → ℕ → ℕ → Bool → Session → Sessions
turned_of q mode c restarts r = cond restarts fresh_of (cond (eqb mode connected) (with_session q c r) q)

abbrev pub sessions_after : Sessions → ℕ → ℕ → Step → Sessions
sessions_after q mode c r = turned_of q mode c r.restarts r.session
