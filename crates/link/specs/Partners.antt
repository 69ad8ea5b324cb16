-- WHO HAS WHICH CONNECTION: the partner of a connection is the individual address that connected last on it, while its session is open.
-- So what closes the session, a disconnect, a time-out or a Restart, ends the partnership.
use Rattle.std.specs.Prelude.{ℕ, Bool, cond, ◌&&◌, eqb, Option, Some, None}
use Rattle.judge.specs.declared.Session.{Session}
use Rattle.device.specs.Sessions.{known}
use Rattle.device.specs.declared.Sessions.{Sessions}
use Rattle.link.specs.declared.Link.{Link}

-- the number of no connection
abbrev pub nobody : ℕ
nobody = 255

-- a connection by its number, `nobody` if there is none
abbrev pub number_at : Option ℕ → ℕ
number_at (Some c) = c
number_at None = nobody

-- an open session whose partner's address this is
abbrev pub sits : Session → ℕ → ℕ → Bool
sits s partner a = s.opened && eqb partner a

-- the address that connected last
abbrev pub address_at : Link → ℕ → ℕ
address_at k c = cond (eqb c 0) k.first k.second

-- THE CONNECTION OF AN ADDRESS, `nobody` if it has none; the lower, should it have two
unfoldable pub place_of : Link → ℕ → ℕ
place_of k a = cond (sits k.sessions.first k.first a) 0 (cond (sits k.sessions.second k.second a) 1 nobody)

-- a connection that is closed, the first before the second, `nobody` if both are open
unfoldable pub free_of : Sessions → ℕ
free_of q = cond q.first.opened (cond q.second.opened nobody 1) 0

-- THE CONNECTION THAT A CONNECT OPENS: that of the address, else a closed one
unfoldable pub place_for : Link → ℕ → ℕ
place_for k a = cond (known (place_of k a)) (place_of k a) (free_of k.sessions)
