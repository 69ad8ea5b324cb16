-- The level that a request acts at.
use Rattle.std.specs.Prelude.{ℕ, cond, ltb, eqb}
use Rattle.judge.specs.declared.Session.{Session}

-- the modes
abbrev pub multicast : ℕ
multicast = 0

abbrev pub broadcast : ℕ
broadcast = 1

abbrev pub connectionless : ℕ
connectionless = 2

abbrev pub connected : ℕ
connected = 3

-- the level with the fewest rights
abbrev pub weakest : ℕ
weakest = 3

-- a level above 3 is read as 3
unfoldable pub level_of : Session → ℕ
level_of q = cond (ltb weakest q.level) weakest q.level

-- a connected request acts at the session's level, any other at 3
unfoldable pub level_in : Session → ℕ → ℕ
level_in q mode = cond (eqb mode connected) (level_of q) weakest
