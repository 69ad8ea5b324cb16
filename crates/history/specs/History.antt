-- WHAT A HISTORY SAYS, by the first sheet, the first sessions and the events alone. The newest event stands first.
use Rattle.std.specs.Prelude.{ℕ, ◌+◌, ◌*◌, ◌-◌, List, [], ◌∷◌, Bool, true, false, cond, ◌&&◌, get_or, ltb, eqb}
use Rattle.sheet.specs.Kind.{properties}
use Rattle.sheet.specs.Layout.{◌of◌}
use Rattle.sheet.specs.Head as head
use Rattle.sheet.specs.Head.{rules_of}
use Rattle.sheet.specs.Region as region
use Rattle.sheet.specs.Property as property
use Rattle.sheet.specs.Entries.{place}
use Rattle.sheet.specs.Places.{region_at}
use Rattle.device.specs.Sessions.{session_of}
use Rattle.events.specs.Events.{Event, connect, disconnect, button, request, restore}
use Rattle.device.specs.declared.Sessions.{Sessions}
use Rattle.versions.specs.Rules.{is_store}
use Rattle.versions.specs.Store.{is_kept, version_in}
use Rattle.history.specs.Location.{Location, memory, body, counter, key}
use Rattle.history.specs.Span.{all, names, gives}
use Rattle.history.specs.Wish.{Wish, change, restore_all, offer_key, restart, other, nothing, asks, brings}
use Rattle.history.specs.Permit.{heard, level_for, region_for, index_for, entry_for, allowed, spans}

pub record First : Type 0 where
  pub sheet : List ℕ
  pub sessions : Sessions

-- the first content of a location
unfoldable pub first_of : List ℕ → Location → ℕ
first_of s (memory m y) =
    let e = region_at s m (region_for s m y) in get_or s (region.offset of e + (y - region.address of e)) 0
first_of s (body o i j) = get_or s (property.offset of entry_for s o i + j) 0
first_of s (counter o i j) = get_or s (place s properties (index_for s o i) + (property.count).at + j) 0
first_of s (key l j) = get_or s ((head.key l).at + j) 0

-- what an event asks for, and the data that it brings: a request does, and a restore, whose data is the version
abbrev pub wished : Event → Wish
wished (connect c) = nothing
wished (disconnect c) = nothing
wished (button on) = nothing
wished (request mode c g a out) = asks a
wished (restore c n st) = change restore_all

abbrev pub supplied : Event → List ℕ
supplied (connect c) = []
supplied (disconnect c) = []
supplied (button on) = []
supplied (request mode c g a out) = brings a
supplied (restore c n st) = version_in st n

-- a restart
abbrev pub is_restart : Wish → Bool
is_restart (change c) = false
is_restart (offer_key number) = false
is_restart restart = true
is_restart (other o) = false
is_restart nothing = false

-- the level that a request leaves a connection, given the number of each level's key and the level before: an offer of its own and any restart set it
abbrev pub offered : (ℕ → ℕ) → Bool → ℕ → Wish → ℕ
offered keys own before (change c) = before
offered keys own before (offer_key number) =
    cond own (cond (eqb number (keys 0)) 0 (cond (eqb number (keys 1)) 1 (cond (eqb number (keys 2)) 2 3))) before
offered keys own before restart = 3
offered keys own before (other o) = before
offered keys own before nothing = before

-- the number of a level's key by the contents of its four bytes
unfoldable pub key_in : (Location → ℕ) → ℕ → ℕ
key_in now l = ((now (key l 0) * 256 + now (key l 1)) * 256 + now (key l 2)) * 256 + now (key l 3)

-- whether connection c is open after one event, under rules of this number, `live` saying which were open before it. There are two, 0 and 1
abbrev pub opened_by : ℕ → (ℕ → Bool) → ℕ → Event → Bool
opened_by rules live c (connect d) = cond (eqb c d && ltb c 2) true (live c)
opened_by rules live c (disconnect d) = cond (eqb c d) false (live c)
opened_by rules live c (button on) = live c
opened_by rules live c (restore d n st) = live c
opened_by rules live c (request mode d g a out) =
    cond (heard rules (live d) mode a out (asks a) && is_restart (asks a)) false (live c)

-- what one event makes of the level of connection c, `keys` being the keys before it
abbrev pub level_by : ℕ → (ℕ → Bool) → (ℕ → ℕ) → ℕ → ℕ → Event → ℕ
level_by rules live keys c before (connect d) = cond (eqb c d) 3 before
level_by rules live keys c before (disconnect d) = cond (eqb c d) 3 before
level_by rules live keys c before (button on) = before
level_by rules live keys c before (restore d n st) = before
level_by rules live keys c before (request mode d g a out) =
    cond (heard rules (live d) mode a out (asks a)) (offered keys (eqb c d) before (asks a)) before

-- A PERMITTED WRITE: heard while its connection is so, and allowed at the level of that connection; of a restore, the version kept in a good store, and the connection open
abbrev pub permits : List ℕ → (ℕ → Bool) → (ℕ → ℕ) → Event → Bool
permits s live level (connect c) = false
permits s live level (disconnect c) = false
permits s live level (button on) = false
permits s live level (request mode c g a out) =
    heard (rules_of s) (live c) mode a out (asks a) && allowed s (level_for mode (level c)) (brings a) (asks a)
permits s live level (restore c n st) =
    all (is_store st ∷ is_kept st n ∷ live c ∷ allowed s (level_for 3 (level c)) (version_in st n) (change restore_all) ∷ [])

-- what a permitted write gives to a location that it names; all else stays
abbrev pub content_by : List ℕ → Bool → (Location → ℕ) → Event → Location → ℕ
content_by s isPermitted now e x =
    let ps = spans s now (supplied e) (wished e) in cond (isPermitted && names ps x) (gives ps x) (now x)

-- WHETHER A CONNECTION IS OPEN
unfoldable pub opened : First → List Event → ℕ → Bool
opened f [] c = (session_of f.sessions c).opened
opened f (e ∷ h) c = opened_by (rules_of f.sheet) (opened f h) c e

-- THE LEVEL OF A CONNECTION, and WHAT A LOCATION HOLDS: what the last permitted write gave, or its first content
unfoldable mutual
  pub level : First → List Event → ℕ → ℕ
  level f [] c = (session_of f.sessions c).level
  level f (e ∷ h) c = level_by (rules_of f.sheet) (opened f h) (λ l. key_in (λ x. content f h x) l) c (level f h c) e

  pub content : First → List Event → Location → ℕ
  content f [] x = first_of f.sheet x
  content f (e ∷ h) x =
      content_by f.sheet (permits f.sheet (opened f h) (λ c. level f h c) e) (λ y. content f h y) e x

-- THE KEY OF A LEVEL
unfoldable pub keys : First → List Event → ℕ → ℕ
keys f h l = key_in (λ x. content f h x) l

-- A WRITE THAT IS PERMITTED AFTER A HISTORY
unfoldable pub permitted : First → List Event → Event → Bool
permitted f h e = permits f.sheet (opened f h) (level f h) e
