-- The bytes that are no locations and yet change: the individual address, programming mode, group values.
use Rattle.std.specs.Prelude.{ℕ, ◌+◌, ◌/◌, ◌%◌, List, [], ◌∷◌, cond, ◌&&◌, length, get_or, eqb}
use Rattle.sheet.specs.Kind.{groups}
use Rattle.sheet.specs.Layout.{◌of◌}
use Rattle.sheet.specs.Head as head
use Rattle.sheet.specs.Head.{rules_of}
use Rattle.sheet.specs.Group as group
use Rattle.sheet.specs.Entries.{entry, body_at}
use Rattle.device.specs.Events.{bit}
use Rattle.events.specs.Events.{Event, connect, disconnect, button, request, restore}
use Rattle.history.specs.Wish as wish
use Rattle.history.specs.Span.{all}
use Rattle.history.specs.Permit.{heard}
use Rattle.history.specs.History.{First, opened, is_restart}

-- PROGRAMMING MODE: what the last button event set, cleared by a restart
unfoldable pub programming : First → List Event → ℕ
programming f [] = head.programming f.sheet
programming f (connect c ∷ h) = programming f h
programming f (disconnect c ∷ h) = programming f h
programming f (restore c n st ∷ h) = programming f h
programming f (button on ∷ h) = bit on
programming f (request mode c g a out ∷ h) =
    cond (heard (rules_of f.sheet) (opened f h c) mode a out (wish.asks a) && is_restart (wish.asks a)) 0 (programming f h)

-- the new address that a request brings: in programming mode (`in_programming` is 1), or by the serial number
abbrev pub new_address : ℕ → ℕ → ℕ → wish.Wish → ℕ
new_address in_programming serial before (wish.change c) = before
new_address in_programming serial before (wish.offer_key number) = before
new_address in_programming serial before wish.restart = before
new_address in_programming serial before (wish.other (wish.address new)) = cond (eqb in_programming 1) new before
new_address in_programming serial before (wish.other (wish.address_for named new)) = cond (eqb named serial) new before
new_address in_programming serial before (wish.other (wish.group flag v)) = before
new_address in_programming serial before wish.nothing = before

-- THE INDIVIDUAL ADDRESS
unfoldable pub individual : First → List Event → ℕ
individual f [] = head.address of f.sheet
individual f (connect c ∷ h) = individual f h
individual f (disconnect c ∷ h) = individual f h
individual f (button on ∷ h) = individual f h
individual f (restore c n st ∷ h) = individual f h
individual f (request mode c g a out ∷ h) =
    cond (heard (rules_of f.sheet) (opened f h c) mode a out (wish.asks a))
    (new_address (programming f h) (head.serial of f.sheet) (individual f h) (wish.asks a)) (individual f h)

-- byte j of what a group value brings to the object of entry e: the six bits, or the data
abbrev pub new_value : List ℕ → ℕ → List ℕ → ℕ → ℕ → wish.Wish → ℕ
new_value e g d j before (wish.change c) = before
new_value e g d j before (wish.offer_key number) = before
new_value e g d j before wish.restart = before
new_value e g d j before (wish.other (wish.address new)) = before
new_value e g d j before (wish.other (wish.address_for named new)) = before
new_value e g d j before (wish.other (wish.group flag v)) =
    cond (all (eqb (group.address of e) g ∷ eqb (group.flags of e / flag % 2) 1 ∷ eqb (length d) (group.code of e) ∷ []))
    (cond (eqb (group.code of e) 0) v (get_or d j 0)) before
new_value e g d j before wish.nothing = before

-- BYTE j OF THE BODY OF GROUP OBJECT i
unfoldable pub group_byte : First → List Event → ℕ → ℕ → ℕ
group_byte f [] i j = get_or f.sheet (body_at f.sheet groups i + j) 0
group_byte f (connect c ∷ h) i j = group_byte f h i j
group_byte f (disconnect c ∷ h) i j = group_byte f h i j
group_byte f (button on ∷ h) i j = group_byte f h i j
group_byte f (restore c n st ∷ h) i j = group_byte f h i j
group_byte f (request mode c g a out ∷ h) i j =
    cond (heard (rules_of f.sheet) (opened f h c) mode a out (wish.asks a))
    (new_value (entry f.sheet groups i) g (wish.brings a) j (group_byte f h i j) (wish.asks a)) (group_byte f h i j)
