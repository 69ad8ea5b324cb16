-- MARKS: a number for each byte of a sheet and one for the level of each connection, that of the event after which it was another last.
use Rattle.std.specs.Prelude.{ℕ, suc, ◌+◌, ◌<◌, ◌≤◌, ◌≡◌, List, [], ◌∷◌, cond, ◌⊎◌, length, get_or, eqb}
use Rattle.device.specs.Events.{State}
use Rattle.events.specs.Events.{Event, after}
use Rattle.device.specs.Sessions.{session_of}
use Rattle.device.specs.Changed.{Outside}
use Rattle.device.specs.declared.Sessions.{Sessions}
use Rattle.device.specs.declared.Changed.{Changed}
use Rattle.history.specs.History.{First}
use Rattle.history.specs.Rightful.{ours}
use Rattle.account.specs.Account.{Origin, never, at, byte_at, level_on, last_other}

-- the mark of what was b and is a, m being its mark before
abbrev pub mark_of : ℕ → ℕ → ℕ → ℕ → ℕ
mark_of b a m n = cond (eqb a b) m n

-- THE MARK AFTER A RUN of what is looked at, m being its mark before; the events have the numbers n + 1, n + 2 and so on
unfoldable pub mark_after : (State → ℕ) → ℕ → State → List Event → ℕ → ℕ
mark_after look n x [] m = m
mark_after look n x (e ∷ es) m = mark_after look (n + 1) (after x e) es (mark_of (look x) (look (after x e)) m (n + 1))

-- connections
abbrev pub both : ℕ
both = 2

-- THE MARKS AFTER A RUN from x on, for a sheet of k bytes: first those of its bytes, then those of the levels
pub record MarkedRun (x : State) (es : List Event) (n k : ℕ) (m m' : List ℕ) : Type 0 where
  pub same : length m' ≡ length m
  pub bytes : (p : ℕ) → p < k → get_or m' p 0 ≡ mark_after (byte_at p) n x es (get_or m p 0)
  pub levels : (c : ℕ) → c < both → get_or m' (k + c) 0 ≡ mark_after (level_on c) n x es (get_or m (k + c) 0)

-- the number of an event of a history, the first being 1
abbrev pub number_of : Origin → ℕ
number_of never = 0
number_of (at before e) = suc (length before)

-- WHAT MARKS SAY OF A HISTORY
pub record Tell (f : First) (h : List Event) (m : List ℕ) : Type 0 where
  pub long : length m ≡ length f.sheet + both
  pub bytes : (p : ℕ) → p < length f.sheet → get_or m p 0 ≡ number_of (last_other ours f (byte_at p) h)
  pub levels : (c : ℕ) → c < both → get_or m (length f.sheet + c) 0 ≡ number_of (last_other ours f (level_on c) h)

-- what a pass over the bytes from `from` to `to` leaves: b is the sheet as it was seen before, a as it is. Those that are another are marked with n, and seen
pub record Caught (a : List ℕ) (n from to : ℕ) (b m b' m' : List ℕ) : Type 0 where
  pub same_bytes : length b' ≡ length b
  pub same_marks : length m' ≡ length m
  pub inside :
      (p : ℕ) → from ≤ p → p < to →
      (get_or m' p 0 ≡ mark_of (get_or b p 0) (get_or a p 0) (get_or m p 0) n) × (get_or b' p 0 ≡ get_or a p 0)
  pub outside : (p : ℕ) → (p < from) ⊎ (to ≤ p) → (get_or m' p 0 ≡ get_or m p 0) × (get_or b' p 0 ≡ get_or b p 0)

-- the marks of both levels, which begin at k, when sessions q have become r
pub record Levelled (q r : Sessions) (n k : ℕ) (m m' : List ℕ) : Type 0 where
  pub same : length m' ≡ length m
  pub first : get_or m' k 0 ≡ mark_of q.first.level r.first.level (get_or m k 0) n
  pub second : get_or m' (k + 1) 0 ≡ mark_of q.second.level r.second.level (get_or m (k + 1) 0) n
  pub others : (p : ℕ) → p < k → get_or m' p 0 ≡ get_or m p 0

-- what was seen of a sheet before, b, and what it is now, a, differ in the parts c alone; there is a mark for each byte and each level
pub record Markable (b a : List ℕ) (c : Changed) (m : List ℕ) : Type 0 where
  pub long : length b ≡ length a
  pub marks : length m ≡ length a + both
  pub first : c.first.offset + c.first.length ≤ length a
  pub second : c.second.offset + c.second.length ≤ length a
  pub outside : (p : ℕ) → Outside c p → get_or a p 0 ≡ get_or b p 0

-- WHAT IS ANOTHER IS MARKED WITH n, byte or level, sessions q having become r; and the sheet is seen
pub record Marked (q r : Sessions) (n : ℕ) (a b m b' m' : List ℕ) : Type 0 where
  pub same : length m' ≡ length m
  pub bytes : (p : ℕ) → p < length a → get_or m' p 0 ≡ mark_of (get_or b p 0) (get_or a p 0) (get_or m p 0) n
  pub levels : (c : ℕ) → c < both → get_or m' (length a + c) 0 ≡ mark_of (session_of q c).level (session_of r c).level (get_or m (length a + c) 0) n
  pub seen : b' ≡ a
