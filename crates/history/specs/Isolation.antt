-- TWO TOOLS SIDE BY SIDE: what one of them sees, whatever the other sends that changes nothing. A predicate over any device.
use Rattle.std.specs.Prelude.{ℕ, ◌≡◌, List, [], ◌∷◌, Bool, true, false, cond, ◌&&◌, ◌||◌, not, length, eqb}
use Rattle.device.specs.Sessions.{session_of}
use Rattle.events.specs.Events.{Event, connect, disconnect, button, request, restore}
use Rattle.history.specs.Wish.{restart, asks}
use Rattle.history.specs.History.{First}
use Rattle.history.specs.Keeps.{Device, state_after, Succeeds}

-- an event of the tool on connection o: its connects, its disconnects, its connected requests, its restores
abbrev pub is_of : ℕ → Event → Bool
is_of o (connect c) = eqb c o
is_of o (disconnect c) = eqb c o
is_of o (restore c n st) = eqb c o
is_of o (button on) = false
is_of o (request mode c g a out) = eqb mode 3 && eqb c o

-- what that tool may have sent: these, and any request that names no connection
abbrev pub may_be_of : ℕ → Event → Bool
may_be_of o (connect c) = eqb c o
may_be_of o (disconnect c) = eqb c o
may_be_of o (restore c n st) = eqb c o
may_be_of o (button on) = false
may_be_of o (request mode c g a out) = not (eqb mode 3) || eqb c o

-- the same event, though its answer buffer may have held other bytes, as many
pub data Alike : Event → Event → Type 0 where
  same : (e : Event) → Alike e e
  as_long :
      {mode c g : ℕ} {a out out' : List ℕ} → length out ≡ length out' → Alike (request mode c g a out) (request mode c g a out')

-- what the other tool may send after h: any connect and disconnect; a request that changes no sheet byte and is no restart that is carried out; a restore that changes none
abbrev pub Harmless : Device → First → List Event → Event → Type 0
Harmless step f h (connect c) = Unit {0}
Harmless step f h (disconnect c) = Unit {0}
Harmless step f h (button on) = Unit {0}
Harmless step f h (request mode c g a out) =
    let r = step f h (state_after step f h) (request mode c g a out) in
    (r.sheet ≡ (state_after step f h).sheet) × (asks a ≡ restart → Succeeds r.outcome → ⊥)
Harmless step f h (restore c n st) = (step f h (state_after step f h) (restore c n st)).sheet ≡ (state_after step f h).sheet

-- TWO RUNS: what the tool on connection o may have sent may be in one alone, if harmless; all else is the same in both, and in the same order
pub data Beside (step : Device) (f : First) (o : ℕ) : List Event → List Event → Type 0 where
  begin : Beside step f o [] []
  shared :
      {h h' : List Event} {e e' : Event} → is_of o e ≡ false → Alike e e' → Beside step f o h h' → Beside step f o (e ∷ h) (e' ∷ h')
  one_more :
      {h h' : List Event} {e : Event} → may_be_of o e ≡ true → Harmless step f h e → Beside step f o h h' → Beside step f o (e ∷ h) h'
  other_more :
      {h h' : List Event} {e : Event} → may_be_of o e ≡ true → Harmless step f h' e → Beside step f o h h' → Beside step f o h (e ∷ h')

-- WHAT IS THEN THE SAME FOR THE TOOL ON CONNECTION t: the sheet, its session, and the outcome and answer of whatever comes next and isn't o's
pub record Seen (step : Device) (f : First) (t o : ℕ) (h h' : List Event) : Type 0 where
  pub sheet : (state_after step f h).sheet ≡ (state_after step f h').sheet
  pub session : session_of (state_after step f h).sessions t ≡ session_of (state_after step f h').sessions t
  pub outcome :
      (e e' : Event) → is_of o e ≡ false → Alike e e' →
      (step f h (state_after step f h) e).outcome ≡ (step f h' (state_after step f h') e').outcome
  pub answer :
      (e e' : Event) → is_of o e ≡ false → Alike e e' →
      (step f h (state_after step f h) e).answer ≡ (step f h' (state_after step f h') e').answer

-- ISOLATION: from any sheet and any sessions
abbrev pub Isolated : Device → Type 0
Isolated step =
    (f : First) (t o : ℕ) → (t ≡ o → ⊥) → (h h' : List Event) → Beside step f o h h' → Seen step f t o h h'

-- the sheet and the session of t are the same after h and after h'
abbrev pub SameFor : Device → First → ℕ → (h h' : List Event) → Type 0
SameFor step f t h h' =
    ((state_after step f h).sheet ≡ (state_after step f h').sheet)
    × (session_of (state_after step f h).sessions t ≡ session_of (state_after step f h').sessions t)

-- ALONG TWO RUNS: each event that is in both has the same outcome and answer, and after every event sheet and session are so
abbrev pub Along : (step : Device) (f : First) (t o : ℕ) {h h' : List Event} → Beside step f o h h' → Type 0
Along step f t o begin = Unit {0}
Along step f t o (shared {h} {h'} {e} {e'} i a b) =
    ((step f h (state_after step f h) e).outcome ≡ (step f h' (state_after step f h') e').outcome)
    × ((step f h (state_after step f h) e).answer ≡ (step f h' (state_after step f h') e').answer)
    × SameFor step f t (e ∷ h) (e' ∷ h') × Along step f t o b
Along step f t o (one_more {h} {h'} {e} i m b) = SameFor step f t (e ∷ h) h' × Along step f t o b
Along step f t o (other_more {h} {h'} {e} i m b) = SameFor step f t h (e ∷ h') × Along step f t o b

-- a history in which all that o sends is harmless, and the same without it
abbrev pub AllHarmless : Device → First → ℕ → List Event → Type 0
AllHarmless step f o [] = Unit {0}
AllHarmless step f o (e ∷ h) = (is_of o e ≡ true → Harmless step f h e) × AllHarmless step f o h

unfoldable pub without : ℕ → List Event → List Event
without o [] = []
without o (e ∷ h) = cond (is_of o e) (without o h) (e ∷ without o h)
