-- PLAYING WITH MARKS: who changed each byte of the sheet, and who gave each connection its level.
use Rattle.std.specs.Prelude.{ℕ, ◌+◌, ◌<◌, ◌≡◌, cond, List, [], ◌∷◌, eqb, length, take, drop}
use Rattle.octets.specs.Splice.{splice}
use Rattle.sheet.specs.Demand.{Demand, ◌≼◌, ◌≐◌, ◌⦂◌, breach}
use Rattle.sheet.specs.First.{or_else}
use Rattle.device.specs.Octets.{Octets}
use Rattle.device.specs.Events.{State}
use Rattle.events.specs.Events.{Event, run}
use Rattle.device.specs.declared.Sessions.{Sessions}
use Rattle.history.specs.History.{First}
use Rattle.history.specs.Keeps.{state_after}
use Rattle.history.specs.Rightful.{ours}
use Rattle.account.specs.Account.{level_on, last_other, Accounted, Entitled}
use Rattle.account.specs.Marks.{both, MarkedRun, Tell}
use Rattle.playback.specs.Trace.{trace_of}
use Rattle.playback.specs.Playing.{at, log_of, due_of, refusal_in}
use Rattle.playback.specs.Outcome.{Outcome}

-- of a sheet of k bytes, n events being due and so many having been played: room for the sheet as it was seen last, of b bytes; m marks; and the last number
abbrev pub mark_demands : ℕ → ℕ → ℕ → ℕ → ℕ → List Demand
mark_demands k n played b m =
    (70 ⦂ b ≐ k) ∷
    (70 ⦂ m ≐ k + both) ∷
    (71 ⦂ played + n ≼ 4294967295) ∷
    []

-- THE REFUSAL, and 0 if there is none: that of playing, then that of the marks
unfoldable pub mark_refusal : List ℕ → List ℕ → ℕ → ℕ → List ℕ → ℕ → List ℕ → List ℕ → ℕ
mark_refusal s t from limit log played b m =
    or_else (refusal_in t from limit log) (breach (mark_demands (length s) (due_of t from limit) played (length b) (length m)))

-- HOW MANY EVENTS ARE HANDLED, and which
unfoldable pub mark_handled : List ℕ → List ℕ → ℕ → ℕ → List ℕ → ℕ → List ℕ → List ℕ → ℕ
mark_handled s t from limit log played b m = cond (eqb (mark_refusal s t from limit log played b m) 0) (due_of t from limit) 0

unfoldable pub mark_played : List ℕ → List ℕ → ℕ → ℕ → List ℕ → ℕ → List ℕ → List ℕ → List Event
mark_played s t from limit log played b m = take (mark_handled s t from limit log played b m) (drop from (trace_of t))

-- WHAT PLAYING WITH MARKS GIVES AND LEAVES: sessions, sheet and log as playing does, and the marks of the run
pub record Marking (q : Sessions) (s t : List ℕ) (from limit : ℕ) (log : List ℕ) (played : ℕ) (b m : List ℕ) (r : Outcome) (s' log' b' m' : List ℕ) : Type 0 where
  pub refusal : r.refusal ≡ mark_refusal s t from limit log played b m
  pub handled : r.handled ≡ mark_handled s t from limit log played b m
  pub state : at r.sessions s' ≡ run (at q s) (mark_played s t from limit log played b m)
  pub logged : log' ≡ splice log 0 (log_of (at q s) (mark_played s t from limit log played b m))
  pub marks : MarkedRun (at q s) (mark_played s t from limit log played b m) played (length s) m m'
  -- the room for the sheet is the sheet; where there is a refusal it is as found, and so are all marks, however many were lent
  pub seen : r.refusal ≡ 0 → b' ≡ s'
  pub unseen : (r.refusal ≡ 0 → ⊥) → b' ≡ b
  pub untouched : (r.refusal ≡ 0 → ⊥) → m' ≡ m

-- WHAT A CALL DID; sheet and trace being bytes
pub record Marks (q : Sessions) (s t : List ℕ) (from limit : ℕ) (log : List ℕ) (played : ℕ) (b m : List ℕ) (r : Outcome) (s' log' b' m' : List ℕ) : Type 0 where
  pub did : Marking q s t from limit log played b m r s' log' b' m'
  pub sheet_bytes : Octets s
  pub trace_bytes : Octets t

-- THE STATE AND THE MARKS OF A HISTORY h, AND WHO CHANGED WHAT IN IT: of each byte, of each level below 3
pub record Explained (f : First) (h : List Event) (x : State) (m : List ℕ) : Type 0 where
  pub state : x ≡ state_after ours f h
  pub tell : Tell f h m
  pub bytes : Accounted ours f h
  pub levels : (c : ℕ) → level_on c (state_after ours f h) < 3 → Entitled ours f h c (last_other ours f (level_on c) h)
