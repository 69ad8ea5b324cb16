-- What the walk over a trace's events is told and tells.
use Rattle.std.specs.Prelude.{ℕ, ◌+◌, ◌≤◌, ◌<◌, ◌≡◌, Result, Ok, Err, List, length}
use Rattle.sheet.specs.Demand.{breach}
use Rattle.sheet.specs.Layout.{◌of◌}
use Rattle.playback.specs.Entry as entry
use Rattle.playback.specs.Trace.{place, entry_of}
use Rattle.playback.specs.Rules.{event_demands}
use Rattle.playback.specs.Refusal.{number_of}
use Rattle.playback.specs.declared.refusal.Refusal.{Refusal}

-- entry i lies within the trace
pub record Inside (t : List ℕ) (i : ℕ) : Type 0 where
  pub few : i < 512
  pub fits : place (i + 1) ≤ length t

-- e is entry i
pub record Shown (t : List ℕ) (i : ℕ) (e : List ℕ) : Type 0 where
  pub is : e ≡ entry_of t i
  pub long : length e ≡ entry.size

-- event i was judged, its APDU to begin at z: where it ends, or the rule that is broken
abbrev pub Judges : List ℕ → ℕ → ℕ → Result ℕ Refusal → Type 0
Judges t i z (Ok end) = (breach (event_demands z (length t) (entry_of t i)) ≡ 0) × (end ≡ z + entry.length of entry_of t i) × (end ≤ length t)
Judges t i z (Err e) = number_of e ≡ breach (event_demands z (length t) (entry_of t i))
