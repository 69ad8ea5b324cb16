-- WHAT A CALL TELLS: its refusal or 0, how many events were handled, and the sessions afterwards.
use Rattle.std.specs.Prelude.{ℕ, Result, Ok, Err}
use Rattle.device.specs.declared.Sessions.{Sessions}
use Rattle.playback.specs.Refusal.{number_of}
use Rattle.playback.specs.declared.{Played.Played, refusal.Refusal.Refusal}

pub record Outcome : Type 0 where
  pub refusal : ℕ
  pub handled : ℕ
  pub sessions : Sessions

-- of sessions q: where there is a refusal no event is handled, and they stay as they were
abbrev pub outcome_of : Sessions → Result Played Refusal → Outcome
outcome_of q (Ok p) = record { refusal = 0; handled = p.handled; sessions = p.sessions }
outcome_of q (Err e) = record { refusal = number_of e; handled = 0; sessions = q }
