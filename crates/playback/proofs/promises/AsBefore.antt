-- A TRACE PLAYS ON THE CONVERSION OF AN OLD SHEET AS IT DID ON THE OLD SHEET in the release before: as many events, the same log, the same sessions, and the sheet with 2 in byte 0. Assumes nothing.
use Rattle.octets.proofs.Kit.{ℕ, ◌+◌, ◌-◌, ◌*◌, ◌<◌, ◌≡◌, ◌∙◌, ap₂, List, ◌∷◌, ◌++◌, length, take, drop, replicate}
use Rattle.sheet.specs.{Rules.Old, Convert.conversion_of}
use Rattle.device.specs.{Events.Effect, declared.Sessions.Sessions}
use Rattle.events.{specs.Before.{event_before, run_before, AsBefore}, proofs.promises.Renewal.{answers_as_before, runs_as_before}}
use Rattle.playback.specs.{Trace.{room, event_at, events_from}, Playing.{at, line, line_of, due_of, Playing}, Outcome.Outcome}
use Rattle.playback.proofs.promises.PlayRuns.{handles, played_is_run}

-- the same line of the log
line_same : (r r' : Effect) → AsBefore r r' → line_of r' ≡ line_of r
unfolding line_of
line_same r r' k =
    ap₂ (λ (n : ℕ) (a : List ℕ). n ∷ length a ∷ (a ++ replicate (room - length a) 0)) k.outcome k.answer

-- A CALL ON THE CONVERSION of an old sheet s, n events being due
pub plays_as_before :
    (q : Sessions) (s t : List ℕ) (from limit : ℕ) (log : List ℕ) (r : Outcome) (s' log' : List ℕ) → Old s →
    Playing q (conversion_of s) t from limit log r s' log' → r.refusal ≡ 0 →
    (let n = due_of t from limit in
    let x = run_before (at q s) (events_from t from n) in
    (r.handled ≡ n)
    × (at r.sessions s' ≡ at x.sessions (conversion_of x.sheet))
    × ((j : ℕ) → j < n → take line (drop (line * j) log') ≡ line_of (event_before (run_before (at q s) (events_from t from j)) (event_at t (from + j)))))
plays_as_before q s t from limit log r s' log' o p ok =
    let k = played_is_run q (conversion_of s) t from limit log r s' log' p ok in (
      handles q (conversion_of s) t from limit log r s' log' p ok,
      k.0 ∙ runs_as_before q s o (events_from t from (due_of t from limit)),
      λ j l. k.1 j l ∙ line_same _ _ (answers_as_before q s o (events_from t from j) (event_at t (from + j))),
    )
