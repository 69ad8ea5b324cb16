-- DEMAND 3 AFTER ANY PLAYBACK on an accepted sheet: the events that were played are a history, and what it says holds. Assumes nothing.
use Rattle.octets.proofs.Kit.{ℕ, zero, suc, ◌+◌, ◌≡◌, sym, ◌∙◌, subst, List, [], ◌∷◌, ◌++◌, reverse, reverse-cons, take, drop}
use Rattle.sheet.specs.{Layout.◌of◌, Rules.Accepted}
use Rattle.device.specs.{Octets.Octets, declared.Sessions.Sessions}
use Rattle.events.specs.Events.{Event}
use Rattle.history.{specs.{History.First, Keeps.{state_after, BringsOctets, AllOctets, Kept}, Rightful.ours}, proofs.promises.InOrder.run_is_after}
use Rattle.history.proofs.promises.Keep as keep
use Rattle.playback.specs.{Trace.{count, entry_of, event_in, events_from, trace_of}, Playing.{at, handled_of, played_of, Plays}, Outcome.Outcome}
use Rattle.playback.specs.Entry as entry
use Rattle.playback.proofs.promises.WrittenBack.{by_kind_lem, octets_part}

-- bytes in front, behind, and in order
pub all_take : (n : ℕ) (es : List Event) → AllOctets es → AllOctets (take n es)
all_take zero es h = tt
all_take (suc n) [] h = tt
all_take (suc n) (e ∷ es) h = (h.0, all_take n es h.1)

pub all_drop : (n : ℕ) (es : List Event) → AllOctets es → AllOctets (drop n es)
all_drop zero es h = h
all_drop (suc n) [] h = tt
all_drop (suc n) (e ∷ es) h = all_drop n es h.1

pub all_append : (es fs : List Event) → AllOctets es → AllOctets fs → AllOctets (es ++ fs)
all_append [] fs h k = k
all_append (e ∷ es) fs h k = (h.0, all_append es fs h.1 k)

pub all_reverse : (es : List Event) → AllOctets es → AllOctets (reverse es)
all_reverse [] h = tt
all_reverse (e ∷ es) h =
    subst AllOctets (sym (reverse-cons e es)) (all_append (reverse es) (e ∷ []) (all_reverse es h.1) (h.0, tt))

module _ (t : List ℕ) (octets : Octets t) where
  brings : (e : List ℕ) → BringsOctets (event_in t e)
  unfolding event_in
  brings e =
      by_kind_lem BringsOctets (entry.kind of e) _ _ _ (take (entry.length of e) (drop (entry.offset of e) t))
      (λ k. octets_part t (entry.length of e) (entry.offset of e) octets)
      (λ k. tt)
      (λ k. tt)
      (λ k on. tt)

  pub all_from : (n i : ℕ) → AllOctets (events_from t i n)
  unfolding events_from
  all_from zero i = tt
  all_from (suc n) i = (brings (entry_of t i), all_from n (i + 1))

  -- whatever of a trace is played
  all_played : (from limit : ℕ) (log : List ℕ) → AllOctets (played_of t from limit log)
  unfolding played_of trace_of
  all_played from limit log = all_take (handled_of t from limit log) (drop from (events_from t 0 (count t))) (all_drop from (events_from t 0 (count t)) (all_from (count t) 0))

  -- and of their history
  pub all_history : (from limit : ℕ) (log : List ℕ) → AllOctets (reverse (played_of t from limit log))
  all_history from limit log = all_reverse (played_of t from limit log) (all_played from limit log)

-- the newest first
module _ (q : Sessions) (s t : List ℕ) (from limit : ℕ) (log : List ℕ) where
  abbrev first : First
  first = record { sheet = s; sessions = q }

  abbrev history : List Event
  history = reverse (played_of t from limit log)

  -- DEMAND 3: STATE IS WHAT THE HISTORY OF THE PLAYED EVENTS LEAVES, AND OF THAT ALL IS KEPT
  pub play_keeps :
      (r : Outcome) (s' log' : List ℕ) → Plays q s t from limit log r s' log' → Accepted s →
      (at r.sessions s' ≡ state_after ours first history) × Kept ours first history
  play_keeps r s' log' p a = (
    p.did.state ∙ run_is_after first (played_of t from limit log),
    keep.keeps first history record { octets = p.sheet_bytes; accepted = a } (all_history t p.trace_bytes from limit log),
  )
