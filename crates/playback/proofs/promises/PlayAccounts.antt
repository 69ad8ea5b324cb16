-- WHO CHANGED EACH BYTE, AFTER ANY PLAYBACK WITH MARKS that goes on from a history: the marks say which event of it changed a byte last, which gave a level last; and by what right. Assumes nothing.
use Rattle.octets.proofs.Kit.{ℕ, ◌≡◌, ◌∙◌, ap, subst, List, ◌++◌, reverse, length}
use Rattle.device.specs.{Events.State, declared.Sessions.Sessions}
use Rattle.events.specs.Events.{Event, run}
use Rattle.history.{specs.{History.First, Keeps.{state_after, Begins, AllOctets}, Rightful.ours}, proofs.promises.{InOrder.run_on, Keep.keeps}}
use Rattle.account.{specs.Marks.{MarkedRun, Tell}, proofs.promises.{Accounts.{accounts, entitled}, Telling.tells_on}}
use Rattle.playback.specs.{Trace.{count, trace_of}, Playing.at, Marking.{mark_handled, mark_played, Marks, Explained}, Outcome.Outcome}
use Rattle.playback.proofs.promises.PlayKeeps.{all_take, all_drop, all_append, all_reverse, all_from}

-- AFTER A CALL on what a history h left, with marks that tell it, and `played` as long as it is
module _ (f : First) (h : List Event) (begins : Begins f) (octets : AllOctets h) (q : Sessions) (s t : List ℕ) (from limit : ℕ) (log : List ℕ) (b m : List ℕ)
    (r : Outcome) (s' log' b' m' : List ℕ) (found : at q s ≡ state_after ours f h) (tell : Tell f h m) (call : Marks q s t from limit log (length h) b m r s' log' b' m') where
  abbrev es : List Event
  es = mark_played s t from limit log (length h) b m

  long : length s ≡ length f.sheet
  long = ap (λ (x : State). length x.sheet) found ∙ (keeps f h begins octets).same

  played_octets : AllOctets es
  unfolding mark_played trace_of
  played_octets =
      all_take (mark_handled s t from limit log (length h) b m) _ (all_drop from _ (all_from t call.trace_bytes (count t) 0))

  all : AllOctets (reverse es ++ h)
  all = all_append (reverse es) h (all_reverse es played_octets) octets

  pub play_accounts : Explained f (reverse es ++ h) (at r.sessions s') m'
  play_accounts =
      record {
        state = call.did.state ∙ ap (λ (x : State). run x es) found ∙ run_on f es h;
        tell =
            tells_on f h es m m' tell
            (subst (λ (k : ℕ). MarkedRun (state_after ours f h) es (length h) k m m') long
            (subst (λ (x : State). MarkedRun x es (length h) (length s) m m') found call.did.marks));
        bytes = accounts f (reverse es ++ h) begins all;
        levels = entitled f (reverse es ++ h) begins all;
      }
