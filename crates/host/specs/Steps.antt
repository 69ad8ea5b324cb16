-- RUNS OF ALL CALLS, in any order: what a host sees of link and sheet, by the contracts of the calls alone. A host without a link has its sessions in one that no frame reaches.
use Rattle.std.specs.Prelude.{ℕ, cond, List, [], ◌∷◌, ◌++◌, reverse, ltb, length}
use Rattle.sheet.specs.Convert.{Converts}
use Rattle.device.specs.Events.{Effect}
use Rattle.device.specs.declared.Sessions.{Sessions}
use Rattle.versions.specs.Saving.{SavedAs}
use Rattle.versions.specs.Removing.{Removed}
use Rattle.versions.specs.Sequence.{Change, saves, removes}
use Rattle.versions.specs.declared.saving.Saved.{Saved}
use Rattle.events.specs.Events.{Event}
use Rattle.history.specs.Calls.{Call}
use Rattle.playback.specs.Playing.{played_of, Plays}
use Rattle.playback.specs.Marking.{mark_played, Marks}
use Rattle.link.specs.Serving.{longest, apdu_of, with_sessions, ServedFrame}
use Rattle.link.specs.Net.{Net, net_of, state_of, heard_in, events_of}
use Rattle.link.specs.declared.Link.{Link}
use Rattle.host.specs.Calls.{gave_played}
use Rattle.host.specs.Bus.{gave_served}
use Rattle.host.specs.declared.Handled.{Handled}
use Rattle.host.specs.declared.Answered.{Answered}

-- the events of a frame served, the buffer having so much room
abbrev pub served_events : Net → List ℕ → ℕ → List Event
served_events x b room = cond (ltb room longest) [] (events_of (heard_in x b) (apdu_of b))

-- link and sheet with other sessions and another sheet
abbrev pub with : Net → Sessions → List ℕ → Net
with x q s = net_of (with_sessions x.link q) s

-- A CALL that met x, left y and was the events es, the newest first: a connect, disconnect, button, request or restore; a conversion; a playback, with marks too; a frame served.
-- A host's time-out is a disconnect. What saves, removes, checks or looks up leaves link and sheet as found and is no step
pub data Step (x : Net) : List Event → Net → Type 0 where
  calls : {e : Event} {r : Effect} → Call (state_of x) e r → Step x (e ∷ []) (with x r.sessions r.sheet)
  converts : (r : ℕ) (s' : List ℕ) → Converts x.sheet r s' → Step x [] (net_of x.link s')
  plays :
      (t : List ℕ) (from limit : ℕ) (log : List ℕ) (r : Handled) (q' : Sessions) (s' log' : List ℕ) →
      Plays x.link.sessions x.sheet t from limit log (gave_played r q') s' log' →
      Step x (reverse (played_of t from limit log)) (with x q' s')
  marks :
      (t : List ℕ) (from limit : ℕ) (log : List ℕ) (played : ℕ) (b m : List ℕ) (r : Handled) (q' : Sessions) (s' log' b' m' : List ℕ) →
      Marks x.link.sessions x.sheet t from limit log played b m (gave_played r q') s' log' b' m' →
      Step x (reverse (mark_played x.sheet t from limit log played b m)) (with x q' s')
  serves :
      (sequence : ℕ) (b o : List ℕ) (r : Answered) (k' : Link) (s' o' : List ℕ) →
      ServedFrame x.link sequence b x.sheet o (gave_served r k') s' o' →
      Step x (served_events x b (length o)) (net_of k' s')

-- calls one after the other, each on what the one before left, and the history that they are
pub data Steps (x : Net) : List Event → Net → Type 0 where
  begin : Steps x [] x
  next : {h es : List Event} {y z : Net} → Steps x h y → Step y es z → Steps x (es ++ h) z

-- WITH A STORE OF VERSIONS beside them
pub record House : Type 0 where
  pub net : Net
  pub store : List ℕ

-- a call that met w and left another: a step, a save of the sheet as it then stands, a removal; the changes of the store that it was. A restore from the store is a step
pub data Turn (w : House) : List Event → List Change → House → Type 0 where
  steps : {es : List Event} {y : Net} → Step w.net es y → Turn w es [] record { net = y; store = w.store }
  saving : (r : Saved) (st' : List ℕ) → SavedAs w.net.sheet w.store r st' → Turn w [] (saves w.net.sheet ∷ []) record { net = w.net; store = st' }
  removing : (n r : ℕ) (st' : List ℕ) → Removed w.store n r st' → Turn w [] (removes n ∷ []) record { net = w.net; store = st' }

-- calls one after the other, their history, the newest first, and the changes of the store, the oldest first
pub data Turns (w : House) : List Event → List Change → House → Type 0 where
  start : Turns w [] [] w
  go_on : {h es : List Event} {cs ds : List Change} {v u : House} → Turns w h cs v → Turn v es ds u → Turns w (es ++ h) (cs ++ ds) u
