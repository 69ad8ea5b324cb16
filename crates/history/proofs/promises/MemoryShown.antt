-- WHAT A READ SHOWS OF MEMORY IS WHAT THE HISTORY SAYS, over one region or several: of ours, and so of any device that does what is due.
use Rattle.octets.proofs.Kit.{ℕ, ◌+◌, ◌/◌, ◌<◌, ◌≤◌, ◌≡◌, sym, ap, subst, ◌∙◌, true, List, length, drop, length-take, length-drop, get_or-take, get_or-drop, arith, le-leb}
use Rattle.std.proofs.Common.{Ok}
use Rattle.sheet.{specs.{Places.Ranged, declared.Memory.Memory}, proofs.{searches.Regions.covers_stands, promises.Runs.range_within, alike.SameLookups.ranged_same}}
use Rattle.sheet.proofs.promises.Agrees.{agree_sym}
use Rattle.pdu.specs.{Read.read_pdu, Write.encoded, declared.Pdu.Pdu}
use Rattle.judge.{specs.{Session.level_in, Memory.most_bytes, declared.{Access.TheVariants.Read, Decision.Decision}}, proofs.MemoryCases.{Permits, range_in, memory_read_cases}}
use Rattle.device.specs.{Step.{Step, step_by}, Events.{State, request_of}, Asked.{Asked, Reads, given, part}, MemoryDue.{reading, response}, Demand2.done, Due.asked}
use Rattle.device.proofs.due.{RightMemory.look_at, Stepped.step_read, WasReady.carried}
use Rattle.events.specs.Events.{Event, request, event_of}
use Rattle.history.specs.{Permit.{level_for, may_read}, History.{First, level}, Keeps.{Device, state_after, Begins, AllOctets}, Rightful.{Rightful, ours}}
use Rattle.history.specs.Shown.{MemoryShows, MemoryShown}
use Rattle.history.proofs.{promises.Said.said, steps.Invariant.{Inv, fine, now}, promises.Keep.ours_after, heard.{LevelFor.level_is, Meets.level_met}, stored.MemoryRun.memory_place}
use Rattle.history.proofs.{promises.OneDevice.one_device, steps.Requests.met_so, heard.Searches.may_read_lem}

module _ (f : First) (h : List Event) (b : Begins f) (all : AllOctets h) (mode c g : ℕ) (a out : List ℕ) (m : Memory) (n y : ℕ)
    (reads : read_pdu a ≡ Ok (reading m n y)) (ok : (event_of (state_after ours f h) (request mode c g a out)).outcome ≡ 0) where
  abbrev X : State
  X = state_after ours f h

  abbrev R : Asked
  R = asked X mode c g a out

  inv : Inv f h X
  inv = ours_after f b h all

  carried_out : (done R).outcome ≡ 0
  unfolding event_of request_of
  carried_out = ok

  was : Reads R (reading m n y)
  was = carried R _ reads (omega (arith, carried_out))

  -- the level that it acts at
  level_so : level_in R.session mode ≡ level_for mode (level f h c)
  level_so = level_is R ∙ level_met mode R.session (said f h c) (met_so f h mode c g a out X inv)

  module _ (o : ℕ) (q : Permits Read (most_bytes m) X.sheet m (level_in R.session mode) n y o) where
    there : Ranged X.sheet m y n o q.levels
    there = range_in (now inv b) q

    -- the range stands where it stood
    first : Ranged f.sheet m y n o q.levels
    first = ranged_same (agree_sym inv.means.agree) there

    readable : (k : ℕ) → k < n → may_read f.sheet m (level_for mode (level f h c)) (y + k) ≡ true
    readable k l =
        let t = first.each k l in
        let u : level_for mode (level f h c) ≤ first.at k / 16 = rw (← level_so) ((first.reading _).0 q.suffices k l) in
        may_read_lem (fine inv b) (level_for mode (level f h c)) (covers_stands t) ∙ le-leb _ _ (subst (λ (l : ℕ). level_for mode (level f h c) ≤ l / 16) t.under u)

    bytes_long : length (part X.sheet o n) ≡ n
    bytes_long = simp (length-take, length-drop) (omega (arith, range_within (now inv b) there))

    shown : (event_of X (request mode c g a out)).answer ≡ encoded (response m n y) (part X.sheet o n) → MemoryShows f h mode c m n y (event_of X (request mode c g a out))
    shown e =
        record {
          bytes = part X.sheet o n;
          answer = e;
          long = bytes_long;
          may_be_read = readable;
          holds = λ k l.
              get_or-take n (drop o X.sheet) k 0 l ∙ get_or-drop o X.sheet k 0 ∙ inv.means.holds _ _ (memory_place first k l);
        }

  shows : MemoryShows f h mode c m n y (event_of X (request mode c g a out))
  unfolding event_of request_of step_by
  shows =
      memory_read_cases X.sheet m (level_in R.session mode) n y
      (λ (k : Decision). step_by X.sheet R.session (given R (reading m n y)) k ≡ done R → MemoryShows f h mode c m n y (event_of X (request mode c g a out)))
      (λ o q e.
      shown o q (ap (λ (t : Step). t.answer) (sym e) ∙ ap (λ (p : Pdu). encoded p (part X.sheet o n)) ((look_at m).answers n y)))
      (λ e. let z : ◌≡◌ {A = ℕ} 11 0 = ap (λ (t : Step). t.outcome) e ∙ carried_out in absurd (omega arith))
      (step_read R _ was _ ((look_at m).decides X.sheet (level_in R.session mode) g n y (given R (reading m n y))))

-- OURS
pub ours_memory_shown : MemoryShown ours
ours_memory_shown f h b all mode c g a out octets m n y reads ok = shows f h b all mode c g a out m n y reads ok

-- ANY DEVICE THAT DOES WHAT IS DUE
pub memory_shown : (step : Device) → ((f : First) (h : List Event) → Rightful (step f h)) → MemoryShown step
memory_shown step rightful f h b all mode c g a out octets m n y reads ok =
    let e = one_device step rightful f b h all (request mode c g a out) octets in
    rw e (shows f h b all mode c g a out m n y reads (rw e at ok))
