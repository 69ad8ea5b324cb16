-- THE CONTRACT OF EACH CALL THAT REACHES SHEET, SESSIONS, LINK, STORE OR SLOTS, as it stands at its function, with the function's arguments in their places: what it says (`..-says`), and that
-- this is a `Call`, a `Step` or a `Turn` (`..-is`). So what is proved of `Calls`, `Steps` and `Turns` holds of what a host calls. A contract that speaks of another argument than the call's
-- is refused here, though code and contract agree.
-- `a` are a function's arguments in their order, r what came back, e what the arguments are then. Not seen: two parameters of one type exchanged in signature, contract and code at once.
use Rattle.octets.proofs.Kit.{ℕ, ◌≡◌, sym, ap, ap₂, subst, List, [], ◌∷◌, reverse, length}
use base.Logic.{SProp, ent, id⊢}
use contract.{Lifetimes.Lfts, Monad.{Fun, fact, fact_mono}}
use denote.{Triple.{Entry.{Args, Res}, Clauses.AtExit}}
use types.Logic.{Logic}
use seplogic.Ra.Ura.{Ura}
use prog.{Memory.Memory, Routine.Routine}
use Rattle.sheet.specs.Convert.{Converts}
use Rattle.slots.specs.{Slot.{slot_of, newer_of, target_of}, Parts.{begin_of, more_of, end_of}, Saving.WorksAs}
use Rattle.device.specs.{Sessions.fresh_of, Events.{Effect, Pressed}, Changed.Requested, Demand2.effect_seen, declared.Sessions.Sessions}
use Rattle.versions.specs.{Saving.SavedAs, Removing.Removed, Sequence.{saves, removes}}
use Rattle.events.specs.Events.{connect, disconnect, button, request, restore}
use Rattle.history.specs.{Keyless.Closed, Calls.{Call, connects, disconnects, presses, requests, restores}}
use Rattle.link.specs.{Serving.{with_sessions, ServedFrame}, Net.{Net, net_of}, declared.Link.Link}
use Rattle.playback.specs.{Playing.{at, played_of, Plays}, Marking.{mark_played, Marks}}
use Rattle.host.specs.{Calls.{Connects, Disconnects, Restores, gave, gave_played}, Bus.gave_served, Steps.{served_events, Step, converts, plays, marks, serves, Turn, saving, removing}}
use Rattle.host.specs.contracts.kelindap_connect as connect-fn
use Rattle.host.specs.contracts.kelindap_disconnect as disconnect-fn
use Rattle.host.specs.contracts.kelindap_button as button-fn
use Rattle.host.specs.contracts.kelindap_request as request-fn
use Rattle.host.specs.contracts.store.kelindap_restore as restore-fn
use Rattle.host.specs.contracts.kelindap_convert as convert-fn
use Rattle.host.specs.contracts.kelindap_play as play-fn
use Rattle.host.specs.contracts.kelindap_play_marked as marked-fn
use Rattle.host.specs.contracts.bus.kelindap_serve as serve-fn
use Rattle.host.specs.contracts.kelindap_fresh as fresh-fn
use Rattle.host.specs.contracts.store.kelindap_save as save-fn
use Rattle.host.specs.contracts.store.kelindap_remove as remove-fn
use Rattle.host.specs.contracts.places.kelindap_slot as slot-fn
use Rattle.host.specs.contracts.places.kelindap_slot_begin as begin-fn
use Rattle.host.specs.contracts.places.kelindap_slot_more as more-fn
use Rattle.host.specs.contracts.places.kelindap_slot_end as end-fn
use Rattle.host.specs.contracts.places.kelindap_slot_newer as newer-fn
use Rattle.host.specs.contracts.places.kelindap_slot_target as target-fn
use Rattle.host.specs.contracts.places.kelindap_slot_work as work-fn

-- a connect, a disconnect and the button give an outcome alone
abbrev silent : ℕ → Sessions → List ℕ → Effect
silent r q s = record { outcome = r; answer = []; sessions = q; sheet = s }

module _ (q : Sessions) (c r : ℕ) (q' : Sessions) (s : List ℕ) where
  connects_as : Connects q c r q' → Call (at q s) (connect c) (silent r q' s)
  connects_as p = subst (Call (at q s) (connect c)) (sym (ap₂ (λ (n : ℕ) (z : Sessions). silent n z s) p.0 p.1)) (connects c)

  disconnects_as : Disconnects q c r q' → Call (at q s) (disconnect c) (silent r q' s)
  disconnects_as p = subst (Call (at q s) (disconnect c)) (sym (ap₂ (λ (n : ℕ) (z : Sessions). silent n z s) p.0 p.1)) (disconnects c)

module _ {M : Type 1} {𝓤 : Ura M} (𝓛 : Logic 𝓤) (mem : Memory → SProp 𝓤) (run : Routine → Fun 𝓤) where
  -- a contract entails a fact
  abbrev Entails : SProp 𝓤 → Type 0 → Type 1
  Entails S T = ent 𝓤 S (fact 𝓤 T)

  -- kelindap_fresh()
  module _ (κs : Lfts 0) (a : Args fresh-fn.signature κs) (r : Res fresh-fn.signature κs) (e : AtExit fresh-fn.ended κs) where
    pub fresh_says : Entails ((fresh-fn.clauses 𝓛 mem run κs a).ensures tt r e) (r ≡ fresh_of)
    fresh_says = id⊢ 𝓤 _

    -- so a history begins with closed sessions
    pub fresh_is : (s : List ℕ) → Entails ((fresh-fn.clauses 𝓛 mem run κs a).ensures tt r e) (Closed record { sheet = s; sessions = r })
    fresh_is s = fact_mono 𝓤 _ _ (λ p. (ap (λ (q : Sessions). q.first.opened) p, ap (λ (q : Sessions). q.second.opened) p))

  -- kelindap_connect(sessions, connection)
  module _ (κs : Lfts 1) (a : Args connect-fn.signature κs) (r : Res connect-fn.signature κs) (e : AtExit connect-fn.ended κs) where
    pub connect_says : Entails ((connect-fn.clauses 𝓛 mem run κs a).ensures tt r e) (Connects a.0.now a.1.0 r e.0.now)
    connect_says = id⊢ 𝓤 _

    pub connect_is : (s : List ℕ) → Entails ((connect-fn.clauses 𝓛 mem run κs a).ensures tt r e) (Call (at a.0.now s) (connect a.1.0) (silent r e.0.now s))
    connect_is s = fact_mono 𝓤 _ _ (connects_as a.0.now a.1.0 r e.0.now s)

  -- kelindap_disconnect(sessions, connection)
  module _ (κs : Lfts 1) (a : Args disconnect-fn.signature κs) (r : Res disconnect-fn.signature κs) (e : AtExit disconnect-fn.ended κs) where
    pub disconnect_says : Entails ((disconnect-fn.clauses 𝓛 mem run κs a).ensures tt r e) (Disconnects a.0.now a.1.0 r e.0.now)
    disconnect_says = id⊢ 𝓤 _

    pub disconnect_is : (s : List ℕ) → Entails ((disconnect-fn.clauses 𝓛 mem run κs a).ensures tt r e) (Call (at a.0.now s) (disconnect a.1.0) (silent r e.0.now s))
    disconnect_is s = fact_mono 𝓤 _ _ (disconnects_as a.0.now a.1.0 r e.0.now s)

  -- kelindap_button(sheet, on)
  module _ (κs : Lfts 1) (a : Args button-fn.signature κs) (r : Res button-fn.signature κs) (e : AtExit button-fn.ended κs) where
    pub button_says : Entails ((button-fn.clauses 𝓛 mem run κs a).ensures tt r e) (Pressed a.0.now a.1.0 r e.0.now)
    button_says = id⊢ 𝓤 _

    pub button_is : (q : Sessions) → Entails ((button-fn.clauses 𝓛 mem run κs a).ensures tt r e) (Call (at q a.0.now) (button a.1.0) (silent r q e.0.now))
    button_is q = fact_mono 𝓤 _ _ (presses a.1.0 r e.0.now)

  -- kelindap_request(sessions, sheet, mode, connection, group, apdu, answer)
  module _ (κs : Lfts 4) (a : Args request-fn.signature κs) (r : Res request-fn.signature κs) (e : AtExit request-fn.ended κs) where
    pub request_says :
        Entails ((request-fn.clauses 𝓛 mem run κs a).ensures tt r e)
        (Requested a.0.now a.1.1.0 a.1.1.1.0 a.1.1.1.1.0 a.1.1.1.1.1.0.now a.1.0.now a.1.1.1.1.1.1.0.now (gave r e.0.now)
        e.1.0.now e.1.1.1.1.1.1.0.now)
    request_says = id⊢ 𝓤 _

    pub request_is :
        Entails ((request-fn.clauses 𝓛 mem run κs a).ensures tt r e)
        (Call (at a.0.now a.1.0.now) (request a.1.1.0 a.1.1.1.0 a.1.1.1.1.0 a.1.1.1.1.1.0.now a.1.1.1.1.1.1.0.now)
        (effect_seen (gave r e.0.now).done e.1.0.now e.1.1.1.1.1.1.0.now))
    request_is = fact_mono 𝓤 _ _ (λ p. requests _ _ _ _ _ _ _ _ p.call)

  -- kelindap_restore(sessions, connection, sheet, store, number)
  module _ (κs : Lfts 2) (a : Args restore-fn.signature κs) (r : Res restore-fn.signature κs) (e : AtExit restore-fn.ended κs) where
    pub restore_says :
        Entails ((restore-fn.clauses 𝓛 mem run κs a).ensures tt r e)
        (Restores a.0 a.1.0 a.1.1.0.now a.1.1.1.0.now a.1.1.1.1.0 r e.1.1.0.now)
    restore_says = id⊢ 𝓤 _

    pub restore_is :
        Entails ((restore-fn.clauses 𝓛 mem run κs a).ensures tt r e)
        (Call (at a.0 a.1.1.0.now) (restore a.1.0 a.1.1.1.1.0 a.1.1.1.0.now) (silent r a.0 e.1.1.0.now))
    restore_is = fact_mono 𝓤 _ _ (λ p. restores _ _ _ _ _ p.store_bytes p.did)

  -- kelindap_convert(sheet)
  module _ (κs : Lfts 1) (a : Args convert-fn.signature κs) (r : Res convert-fn.signature κs) (e : AtExit convert-fn.ended κs) where
    pub convert_says : Entails ((convert-fn.clauses 𝓛 mem run κs a).ensures tt r e) (Converts a.0.now r e.0.now)
    convert_says = id⊢ 𝓤 _

    pub convert_is : (k : Link) → Entails ((convert-fn.clauses 𝓛 mem run κs a).ensures tt r e) (Step (net_of k a.0.now) [] (net_of k e.0.now))
    convert_is k = fact_mono 𝓤 _ _ (converts r e.0.now)

  -- kelindap_play(sessions, sheet, trace, from, limit, log)
  module _ (κs : Lfts 4) (a : Args play-fn.signature κs) (r : Res play-fn.signature κs) (e : AtExit play-fn.ended κs) where
    pub play_says :
        Entails ((play-fn.clauses 𝓛 mem run κs a).ensures tt r e)
        (Plays a.0.now a.1.0.now a.1.1.0.now a.1.1.1.0 a.1.1.1.1.0 a.1.1.1.1.1.0.now (gave_played r e.0.now) e.1.0.now e.1.1.1.1.1.0.now)
    play_says = id⊢ 𝓤 _

    pub play_is :
        (k : Link) →
        Entails ((play-fn.clauses 𝓛 mem run κs a).ensures tt r e)
        (Step (net_of (with_sessions k a.0.now) a.1.0.now) (reverse (played_of a.1.1.0.now a.1.1.1.0 a.1.1.1.1.0 a.1.1.1.1.1.0.now))
        (net_of (with_sessions k e.0.now) e.1.0.now))
    play_is k = fact_mono 𝓤 _ _ (plays _ _ _ _ r _ _ _)

  -- kelindap_play_marked(sessions, sheet, trace, from, limit, log, before, marks, played)
  module _ (κs : Lfts 6) (a : Args marked-fn.signature κs) (r : Res marked-fn.signature κs) (e : AtExit marked-fn.ended κs) where
    pub marked_says :
        Entails ((marked-fn.clauses 𝓛 mem run κs a).ensures tt r e)
        (Marks a.0.now a.1.0.now a.1.1.0.now a.1.1.1.0 a.1.1.1.1.0 a.1.1.1.1.1.0.now a.1.1.1.1.1.1.1.1.0
        a.1.1.1.1.1.1.0.now a.1.1.1.1.1.1.1.0.now (gave_played r e.0.now) e.1.0.now e.1.1.1.1.1.0.now
        e.1.1.1.1.1.1.0.now e.1.1.1.1.1.1.1.0.now)
    marked_says = id⊢ 𝓤 _

    pub marked_is :
        (k : Link) →
        Entails ((marked-fn.clauses 𝓛 mem run κs a).ensures tt r e)
        (Step (net_of (with_sessions k a.0.now) a.1.0.now)
        (reverse
        (mark_played a.1.0.now a.1.1.0.now a.1.1.1.0 a.1.1.1.1.0 a.1.1.1.1.1.0.now a.1.1.1.1.1.1.1.1.0
        a.1.1.1.1.1.1.0.now a.1.1.1.1.1.1.1.0.now))
        (net_of (with_sessions k e.0.now) e.1.0.now))
    marked_is k = fact_mono 𝓤 _ _ (marks _ _ _ _ _ _ _ r _ _ _ _ _)

  -- kelindap_serve(link, sheet, frame, out, sequence)
  module _ (κs : Lfts 4) (a : Args serve-fn.signature κs) (r : Res serve-fn.signature κs) (e : AtExit serve-fn.ended κs) where
    pub serve_says :
        Entails ((serve-fn.clauses 𝓛 mem run κs a).ensures tt r e)
        (ServedFrame a.0.now a.1.1.1.1.0 a.1.1.0.now a.1.0.now a.1.1.1.0.now (gave_served r e.0.now) e.1.0.now e.1.1.1.0.now)
    serve_says = id⊢ 𝓤 _

    pub serve_is :
        Entails ((serve-fn.clauses 𝓛 mem run κs a).ensures tt r e)
        (Step (net_of a.0.now a.1.0.now) (served_events (net_of a.0.now a.1.0.now) a.1.1.0.now (length a.1.1.1.0.now))
        (net_of e.0.now e.1.0.now))
    serve_is = fact_mono 𝓤 _ _ (serves _ _ _ r _ _ _)

  -- kelindap_save(sheet, store)
  module _ (κs : Lfts 2) (a : Args save-fn.signature κs) (r : Res save-fn.signature κs) (e : AtExit save-fn.ended κs) where
    pub save_says : Entails ((save-fn.clauses 𝓛 mem run κs a).ensures tt r e) (SavedAs a.0.now a.1.0.now r e.1.0.now)
    save_says = id⊢ 𝓤 _

    pub save_is :
        (k : Link) →
        Entails ((save-fn.clauses 𝓛 mem run κs a).ensures tt r e)
        (Turn record { net = net_of k a.0.now; store = a.1.0.now } [] (saves a.0.now ∷ []) record { net = net_of k a.0.now; store = e.1.0.now })
    save_is k = fact_mono 𝓤 _ _ (saving r e.1.0.now)

  -- kelindap_remove(store, number)
  module _ (κs : Lfts 1) (a : Args remove-fn.signature κs) (r : Res remove-fn.signature κs) (e : AtExit remove-fn.ended κs) where
    pub remove_says : Entails ((remove-fn.clauses 𝓛 mem run κs a).ensures tt r e) (Removed a.0.now a.1.0 r e.0.now)
    remove_says = id⊢ 𝓤 _

    pub remove_is :
        (x : Net) →
        Entails ((remove-fn.clauses 𝓛 mem run κs a).ensures tt r e)
        (Turn record { net = x; store = a.0.now } [] (removes a.1.0 ∷ []) record { net = x; store = e.0.now })
    remove_is x = fact_mono 𝓤 _ _ (removing a.1.0 r e.0.now)

  -- kelindap_slot(slot)
  module _ (κs : Lfts 1) (a : Args slot-fn.signature κs) (r : Res slot-fn.signature κs) (e : AtExit slot-fn.ended κs) where
    pub slot_says : Entails ((slot-fn.clauses 𝓛 mem run κs a).ensures tt r e) (r ≡ slot_of a.0.now)
    slot_says = id⊢ 𝓤 _

  -- kelindap_slot_begin(front, room)
  module _ (κs : Lfts 1) (a : Args begin-fn.signature κs) (r : Res begin-fn.signature κs) (e : AtExit begin-fn.ended κs) where
    pub begin_says : Entails ((begin-fn.clauses 𝓛 mem run κs a).ensures tt r e) (r ≡ begin_of a.0.now a.1.0)
    begin_says = id⊢ 𝓤 _

  -- kelindap_slot_more(judging, bytes)
  module _ (κs : Lfts 1) (a : Args more-fn.signature κs) (r : Res more-fn.signature κs) (e : AtExit more-fn.ended κs) where
    pub more_says : Entails ((more-fn.clauses 𝓛 mem run κs a).ensures tt r e) (r ≡ more_of a.0 a.1.0.now)
    more_says = id⊢ 𝓤 _

  -- kelindap_slot_end(judging)
  module _ (κs : Lfts 0) (a : Args end-fn.signature κs) (r : Res end-fn.signature κs) (e : AtExit end-fn.ended κs) where
    pub end_says : Entails ((end-fn.clauses 𝓛 mem run κs a).ensures tt r e) (r ≡ end_of a.0)
    end_says = id⊢ 𝓤 _

  -- kelindap_slot_newer(first, second)
  module _ (κs : Lfts 0) (a : Args newer-fn.signature κs) (r : Res newer-fn.signature κs) (e : AtExit newer-fn.ended κs) where
    pub newer_says : Entails ((newer-fn.clauses 𝓛 mem run κs a).ensures tt r e) (r ≡ newer_of a.0 a.1.0)
    newer_says = id⊢ 𝓤 _

  -- kelindap_slot_target(first, second)
  module _ (κs : Lfts 0) (a : Args target-fn.signature κs) (r : Res target-fn.signature κs) (e : AtExit target-fn.ended κs) where
    pub target_says : Entails ((target-fn.clauses 𝓛 mem run κs a).ensures tt r e) (r ≡ target_of a.0 a.1.0)
    target_says = id⊢ 𝓤 _

  -- kelindap_slot_work(sheet, number, room, piece, buffer)
  module _ (κs : Lfts 2) (a : Args work-fn.signature κs) (r : Res work-fn.signature κs) (e : AtExit work-fn.ended κs) where
    pub work_says :
        Entails ((work-fn.clauses 𝓛 mem run κs a).ensures tt r e)
        (WorksAs a.1.1.1.0 a.1.0 a.0.now a.1.1.0 a.1.1.1.1.0.now r e.1.1.1.1.0.now)
    work_says = id⊢ 𝓤 _
