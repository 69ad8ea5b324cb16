-- NOBODY WITHOUT THE KEY CHANGES A PROTECTED BYTE: over the history alone, then of any device that keeps demand 3, then of ours.
use Rattle.octets.proofs.Kit.{ℕ, ◌%◌, ◌<◌, ◌≤◌, ◌≡◌, refl, sym, ap, subst, ◌∙◌, inl, inr, Bool, true, false, cond, ◌&&◌, List, [], ◌∷◌, reverse, ℕ_discrete, arith}
use Rattle.octets.{specs.Bytes.num_at, proofs.Truths.{never, and_is}}
use Rattle.sheet.{specs.{Kind.properties, Layout.◌of◌, Entries.entry, Places.{Stands, PropertyWith}, declared.Memory.Memory}, proofs.rules.Good.{Good, good}}
use Rattle.sheet.proofs.searches.Regions.{covers_stands}
use Rattle.sheet.specs.Head as head
use Rattle.sheet.specs.Property as property
use Rattle.judge.specs.declared.Session.{Session}
use Rattle.device.specs.Sessions.{session_of}
use Rattle.events.specs.Events.{Event, connect, disconnect, button, request, run, restore}
use Rattle.history.specs.{Location.{Location, memory, body, counter, key}, Span.{names, gives}, Wish.offer_key, Permit.entry_for}
use Rattle.history.specs.{History.{First, first_of, wished, key_in, opened, level, keys, content, permitted}, Keeps.{Device, state_after, Begins, AllOctets, Keeps}}
use Rattle.history.specs.{Keyless.{write_level, Unlocks, offers, Locked, NotOffered, Closed, Shut, Untouched, Protected}, Rightful.ours}
use Rattle.history.proofs.{spans.Bools.must_fail, promises.Said.no_connection, heard.Searches.{region_hit, property_hit}, promises.InOrder.{first_state, after_is_run}}
use Rattle.history.proofs.{steps.Invariant.first_holds, promises.Keep.keeps, steps.Requests.Spans, heard.Moves.{Moved, moved, unnamed, unrestored}}

-- the write level is the one that the entry says: of the region where an address stands, of the property with an object and id
module _ {s : List ℕ} (g : Good s) where
  pub level_of_memory : {m : Memory} {y p levels : ℕ} → Stands s m y p levels → write_level s (memory m y) ≡ levels % 16
  unfolding write_level
  level_of_memory h = rw (region_hit g (covers_stands h), h.under)

  pub level_of_property :
      {object id i : ℕ} → PropertyWith s object id i → (j : ℕ) →
      (write_level s (body object id j) ≡ property.levels of entry s properties i % 16) × (write_level s (counter object id j) ≡ property.levels of entry s properties i % 16)
  unfolding write_level entry_for
  level_of_property q j = (rw (property_hit g q), rw (property_hit g q))

module _ (l : ℕ) (low : l < 3) where
  -- ONE CONNECTION
  module _ (f : First) (c : ℕ) (closed : (session_of f.sessions c).opened ≡ false) where
    above : (h : List Event) → Locked f l c h → (opened f h c ≡ true → l < level f h c) × (l < (session_of f.sessions c).level → l < level f h c)
    unfolding opened level
    above [] k = (λ o. never (sym closed ∙ o), λ a. a)
    above (e ∷ h) k = next (above h k.1) (moved l low f h c e k.0)
      where
        next : (opened f h c ≡ true → l < level f h c) × (l < (session_of f.sessions c).level → l < level f h c) → Moved l low f h c e →
            (opened f (e ∷ h) c ≡ true → l < level f (e ∷ h) c) × (l < (session_of f.sessions c).level → l < level f (e ∷ h) c)
        next s (inl a) = (λ o. a, λ z. a)
        next s (inr q) = (λ o. rw q.0 (s.0 (q.1 o)), λ z. rw q.0 (s.1 z))

    pub shut : (h : List Event) → Locked f l c h → Shut f l c h
    shut h k = record { rights = (above h k).0; always = (above h k).1; writes = unnamed l low f h c (above h k).0; restores = unrestored l low f h c (above h k).0 }

  -- a number that is no connection's
  none_shut : (f : First) (h : List Event) (c : ℕ) → 2 ≤ c → Shut f l c h
  none_shut f h c n =
      let q = no_connection f h c n in
      let r : opened f h c ≡ true → l < level f h c = λ o. never (sym (ap (λ (t : Session). t.opened) q) ∙ o) in
      record {
        rights = r;
        always = λ a. rw (ap (λ (t : Session). t.level) q) low;
        writes = unnamed l low f h c r;
        restores = unrestored l low f h c r;
      }

  module _ (f : First) (closed : Closed f) where
    -- EVERY CONNECTION
    pub all_shut : (h : List Event) → Locked f l 0 h → Locked f l 1 h → (c : ℕ) → Shut f l c h
    all_shut h k m c = go (ℕ_discrete c 0) (ℕ_discrete c 1)
      where
        go : Dec (c ≡ 0) → Dec (c ≡ 1) → Shut f l c h
        go (yes e) d = subst (λ (i : ℕ). Shut f l i h) (sym e) (shut f 0 closed.0 h k)
        go (no n) (yes e) = subst (λ (i : ℕ). Shut f l i h) (sym e) (shut f 1 closed.1 h m)
        go (no n) (no o) = none_shut f h c (omega arith)

    -- contents protected up to l stay
    unchanged : (h : List Event) → ((c : ℕ) → Shut f l c h) → (x : Location) → write_level f.sheet x ≤ l → (e : Event) → content f (e ∷ h) x ≡ content f h x
    unfolding content permitted
    unchanged h s x w e =
        let P : Bool = permitted f h e in
        let N : Bool = names (Spans f h e) x in
        ap (λ (t : Bool). cond t (gives (Spans f h e) x) (content f h x))
        (must_fail (P && N) (λ t. let b = (and_is P N).0 t in by e b.0 b.1))
      where
        by : (e : Event) → permitted f h e ≡ true → names (Spans f h e) x ≡ true → ⊥
        by (connect c) p n = never p
        by (disconnect c) p n = never p
        by (button on) p n = never p
        by (restore c k st) p n = (s c).restores k st p
        by (request mode c g a out) p n = (s c).writes mode g a out p x w n

    -- THE BYTES
    pub keyless : (h : List Event) → Locked f l 0 h → Locked f l 1 h → Untouched f l h
    unfolding content keys key_in write_level
    keyless [] k m = record { holds = λ x w. refl; same_keys = λ n o. refl }
    keyless (e ∷ h) k m = next (keyless h k.1 m.1)
      where
        next : Untouched f l h → Untouched f l (e ∷ h)
        next u = record { holds = holds; same_keys = λ n o. rw (holds (key n 0) o, holds (key n 1) o, holds (key n 2) o, holds (key n 3) o) }
          where
            holds : (x : Location) → write_level f.sheet x ≤ l → content f (e ∷ h) x ≡ content f [] x
            holds x w = unchanged h (all_shut h k.1 m.1) x w e ∙ u.holds x w

    -- the keys of the first sheet
    first_key : (k : ℕ) → keys f [] k ≡ head.key k of f.sheet
    unfolding keys key_in content first_of num_at
    first_key k = omega arith

    -- WHERE NO KEY OF THE FIRST SHEET IS OFFERED
    pub locked : (h : List Event) → NotOffered f l h → (c : ℕ) → Locked f l c h
    locked [] o c = tt
    locked (e ∷ h) o c = next (locked h o.1)
      where
        next : ((d : ℕ) → Locked f l d h) → Locked f l c (e ∷ h)
        next k = (λ u. unlocks e u o.0, k c)
          where
            unlocks : (e : Event) → Unlocks f h l c e → ((n : ℕ) → n ≤ l → wished e ≡ offer_key (head.key n of f.sheet) → ⊥) → ⊥
            unlocks _ (offers n m heard_so asks_so) none =
                none n (omega arith) (asks_so ∙ ap offer_key ((keyless h (k 0) (k 1)).same_keys n (omega arith) ∙ first_key n))

  -- OF ANY DEVICE THAT KEEPS DEMAND 3
  module _ (step : Device) (keeping : Keeps step) (f : First) (b : Begins f) (h : List Event) (octets : AllOctets h) where
    -- the connection that has offered no key
    pub shut_device :
        (c : ℕ) → (session_of f.sessions c).opened ≡ false → Locked f l c h →
        (session_of (state_after step f h).sessions c).opened ≡ true → l < (session_of (state_after step f h).sessions c).level
    shut_device c closed locked e =
        let k = keeping f h b octets in
        rw (k.rights c) ((shut f c closed h locked).rights (sym (k.session c) ∙ e))

    pub keyless_device : Closed f → Locked f l 0 h → Locked f l 1 h → Protected f l (state_after step f h)
    keyless_device closed p q =
        let k = keeping f h b octets in
        let s = all_shut f closed h p q in
        record {
          bytes = λ y i o w. k.holds y i o ∙ (keyless f closed h p q).holds y w ∙ sym (first_holds (good f.sheet b.accepted) y i o);
          rights = λ c e. rw (k.rights c) ((s c).rights (sym (k.session c) ∙ e));
          always = λ c a. rw (k.rights c) ((s c).always a);
        }

  -- OF OURS, after any run
  pub keyless_run :
      (f : First) → Begins f → Closed f → (h : List Event) → AllOctets h → Locked f l 0 h → Locked f l 1 h →
      Protected f l (run (first_state f) (reverse h))
  keyless_run f b closed h o p q =
      rw (after_is_run f h) at (keyless_device ours keeps f b h o closed p q)
