-- EVERY LEVEL WAS GIVEN: from closed sessions on, whoever has a connection has connected on it, and every level below 3 was given by a frame of its own. Assumes nothing.
use Rattle.octets.proofs.Kit.{ℕ, zero, suc, ◌+◌, ◌<◌, ◌≤◌, ◌≡◌, refl, sym, ap, subst, ◌∙◌, ◌⊎◌, inl, inr, true, false, List, [], ◌∷◌, drop, get_or, ℕ_discrete, arith, eq-eqb, ne_eqb}
use Rattle.octets.{specs.Bytes.num_at, proofs.{Truths.never, Tests.both}}
use Rattle.sheet.specs.{Layout.◌of◌, Head.rules_of}
use Rattle.sheet.specs.Head as head
use Rattle.device.specs.{Sessions.session_of, Events.State}
use Rattle.events.specs.Events.{Event, connect, disconnect, button, restore, after}
use Rattle.history.specs.{Location.{Location, key, Place, of_key}, Wish.{offer_key, asks}, Permit.{checks, heard}, History.{First, wished, opened, level, keys, key_in, content}}
use Rattle.history.{specs.{Keeps.{state_after, Begins, AllOctets}, Keyless.Closed, Isolation.is_of, Rightful.ours}, proofs.{spans.Bools.all_at, promises.Keep.keeps}}
use Rattle.account.{specs.Account.{at, byte_at, level_on, last_other, Right, Offers, offers, Entitled, by_key}, proofs.promises.Accounts.{accounts, entitled}}
use Rattle.link.specs.{Partners.address_at, Net.{Net, state_of, first_net, source_of, heard_in, Item, frame, press, time_out, give_back, events_by, net_after, events_after, AllBytes}}
use Rattle.link.specs.{Whose.{Partner}, Granted.{level_at, Joined, Granted}, declared.Arrived.TheVariants.Connect}
use Rattle.link.proofs.{promises.Kept.{as_events, all_octets}, Sessions.opened_before, promises.Whose.whose}
use Rattle.link.proofs.Items.{One, one_item, left_none, left_one, same_address_lem, connect_three, no_other, joined_address, is_request, whose_request, first, came, Connects, connects_it}

-- what an offer is
module _ (f : First) (g : List Event) (l c : ℕ) where
  offer_request : (e : Event) → Offers f g l c e → is_request e ≡ true
  unfolding is_request
  offer_request _ (offers h q) = refl

  offer_key_lem : (e : Event) → Offers f g l c e → wished e ≡ offer_key (keys f g l)
  offer_key_lem _ (offers h q) = q

  offer_own : (e : Event) → Offers f g l c e → is_of c e ≡ true
  unfolding heard
  offer_own _ (offers {mode = mode} {a = a} {out = out} h q) =
      let t = all_at (checks (rules_of f.sheet) (opened f g c) mode a out (asks a)) h 5 in
      both _ _ (rw q at t) (eq-eqb c c refl)

module _ (x : Net) (begins : Begins (first_net x)) where
  abbrev f : First
  f = first_net x

  abbrev Level : List Item → ℕ → ℕ
  Level h c = level_at (net_after x h) c

  abbrev Opened : List Item → ℕ → Type 0
  Opened h c = (session_of (net_after x h).link.sessions c).opened ≡ true

  -- what the history says of levels and keys is so of link and sheet
  pub level_is : (h : List Item) → AllBytes h → (c : ℕ) → Level h c ≡ level f (events_after x h) c
  level_is h o c =
      ap (λ (s : State). (session_of s.sessions c).level) (as_events x h) ∙ (keeps f (events_after x h) begins (all_octets x h o)).rights c

  pub opened_is : (h : List Item) → AllBytes h → (c : ℕ) → opened f (events_after x h) c ≡ true → Opened h c
  opened_is h o c e =
      ap (λ (s : State). (session_of s.sessions c).opened) (as_events x h) ∙ (keeps f (events_after x h) begins (all_octets x h o)).session c ∙ e

  key_is : (h : List Item) → AllBytes h → (l : ℕ) → l < 3 → keys f (events_after x h) l ≡ head.key l of (net_after x h).sheet
  unfolding keys key_in num_at
  key_is h o l low =
      let k = keeps f (events_after x h) begins (all_octets x h o) in
      let t : (j : ℕ) → j < 4 → get_or (net_after x h).sheet ((head.key l).at + j) 0 ≡ content f (events_after x h) (key l j) =
      λ j m. ap (λ (s : State). get_or s.sheet ((head.key l).at + j) 0) (as_events x h) ∙ k.holds (key l j) ((head.key l).at + j) (of_key low m refl) in
      omega (arith, t 0 (omega arith), t 1 (omega arith), t 2 (omega arith), t 3 (omega arith))

  -- one event more, of the events
  events_one : (h : List Item) (i : Item) (e : Event) → events_by (net_after x h) i ≡ e ∷ [] → events_after x (i ∷ h) ≡ e ∷ events_after x h
  unfolding events_after
  events_one h i e q = rw q

  -- AN EVENT AFTER WHICH THE LEVEL IS ANOTHER, below 3, offers its key
  offers_it :
      (g : List Event) (e : Event) → AllOctets (e ∷ g) → (c : ℕ) → level_on c (state_after ours f (e ∷ g)) < 3 →
      (level_on c (state_after ours f (e ∷ g)) ≡ level_on c (state_after ours f g) → ⊥) →
      Offers f g (level_on c (state_after ours f (e ∷ g))) c e
  unfolding last_other
  offers_it g e o c low n =
      by g e
      (subst (Entitled ours f (e ∷ g) c) (let t = ne_eqb (level_on c (state_after ours f (e ∷ g))) (level_on c (state_after ours f g)) n in rw t)
      (entitled f (e ∷ g) begins o c low))
    where
      by : (before : List Event) (d : Event) → Entitled ours f (e ∷ g) c (at before d) → Offers f before (level_on c (state_after ours f (e ∷ g))) c d
      by _ _ (by_key before d l k) = k

  -- AN EVENT AFTER WHICH A LOCATION'S BYTE IS ANOTHER had the right
  pub rightly :
      (g : List Event) (e : Event) → AllOctets (e ∷ g) → (y : Location) (p : ℕ) → Place x.sheet y p →
      (byte_at p (state_after ours f (e ∷ g)) ≡ byte_at p (state_after ours f g) → ⊥) → Right ours f (e ∷ g) y p g e
  unfolding last_other
  rightly g e o y p place n =
      (accounts f (e ∷ g) begins o).rightly y p place g e
      (let t = ne_eqb (byte_at p (state_after ours f (e ∷ g))) (byte_at p (state_after ours f g)) n in rw t)

  -- the same, of items
  module _ (h : List Item) (i : Item) (o : AllBytes (i ∷ h)) (e : Event) (q : events_by (net_after x h) i ≡ e ∷ []) where
    abbrev g : List Event
    g = events_after x h

    pub state_one : state_of (net_after x (i ∷ h)) ≡ state_after ours f (e ∷ g)
    state_one = as_events x (i ∷ h) ∙ ap (state_after ours f) (events_one h i e q)

    pub octets_one : AllOctets (e ∷ g)
    octets_one = subst AllOctets (events_one h i e q) (all_octets x (i ∷ h) o)

    offer_of : (c : ℕ) → Level (i ∷ h) c < 3 → (Level (i ∷ h) c ≡ Level h c → ⊥) → Offers f g (Level (i ∷ h) c) c e
    offer_of c low n =
        let z : Level (i ∷ h) c ≡ level_on c (state_after ours f (e ∷ g)) = ap (level_on c) state_one in
        let y : Level h c ≡ level_on c (state_after ours f g) = ap (level_on c) (as_events x h) in
        subst (λ (l : ℕ). Offers f g l c e) (sym z)
        (offers_it g e octets_one c (subst (λ (l : ℕ). l < 3) z low) (λ w. n (z ∙ w ∙ sym y)))

  -- a grant that lasts
  lasts :
      (h : List Item) (i : Item) (c a l : ℕ) → Partner (net_after x (i ∷ h)).link c a → Level (i ∷ h) c ≡ l → Granted x h c a l →
      Granted x (i ∷ h) c a l
  lasts h i c a l p q k =
      record { later = suc k.later; offer = k.offer; before = k.before; within = k.within; offered = k.offered; since = longer }
    where
      longer : (n : ℕ) → n ≤ suc k.later → Partner (net_after x (drop n (i ∷ h))).link c a × (Level (drop n (i ∷ h)) c ≡ l)
      longer zero m = (p, q)
      longer (suc n) m = k.since n (omega (arith, m))

  -- one item more: netAfter is netBy of the one before
  stays : (h : List Item) (i : Item) (c : ℕ) → Opened h c → address_at (net_after x (i ∷ h)).link c ≡ address_at (net_after x h).link c
  unfolding net_after
  stays h i c o = same_address_lem (net_after x h) i c o

  pub none_left : (h : List Item) (i : Item) → events_by (net_after x h) i ≡ [] → state_of (net_after x (i ∷ h)) ≡ state_of (net_after x h)
  unfolding net_after
  none_left h i q = left_none (net_after x h) i q

  one_left :
      (h : List Item) (i : Item) (e : Event) → events_by (net_after x h) i ≡ e ∷ [] →
      state_of (net_after x (i ∷ h)) ≡ after (state_of (net_after x h)) e
  unfolding net_after
  one_left h i e q = left_one (net_after x h) i e q

  address_now :
      (h : List Item) (b : List ℕ) (c : ℕ) → heard_in (net_after x h) b ≡ Connect c → Opened (frame b ∷ h) c →
      address_at (net_after x (frame b ∷ h)).link c ≡ source_of b
  unfolding net_after
  address_now h b c q op = joined_address (net_after x h) b c q op

  -- a connection that stays, and one that is taken by the newest item
  joined_lasts : (h : List Item) (i : Item) (c a : ℕ) → Partner (net_after x (i ∷ h)).link c a → Joined x h c a → Joined x (i ∷ h) c a
  joined_lasts h i c a p k =
      record { later = suc k.later; join = k.join; before = k.before; within = k.within; source = k.source; heard = k.heard; since = longer }
    where
      longer : (n : ℕ) → n ≤ suc k.later → Partner (net_after x (drop n (i ∷ h))).link c a
      longer zero m = p
      longer (suc n) m = k.since n (omega (arith, m))

  joined_now :
      (h : List Item) (b : List ℕ) (c : ℕ) → heard_in (net_after x h) b ≡ Connect c → Opened (frame b ∷ h) c →
      Joined x (frame b ∷ h) c (address_at (net_after x (frame b ∷ h)).link c)
  joined_now h b c q op =
      let s = address_now h b c q op in
      record { later = 0; join = b; before = h; within = refl; source = sym s; heard = q; since = alone }
    where
      alone : (n : ℕ) → n ≤ 0 → Partner (net_after x (drop n (frame b ∷ h))).link c (address_at (net_after x (frame b ∷ h)).link c)
      alone zero m = record { «open» = op; address = refl }
      alone (suc n) m = absurd (omega (arith, m))

  -- a grant by the newest item
  module _ (h : List Item) (c : ℕ) where
    abbrev y : Net
    y = net_after x h

    abbrev Newly : Item → Type 0
    Newly i =
        AllBytes (i ∷ h) → (e : Event) → events_by y i ≡ e ∷ [] → Opened (i ∷ h) c → Level (i ∷ h) c < 3 → (Level (i ∷ h) c ≡ Level h c → ⊥) →
        Granted x (i ∷ h) c (address_at (net_after x (i ∷ h)).link c) (Level (i ∷ h) c)

    by_frame : (b : List ℕ) → Newly (frame b)
    by_frame b o e q op low n =
        let k = offer_of h (frame b) o e q c low n in
        let r = offer_request f (events_after x h) (Level (frame b ∷ h) c) c e k in
        let own = offer_own f (events_after x h) (Level (frame b ∷ h) c) c e k in
        let p = whose_request y b c e (whose y b c e q own) r in
        let m = came y b c e q r own in
        let s : address_at (net_after x (frame b ∷ h)).link c ≡ source_of b = address b p in
        subst (λ (a : ℕ). Granted x (frame b ∷ h) c a (Level (frame b ∷ h) c)) (sym s)
        record {
          later = 0;
          offer = b;
          before = h;
          within = refl;
          offered =
              record {
                source = refl;
                partner = p;
                group = m.group;
                heard = m.heard;
                key = sym m.wish ∙ offer_key_lem f (events_after x h) (Level (frame b ∷ h) c) c e k ∙ ap offer_key (key_is h o.1 (Level (frame b ∷ h) c) low);
              };
          since = alone b (record { «open» = op; address = s });
        }
      where
        address : (b : List ℕ) → Partner y.link c (source_of b) → address_at (net_after x (frame b ∷ h)).link c ≡ source_of b
        address b p = stays h (frame b) c p.«open» ∙ p.address

        alone :
            (b : List ℕ) → Partner (net_after x (frame b ∷ h)).link c (source_of b) → (n : ℕ) → n ≤ 0 →
            Partner (net_after x (drop n (frame b ∷ h))).link c (source_of b) × (Level (drop n (frame b ∷ h)) c ≡ Level (frame b ∷ h) c)
        alone b p zero m = (p, refl)
        alone b p (suc n) m = absurd (omega (arith, m))

    other_event : (i : Item) (d : Event) → is_request d ≡ false → events_by y i ≡ d ∷ [] → Newly i
    unfolding first
    other_event i d z w o e q op low n =
        let r = offer_request f (events_after x h) (Level (i ∷ h) c) c e (offer_of h i o e q c low n) in
        never (sym z ∙ ap (λ (es : List Event). is_request (first es)) (sym w ∙ q) ∙ r)

    newly : (i : Item) → Newly i
    unfolding is_request
    newly (frame b) = by_frame b
    newly (press on) = other_event (press on) (button on) refl refl
    newly (time_out d) = other_event (time_out d) (disconnect d) refl refl
    newly (give_back d n st) = other_event (give_back d n st) (restore d n st) refl refl

  -- EVERY LEVEL BELOW 3 OF AN OPEN CONNECTION WAS GIVEN TO ITS PARTNER
  module _ (closed : Closed f) where
    shut_first : (c : ℕ) → (session_of x.link.sessions c).opened ≡ true → ⊥
    shut_first zero o = never (sym closed.0 ∙ o)
    shut_first (suc zero) o = never (sym closed.1 ∙ o)
    shut_first (suc (suc c)) o = no_other x.link.sessions c o

    first_shut : (c : ℕ) → Opened [] c → ⊥
    unfolding net_after
    first_shut c o = shut_first c o

    next :
        (h : List Item) (i : Item) → AllBytes (i ∷ h) → (c : ℕ) → Opened (i ∷ h) c → Level (i ∷ h) c < 3 →
        (Opened h c → Level h c < 3 → Granted x h c (address_at (net_after x h).link c) (Level h c)) →
        Granted x (i ∷ h) c (address_at (net_after x (i ∷ h)).link c) (Level (i ∷ h) c)
    next h i o c op low past = go (one_item (net_after x h) i)
      where
        Now : Type 0
        Now = Granted x (i ∷ h) c (address_at (net_after x (i ∷ h)).link c) (Level (i ∷ h) c)

        still : Opened h c → Level (i ∷ h) c ≡ Level h c → Now
        still was same =
            let held : address_at (net_after x (i ∷ h)).link c ≡ address_at (net_after x h).link c = stays h i c was in
            let k = past was (subst (λ (l : ℕ). l < 3) same low) in
            lasts h i c (address_at (net_after x (i ∷ h)).link c) (Level (i ∷ h) c) record { «open» = op; address = refl } refl
            (subst (λ (u : ℕ). Granted x h c u (Level (i ∷ h) c)) (sym held) (subst (λ (l : ℕ). Granted x h c (address_at (net_after x h).link c) l) (sym same) k))

        no_connect : (e : Event) → state_of (net_after x (i ∷ h)) ≡ after (state_of (net_after x h)) e → e ≡ connect c → ⊥
        no_connect e s z =
            let t : Level (i ∷ h) c ≡ 3 = ap (level_on c) (s ∙ ap (after (state_of (net_after x h))) z) ∙ connect_three (state_of (net_after x h)) c in
            omega arith

        by : (e : Event) → events_by (net_after x h) i ≡ e ∷ [] → Dec (Level (i ∷ h) c ≡ Level h c) → Now
        by e q (yes same) =
            let s = one_left h i e q in
            still (opened_before (state_of (net_after x h)) c e (no_connect e s) (ap (λ (s : State). (session_of s.sessions c).opened) (sym s) ∙ op)) same
        by e q (no n) = newly h c i o e q op low n

        go : One (events_by (net_after x h) i) → Now
        go (inl q) =
            let s = none_left h i q in
            still (ap (λ (s : State). (session_of s.sessions c).opened) (sym s) ∙ op) (ap (level_on c) s)
        go (inr k) = by k.0 k.1 (ℕ_discrete (Level (i ∷ h) c) (Level h c))

    granted_at :
        (h : List Item) → AllBytes h → (c : ℕ) → Opened h c → Level h c < 3 → Granted x h c (address_at (net_after x h).link c) (Level h c)
    granted_at [] o c op low = absurd (first_shut c op)
    granted_at (i ∷ h) o c op low = next h i o c op low (granted_at h o.1 c)

    -- WHOEVER HAS A CONNECTION HAS CONNECTED on it, and it was its own ever since
    next_joined :
        (h : List Item) (i : Item) (c : ℕ) → Opened (i ∷ h) c → (Opened h c → Joined x h c (address_at (net_after x h).link c)) →
        Joined x (i ∷ h) c (address_at (net_after x (i ∷ h)).link c)
    next_joined h i c op past = go (one_item (net_after x h) i)
      where
        Now : Type 0
        Now = Joined x (i ∷ h) c (address_at (net_after x (i ∷ h)).link c)

        still : Opened h c → Now
        still was =
            joined_lasts h i c (address_at (net_after x (i ∷ h)).link c) record { «open» = op; address = refl }
            (subst (Joined x h c) (sym (stays h i c was)) (past was))

        by : (e : Event) → events_by (net_after x h) i ≡ e ∷ [] → (e ≡ connect c → ⊥) ⊎ Connects (net_after x h) i c → Now
        by e q (inl n) =
            let s = one_left h i e q in
            still (opened_before (state_of (net_after x h)) c e n (ap (λ (s : State). (session_of s.sessions c).opened) (sym s) ∙ op))
        by e q (inr k) = subst (λ (i : Item). Opened (i ∷ h) c → Joined x (i ∷ h) c (address_at (net_after x (i ∷ h)).link c)) (sym k.is) (joined_now h k.bytes c k.heard) op

        go : One (events_by (net_after x h) i) → Now
        go (inl q) = still (ap (λ (s : State). (session_of s.sessions c).opened) (sym (none_left h i q)) ∙ op)
        go (inr k) = by k.0 k.1 (connects_it (net_after x h) i c k.0 k.1)

    joined_at : (h : List Item) (c : ℕ) → Opened h c → Joined x h c (address_at (net_after x h).link c)
    joined_at [] c op = absurd (first_shut c op)
    joined_at (i ∷ h) c op = next_joined h i c op (joined_at h c)

-- EVERY LEVEL BELOW 3 OF A PARTNER'S CONNECTION WAS GIVEN TO IT, after any history from closed sessions on
pub granted :
    (x : Net) → Begins (first_net x) → Closed (first_net x) → (h : List Item) → AllBytes h →
    (c a : ℕ) → Partner (net_after x h).link c a → level_at (net_after x h) c < 3 → Granted x h c a (level_at (net_after x h) c)
granted x begins closed h o c a p low =
    subst (λ (a : ℕ). Granted x h c a (level_at (net_after x h) c)) p.address (granted_at x begins closed h o c p.«open» low)

-- WHOEVER HAS A CONNECTION HAS CONNECTED on it, and it was its own ever since
pub joined :
    (x : Net) → Begins (first_net x) → Closed (first_net x) → (h : List Item) → (c a : ℕ) → Partner (net_after x h).link c a → Joined x h c a
joined x begins closed h c a p = subst (Joined x h c) p.address (joined_at x begins closed h c p.«open»)
